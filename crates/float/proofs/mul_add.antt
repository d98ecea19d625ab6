pub mod Left
pub mod Aligned
pub mod Finished
pub mod Sums
pub mod Special
pub mod Fuse
