mod Horner
mod Trim
pub mod Every
