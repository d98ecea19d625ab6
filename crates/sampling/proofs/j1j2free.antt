-- What the proofs of `j1j2free` share.
pub mod Both
