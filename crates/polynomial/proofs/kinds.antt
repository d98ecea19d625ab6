-- What the proofs of `marked` and `mark` share.
pub mod Marks
