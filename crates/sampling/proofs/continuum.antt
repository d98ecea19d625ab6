-- What the proofs of `continuum` share.
pub mod Steps
