-- What the proofs of the bisection share.
pub mod Steps
