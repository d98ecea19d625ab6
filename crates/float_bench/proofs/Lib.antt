-- The law on lists that the proofs of the loops cite.
pub mod Places
