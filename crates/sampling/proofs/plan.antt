-- What the proofs of the plan share.
mod Asked
