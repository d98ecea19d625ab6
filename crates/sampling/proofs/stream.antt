-- What the proofs of the stream share.
mod Steps
