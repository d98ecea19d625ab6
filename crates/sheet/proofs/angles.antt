-- What the proofs of `put_list` and the functions above it use.

pub mod Runs
