-- What the proofs of reads, writes and comparisons of bytes use.

pub mod Same
