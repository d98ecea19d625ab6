-- `Spelled`: how large a number of hexadecimal digits is, for the proofs of `word` and `byte`. `FromRight`: bytes written from the right.
pub mod Spelled
pub mod FromRight
