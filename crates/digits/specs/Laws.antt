-- `Stores`: runs of bytes stored one after the other. `Lengths`: how many digits there are. `Columns`: what is written from the right is the number in its
-- columns. `Based`: digits in bases 10 and 16.
pub mod Stores
pub mod Lengths
pub mod Columns
pub mod Based
