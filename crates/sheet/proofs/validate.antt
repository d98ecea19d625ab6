-- What the proofs of the loops over the tests and over the name use.

mod Steps
mod Names
