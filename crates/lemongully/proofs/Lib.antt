-- What the proofs of several files use: `Signed` (refusals' numbers for C).
mod Signed
