-- What the proofs of the root finder share.
mod Linear
pub mod Kept
mod Events
pub mod Cycle
pub mod Ways
mod Gathered
mod Scanned
mod Looked
