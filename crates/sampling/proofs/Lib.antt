-- What the proofs of several functions share: cuts that grow (`Grown`), lists of cuts one after the other (`Laid`), roots and
-- curves one by one (`CriticalSlices`), curves of both ends (`Curves`), what opens literals and how long lists are (`Literals`, `Lengths`).
-- `Laws`: theorems that upper crates cite.
pub mod Laws
mod Grown
mod Curves
mod Literals
mod Lengths
mod Laid
mod CriticalSlices
