-- From a job's numbers to its angles: document 01's modules 4 to 6. A reader must believe:
-- of module 4, `Constraints`, `Intervals`, `Pose`, `Limits`;
-- of module 5, `Continuum` (first harmonics and where they meet a target), `J1free`, `J2free`, `Marks`, `Wrist`, `Rays` and `Bends` (the boundary
-- angles of joints 4, 5 and 6, in order), `Samples` (from boundary angles to cuts and samples), `SampleAngles` (the angles of one free joint);
-- of module 6, `Boundaries` (the boundary curves of two free joints), `BendSlices` (the slices of narrow bends),
-- `Pairs` and `CriticalSlices` (in which order curves are taken, and where they meet), `Slices` and `J1j2free` (the values at which joint 1 is tried);
-- of both, `Angles` (a job's angles by its kind) and `Reads` (which fields of a job each kind reads).
-- `RustOrder`: the order of pairs before 02's change 3 and what went by it, to compare with; nothing is promised by it.
-- `InnerCalls`: the inner calls of the root finder that a job makes, to say what is proved of each.
-- `Promises`: what functions promise one another, and `plan_of` its callers. The theorems that upper crates cite are `Laws` of `proofs`.
pub mod Constraints
pub mod Intervals
pub mod Pose
pub mod Limits
pub mod Continuum
pub mod J1free
pub mod J2free
pub mod Marks
pub mod Wrist
pub mod Rays
pub mod Bends
pub mod Samples
pub mod SampleAngles
pub mod Boundaries
pub mod BendSlices
pub mod Pairs
pub mod CriticalSlices
pub mod Slices
pub mod J1j2free
pub mod Angles
pub mod Reads
pub mod RustOrder
pub mod InnerCalls
pub mod Promises
