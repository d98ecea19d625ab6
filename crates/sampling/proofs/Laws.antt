-- Laws of the definitions, for upper files to cite.
-- `Intervals` (a limit interval is in order and lies within P), `Limits` (the ends of a joint's interval are in order and lie within a turn),
-- `ChartBounds` and `Charts` (the root finder takes the bounds of both halves' charts of such an interval),
-- `Pose` (the parts of a normalized quaternion lie within 2, the entries of its matrix within 17),
-- `Samples` (roots one by one, the sample at each position), `AngleCounts` (how many boundary angles, cuts and
-- angles of one free joint at most), `Pairs` (each pair stands in the order once, nothing else does, a curve more only adds at
-- its end), `CriticalSlices` (what curves give, curve by curve),
-- `SmallCurves` (how large the polynomials of a chart's calls are at most), `SmallBoundaries` (how large the boundary curves'
-- coefficients), `InnerCalls` (every inner call of the root finder that a job makes is fair),
-- `Weave` (a list with the middles of its neighbours: its values, its length, its places),
-- `Slices` (the values at which joint 1 is tried are what the stream has; how many at most; the reference is among them),
-- `Least`, `Heads` and `Step` (a step of the stream gives the first of what is to come), `Woven` (the cuts of
-- values within ±32 can be streamed), `Plan` (where a job's plan is laid, the angles read off work are the job's,
-- and depend on its front alone), `J1j2free` (the cuts of a half as those of one list),
-- `SliceCounts` (how many curves, bends and cuts of two free joints at most), `SliceBounds` (the cuts of both
-- halves can be streamed), `Reference` (joint 1's reference as a model angle lies within P),
-- `Angles` (how many angles a job has at most; kind 3 tries the reference), `AngleBounds` (every angle lies within ±32),
-- `Reads` (what is not read changes no angle and no number of cuts), `Fit` (the format holds every angle),
-- `Nested` (definitions of one sentence, test by test), `RustOrder` (the order of pairs is a permutation of the Rust's,
-- so every angle and number of cuts is that of before).
pub mod Intervals
pub mod Limits
pub mod ChartBounds
pub mod Charts
pub mod Pose
pub mod Samples
pub mod AngleCounts
pub mod Weave
pub mod Slices
pub mod Least
pub mod Heads
pub mod Step
pub mod Woven
pub mod Plan
pub mod J1j2free
pub mod Pairs
pub mod CriticalSlices
pub mod SmallCurves
pub mod SmallBoundaries
pub mod InnerCalls
pub mod SliceCounts
pub mod SliceBounds
pub mod Reference
pub mod Angles
pub mod AngleBounds
pub mod Reads
pub mod Nested
pub mod Fit
pub mod RustOrder
