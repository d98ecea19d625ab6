-- What inner functions promise one another: `Polar` (crossings in steps), `Deferred` and `Grown` (deferred crossings
-- and cuts that grow), `Curves` (how many boundary curves, and those of both ends of a range), `Numerators` (a curve's polynomials, and
-- with each earlier curve's), `Halves` (cuts of both halves in work), `Charts` (halves whose charts the root finder takes), `Stream` (slices one at a time),
-- `Plan` (what `plan_of` answers and leaves in work, and the angles read off the cuts there).
pub mod Polar
pub mod Deferred
pub mod Grown
pub mod Stream
pub mod Plan
pub mod Curves
pub mod Numerators
pub mod Halves
pub mod Charts
