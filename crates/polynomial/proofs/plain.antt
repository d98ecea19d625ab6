-- What the proofs of plain arithmetic share: `Plain` (a plain value that is far from zero has the sign of the
-- compensated one, which is not near zero), from `PlainSteps` (sums and the parts of a result),
-- `PlainProducts`, `PlainStep` (one step of Horner arithmetic), `PlainSize` (a coefficient in units), `PlainScale` (the
-- sum of magnitudes), `PlainMagnitudes` (the sum with the residuals, and the bound of `near-zero`).
pub mod Sure
mod PlainSteps
mod PlainProducts
mod PlainStep
mod PlainSize
mod PlainScale
mod PlainMagnitudes
mod Plain
