-- Laws of the root finder's definitions, for upper crates to cite.
-- Lists: `Cuts` (insertion is adding one more element; the order of arrival does not matter), `Placed` and `Held`
-- (such lists in lent slices), `Lists` (what holds of every element; loops that fill and move).
-- Roots: `Bisection` (a bisection ends inside its interval; more steps change nothing), `Degree`
-- (any count as large as the number of coefficients gives the same roots),
-- `Enclosed` (roots and partition points lie between the bounds and increase strictly; how many there are), `Bounds` (bounds that hold can be bisected).
-- Kinds: `Kinds` (the values of the marked roots are the roots; the kinds by the number of coefficients).
-- The operation: `Operation` (what the list is like; what numbers answers have).
-- Angles: `Wrapped` (a wrapped angle lies within P).
-- Signs: `Plain` (a plain value that is far from zero has the sign of the compensated one, which is not
-- near zero), from `PlainSteps` (sums and the parts of a result), `PlainProducts`,
-- `PlainStep` (one step of Horner arithmetic), `PlainSize` (a coefficient in units), `PlainScale` (the sum of
-- magnitudes), `PlainMagnitudes` (the sum with the residuals, and the bound of `near-zero`).
-- Arrays: `Nine` (a polynomial in nine places: its coefficients read back).
-- Curves: `Norm` (how many roots a squared norm has), `Size` (how large the parts of sums and products get, by powers of two),
-- `InnerCalls` (a small inner call is fair, and Roots takes a fair one), `SmallNorm` (those of a squared norm are fair).
pub mod Cuts
pub mod Held
pub mod Lists
pub mod Nine
pub mod Bisection
pub mod Degree
pub mod Enclosed
pub mod Wrapped
pub mod Bounds
pub mod Kinds
pub mod Operation
pub mod Norm
pub mod Size
pub mod InnerCalls
pub mod SmallNorm
