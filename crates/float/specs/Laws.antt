-- Laws of the float floor's definitions and of `lib.Ieee`, for upper crates to cite.
-- Negation: `Sign` (minus goes through each operation), `Like` (equal as numbers; `Opp`, opposite), `MulAdd` (the same of the fused product).
-- Order: `Total` (the order of `total_cmp` is total, transitive and antisymmetric up to bits),
-- `Tests` (the code's tests), `Le` (one linear inequality; rounding is monotone).
-- Ranges: `Within` and `Beyond` (bounds by closed tests), `Remainder` (within its divisor),
-- `Interval` (with signs), `Range` (from the code's tests), `Zero` (what is zero, what
-- is finite), `Extremes` (the largest value), `Literals` (constants of the code),
-- `Under` (bounds by powers of two, for any exponent).
-- Exactness: `Units` (values as whole numbers of units, and their order), `Near` (half a unit),
-- `Whole` (the counts of units as functions), `Close` (errors of rounding, in units), `Half` (the same of a half; closeness as a bound),
-- `Operand` (an operand's halves are its own).
-- Bisection: `Middle` (the middle of an interval lies in it, and each half is narrower), `Between` (it stands between the ends in the order of `total_cmp`),
-- `Narrow` (the halves of an interval around a centre are hardly wider than P, and their half angles within 101/128).
-- Roots: `Grow` (what is not negative: squares, sums that do not go down), `Root` (bounds through the square root; normalized parts are within 2).
-- Rounding to whole numbers: `Compare` (what `compare` answers), `Cut` (a number cut with its last digit set rounds as the whole of it does).
-- Module 2: `Floor`, `Reduce` (the whole number of quarter turns and the reduced argument), `Sine`, `Trigonometry`, `Arctangent` (bounds on the results),
-- `TanSign` (the sign of a tangent).
pub mod Sign
pub mod Like
pub mod MulAdd
pub mod Total
pub mod Tests
pub mod Le
pub mod Within
pub mod Remainder
pub mod Interval
pub mod Range
pub mod Under
pub mod Zero
pub mod Literals
pub mod Units
pub mod Near
pub mod Compare
pub mod Cut
pub mod Whole
pub mod Close
pub mod Half
pub mod Operand
pub mod Extremes
pub mod Middle
pub mod Between
pub mod Grow
pub mod Root
pub mod Floor
pub mod Reduce
pub mod Sine
pub mod Trigonometry
pub mod TanSign
pub mod Narrow
pub mod Arctangent
