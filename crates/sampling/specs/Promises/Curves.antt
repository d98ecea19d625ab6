-- What is promised of the boundary curves' number, and of those of both ends of a range. `CURVES` in the code is the same number; `Laws.SliceCounts`
-- proves that the definitions have no more.
use Rattle.std.specs.Prelude.{None, Some, ◌≡◌, ℕ, List, [], ◌∷◌, ◌++◌, Float}
use Rattle.polynomial.specs.declared.curve.Curve.{Curve}
use Rattle.sampling.specs.Intervals.{Range}

-- two for each of joint 2's interval, the poles and joints 4, 5 and 6, and eight for the phases at a pole
abbrev pub most_curves : ℕ
most_curves = 18

-- At each end of a range a curve that is one of its angle came to a list, in order.
abbrev pub AtEnds : (Float → Curve → Type 0) → Range → List Curve → List Curve → Type 0
AtEnds Is None old new = new ≡ old
AtEnds Is (Some (lower, upper)) old new = (a : Curve) × (b : Curve) × Is lower a × Is upper b × (new ≡ old ++ (a ∷ [] ++ b ∷ []))
