-- From the boundary angles of one free joint to its samples: the end of `sample_angles` of continuum.rs
-- (01, module 5). Cuts: each interval's list after its dedup. Definitions only.
use Rattle.std.specs.Prelude.{None, Some, ◌&&◌, cond, List, [], ◌∷◌, ◌++◌, ℕ, zero, suc, ◌*◌, Float}
use Rattle.std.specs.Float.Ieee.{neg, le}
use Rattle.std.specs.Float.Ieee.Scale.{finite}
use Rattle.float.specs.Number.{◌⊕◌, ◌⊖◌, ◌⊗◌, ◌⊘◌, abs, minimum, maximum, middle, zero_float, one_float}
use Rattle.float.specs.Trig.{four_float}
use Rattle.polynomial.specs.Angle.{two_pi}
use Rattle.polynomial.specs.Cuts.{cuts}
use Rattle.sampling.specs.Continuum.{root_roundoff}
use Rattle.sampling.specs.Intervals.{Range}

-- an angle where it lies in the interval, ends included
unfoldable pub inside : Float → Float → Float → List Float
inside lower upper angle = cond (le lower angle && le angle upper) (angle ∷ []) []

-- An angle, a turn below, as it is and a turn above: roots are wrapped, and an interval around a reference reaches up to half a turn beyond.
unfoldable pub copies : Float → Float → Float → List Float
copies lower upper angle =
    (inside lower upper (angle ⊕ neg one_float ⊗ two_pi) ++ inside lower upper (angle ⊕ zero_float ⊗ two_pi)) ++ inside lower upper (angle ⊕ one_float ⊗ two_pi)

unfoldable pub all_copies : Float → Float → List Float → List Float
all_copies lower upper [] = []
all_copies lower upper (angle ∷ angles) = copies lower upper angle ++ all_copies lower upper angles

-- a root that is not finite bounds nothing
unfoldable pub windings : Float → Float → Float → List Float
windings lower upper root = cond (finite root) (copies lower upper root) []

unfoldable pub all_windings : Float → Float → List Float → List Float
all_windings lower upper [] = []
all_windings lower upper (root ∷ roots) = windings lower upper root ++ all_windings lower upper roots

-- The ends of a displacement interval around the reference, and the roots between them. Roots that
-- differ are all kept, however near: a narrow range may lie between them.
unfoldable pub interval_values : Float → List Float → Range → List Float
interval_values near roots None = []
interval_values near roots (Some (lower, upper)) =
    ((near ⊕ lower) ∷ [] ++ (near ⊕ upper) ∷ []) ++ all_windings (near ⊕ lower) (near ⊕ upper) roots

unfoldable pub interval_cuts : Float → List Float → Range → List Float
interval_cuts near roots range = cuts (interval_values near roots range)

-- How far inside a pair of neighbouring cuts the outer samples lie: so far that rounding does not undo it, and at most a quarter of the way.
unfoldable pub inset : Float → Float → Float
inset lower upper = minimum (root_roundoff ⊗ (one_float ⊕ maximum (abs lower) (abs upper))) ((upper ⊖ lower) ⊘ four_float)

-- Three samples between two neighbours. At a cut two ranges may touch; the samples beside it keep a range that rounding closes at the cut itself.
unfoldable pub between : Float → Float → List Float
between lower upper = (lower ⊕ inset lower upper) ∷ (middle lower upper ∷ ((upper ⊖ inset lower upper) ∷ []))

unfoldable pub all_between : List Float → List Float
all_between [] = []
all_between (a ∷ []) = []
all_between (a ∷ (b ∷ l)) = between a b ++ all_between (b ∷ l)

-- the cuts, then the samples between neighbours, not sorted
unfoldable pub samples : List Float → List Float
samples l = l ++ all_between l

-- how many: the cuts, and three for each pair of neighbours
abbrev pub sample_count : ℕ → ℕ
sample_count zero = 0
sample_count (suc k) = suc (4 * k)

-- the samples of three intervals, one after the other
unfoldable pub three_samples : List Float → List Float → List Float → List Float
three_samples a b c = (samples a ++ samples b) ++ samples c
