-- The root finder (01, module 3). The roots of degree d come from partition points, and those from the derivative's roots. Definitions only.
use Rattle.std.specs.Prelude.{ℕ, zero, suc, ◌^◌, Bool, true, false, not, ◌&&◌, ◌||◌, cond, List, [], ◌∷◌, ◌++◌, length, get_or, Float}
use Rattle.std.specs.Bool.{beq}
use Rattle.std.specs.Float.Ieee.{eq, le, neg}
use Rattle.float.specs.Number.{◌⊘◌, negative, middle, zero_float}
use Rattle.polynomial.specs.Compensated.{value}
use Rattle.polynomial.specs.Cuts.{cuts}
use Rattle.polynomial.specs.Polynomial.{zero_pair, evaluate, near_zero, trim, all_finite, derivative}
use Rattle.polynomial.specs.declared.compensated.Compensated.{Compensated}

-- ---- bisecting an interval until no float lies strictly inside

-- the middle is one of the ends
abbrev pub ends : Float → Float → Bool
ends lo hi = eq (middle lo hi) lo || eq (middle lo hi) hi

-- What a step gives: the middle m where no float is inside (`stop`) or the value there is zero (`hit`), else the result in the upper half
-- where the sign at m is that at lo (`same`), or in the lower. The halves' results wait, so that only the one asked for is worked out.
abbrev pub one_step : Bool → Bool → Bool → Float → (Unit {0} → Float) → (Unit {0} → Float) → Float
one_step true hit same m above below = m
one_step false true same m above below = middle m m
one_step false false true m above below = above tt
one_step false false false m above below = below tt

-- The middle of the last interval. f is what is bisected, p whether its sign at lo is positive. The number counts the steps that are left.
unfoldable pub bisect_steps : (Float → Float) → Bool → ℕ → Float → Float → Float
bisect_steps f p zero lo hi = middle lo hi
bisect_steps f p (suc n) lo hi =
    let m = middle lo hi in
    one_step (ends lo hi) (eq (f m) zero_float) (beq (not (negative (f m))) p) m (λ _. bisect_steps f p n m hi) (λ _. bisect_steps f p n lo m)

-- Between two floats within ±4 there are fewer than 2 ^ 1078 of the smallest values, and each step
-- takes off one at least: more steps change nothing (`Bisection` of Laws).
unfoldable pub bisected : (Float → Float) → Bool → Float → Float → Float
bisected f p lo hi = bisect_steps f p (2 ^ 1078) lo hi

-- ---- partition points

-- The bounds and what lies between, sorted, each once. Between two neighbours the polynomial rises
-- or falls throughout, so that a change of sign there is one simple root.
abbrev pub partitions : Float → Float → List Float → List Float
partitions lower upper inner = cuts (lower ∷ (inner ++ (upper ∷ [])))

-- the points that are near zero: a repeated root is a point where the derivative is zero, and no sign changes there
unfoldable pub touches : List Compensated → List Float → List Float
touches p [] = []
touches p (x ∷ xs) = cond (near_zero p x) (x ∷ touches p xs) (touches p xs)

-- the values at two neighbours have different signs, and neither is zero
abbrev pub crosses : Float → Float → Bool
crosses u v = not (eq u zero_float || eq v zero_float || beq (negative u) (negative v))

abbrev pub crossing : Bool → (Unit {0} → Float) → List Float → List Float
crossing true z l = z tt ∷ l
crossing false z l = l

-- for each two neighbours whose values do, the end of the bisection between them
unfoldable pub crossings : List Compensated → List Float → List Float
crossings p [] = []
crossings p (a ∷ []) = []
crossings p (a ∷ (b ∷ r)) = crossing (crosses (evaluate p a) (evaluate p b)) (λ _. bisected (evaluate p) (not (negative (evaluate p a))) a b)
    (crossings p (b ∷ r))

-- ---- roots

-- the root of a + b x, where it lies between the bounds
unfoldable pub quotient : Compensated → Compensated → Float → Float → List Float
quotient a b lower upper =
    let root = neg (value a) ⊘ value b in
    cond (le lower root && le root upper) (root ∷ []) []

-- The roots of a trimmed polynomial of n coefficients; the derivative's roots wait. Of two roots only an equal one goes: near ones are not merged,
-- since the angles between them may be valid, however narrow the interval is beside a step of sampling.
unfoldable pub by_count : ℕ → List Compensated → Float → Float → (Unit {0} → List Float) → List Float
by_count zero p lower upper inner = []
by_count (suc zero) p lower upper inner = []
by_count (suc (suc zero)) p lower upper inner = quotient (get_or p 0 zero_pair) (get_or p 1 zero_pair) lower upper
by_count (suc (suc (suc n))) p lower upper inner = let points = partitions lower upper (inner tt) in cuts (touches p points ++ crossings p points)

-- leading zeros are removed; a part that is not finite leaves no root. The number counts the degrees that are left
unfoldable pub roots_at : ℕ → List Compensated → Float → Float → List Float
roots_at zero p lower upper = []
roots_at (suc k) p lower upper = by_count (cond (all_finite (trim p)) (length (trim p)) 0) (trim p) lower upper
    (λ _. roots_at k (derivative (trim p)) lower upper)

-- Any count as large as the number of coefficients gives the same (`Degree` of Laws).
unfoldable pub roots : List Compensated → Float → Float → List Float
roots p lower upper = roots_at (length p) p lower upper
