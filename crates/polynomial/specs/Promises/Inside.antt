-- What the inner functions of the root finder ask and promise: an interval can be bisected where it is a
-- `Span 2`, two floats within ±4 in order. Nothing that a public contract says.
use Rattle.std.specs.Prelude.{ℕ, ◌<◌, ◌≡◌, List, [], ◌∷◌, ◌++◌, map, Bool, not, ◌&&◌, cond, Float}
use Rattle.std.specs.Bool.{beq}
use Rattle.std.specs.Float.{binary64}
use Rattle.std.specs.Float.Ieee.{eq}
use Rattle.std.specs.Float.Ieee.Scale.{finite}
use Rattle.float.specs.Number.{negative, middle, zero_float}
use Rattle.float.specs.Promises.Order.{width, Span}
use Rattle.polynomial.specs.Cuts.{cuts, put}
use Rattle.polynomial.specs.Polynomial.{near_zero, trim, all_finite, derivative}
use Rattle.polynomial.specs.Roots.{touches, crosses, crossings, bisected, partitions, roots}
use Rattle.polynomial.specs.Kinds.{kind, marked}
use Rattle.polynomial.specs.declared.compensated.Compensated.{Compensated}
use Rattle.polynomial.specs.declared.bisection.Half.{Half}
use Rattle.polynomial.specs.declared.bisection.Half.TheVariants.{Upper, Lower}
use Rattle.std.specs.declared.ops.ControlFlow.{ControlFlow}
use Rattle.std.specs.declared.ops.ControlFlow.TheVariants.{Continue, Break}

-- each two neighbours are such an interval
abbrev pub Ready : List Float → Type 0
Ready [] = Unit {0}
Ready (a ∷ []) = Unit {0}
Ready (a ∷ (b ∷ r)) = Span 2 a b × Ready (b ∷ r)

-- v has the sign of w, and is zero where that is: it can stand for it where two values are compared
abbrev pub Stands : Float → Float → Type 0
Stands v w = (eq v zero_float ≡ eq w zero_float) × (negative v ≡ negative w)

-- the cuts l with x, where the value there is near zero
abbrev pub touched : List Compensated → Float → List Float → List Float
touched p x l = cond (near_zero p x) (put x l) l

-- the cuts l with the end of the bisection between the points lo and hi, whose values u and v cross zero
abbrev pub crossed : (Float → Float) → Float → Float → Float → Float → List Float → List Float
crossed f lo hi u v l = cond (crosses u v) (put (bisected f (not (negative u)) lo hi) l) l

-- the points near zero and the ends of the bisections, of given points
abbrev pub found : List Compensated → List Float → List Float
found p points = cuts (touches p points ++ crossings p points)

-- the partition points: the bounds, with the derivative's roots between them
abbrev pub points_of : List Compensated → Float → Float → List Float
points_of p lower upper = partitions lower upper (roots (derivative p) lower upper)

-- the coefficients that count: trimmed, and none where a part is not finite
abbrev pub counting_of : List Compensated → List Compensated
counting_of p = cond (all_finite (trim p)) (trim p) []

-- the kinds of roots l, by the partition points near zero
abbrev pub kinds_of : List Float → List Float → List ℕ
kinds_of near l = map kind (map (marked near) l)

-- A step of the bisection: m is the middle, v the value there, p whether the value at lo is positive. It says the result, or the half to go on in.
unfoldable pub step_at : Float → Float → Float → Float → Bool → ControlFlow Float Half
step_at lo hi m v p = cond (eq m lo) (Break m) (cond (eq m hi) (Break m)
    (cond (eq v zero_float) (Break (middle m m)) (cond (beq (not (negative v)) p) (Continue Upper) (Continue Lower))))

-- the result, or what is left in the upper half, or in the lower
abbrev pub goes_on : {A : Type 0} → ControlFlow Float Half → ControlFlow Float A → ControlFlow Float A → ControlFlow Float A
goes_on (Break x) above below = Break x
goes_on (Continue Upper) above below = above
goes_on (Continue Lower) above below = below

-- the ends of an interval
abbrev pub Ends : Type 0
Ends = Float × Float

-- what a step leaves
unfoldable pub narrowed_once : Float → Float → Float → Float → Bool → ControlFlow Float Ends
narrowed_once lo hi m v p = goes_on (step_at lo hi m v p) (Continue (m, hi)) (Continue (lo, m))

-- from x to y is narrower than from lo to hi, and the bisection of f there ends in the same result
abbrev pub Narrower : (Float → Float) → Bool → Float → Float → Float → Float → Type 0
Narrower f p lo hi x y = (width binary64 x y < width binary64 lo hi) × Span 2 x y × (bisected f p x y ≡ bisected f p lo hi)

-- what steps leave of the bisection of f from lo to hi: its result, or a narrower interval
abbrev pub Leaves : (Float → Float) → Bool → Float → Float → ControlFlow Float Ends → Type 0
Leaves f p lo hi (Break x) = x ≡ bisected f p lo hi
Leaves f p lo hi (Continue e) = Narrower f p lo hi e.0 e.1

-- the same, or the interval itself
abbrev pub Rest : (Float → Float) → Bool → Float → Float → ControlFlow Float Ends → Type 0
Rest f p lo hi (Break x) = x ≡ bisected f p lo hi
Rest f p lo hi (Continue e) = Span 2 e.0 e.1 × (bisected f p e.0 e.1 ≡ bisected f p lo hi)

-- both parts are finite
abbrev pub finite_parts : Compensated → Bool
finite_parts c = finite c.high && finite c.low
