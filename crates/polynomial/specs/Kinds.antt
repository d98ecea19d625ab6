-- How a root arose: touching or crossing (02, change 1). Definitions only.
use Rattle.std.specs.Prelude.{ℕ, zero, suc, Bool, false, ◌||◌, cond, List, [], ◌∷◌, map, length, Float}
use Rattle.std.specs.Float.Ieee.{eq}
use Rattle.polynomial.specs.Polynomial.{trim, derivative}
use Rattle.polynomial.specs.Roots.{partitions, touches, roots}
use Rattle.polynomial.specs.declared.compensated.Compensated.{Compensated}
use Rattle.polynomial.specs.declared.kinds.Root.{Root}
use Rattle.polynomial.specs.declared.kinds.Root.TheVariants.{Touch, Crossing}

-- each root carries its value
abbrev pub value : Root → Float
value (Touch x) = x
value (Crossing x) = x

-- 1 for a touch and 2 for a crossing
abbrev pub kind : Root → ℕ
kind (Touch x) = 1
kind (Crossing x) = 2

-- an element of the list equals x as a number: -0.0 equals +0.0
unfoldable pub among : Float → List Float → Bool
among x [] = false
among x (y ∷ l) = eq x y || among x l

-- A root that equals a partition point near zero is a touch, also where it is the end of a bisection as well.
abbrev pub marked : List Float → Float → Root
marked near x = cond (among x near) (Touch x) (Crossing x)

-- The partition points near zero, for a trimmed polynomial of n coefficients. Degree 1 has none: its quotient counts as a crossing.
unfoldable pub near_points : ℕ → List Compensated → Float → Float → List Float
near_points zero p lower upper = []
near_points (suc zero) p lower upper = []
near_points (suc (suc zero)) p lower upper = []
near_points (suc (suc (suc n))) p lower upper = touches p (partitions lower upper (roots (derivative p) lower upper))

-- The roots, each as it arose: by the partition points of its own degree.
unfoldable pub marked_roots : List Compensated → Float → Float → List Root
marked_roots p lower upper = map (marked (near_points (length (trim p)) (trim p) lower upper)) (roots p lower upper)

-- their kinds, as they stand in the second lent slice
abbrev pub kinds : List Compensated → Float → Float → List ℕ
kinds p lower upper = map kind (marked_roots p lower upper)
