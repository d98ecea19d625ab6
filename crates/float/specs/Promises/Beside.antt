-- An arctangent and an angle from what was worked out before, and numbers side by side: what inner functions promise one another. Definitions only.
use Rattle.std.specs.Prelude.{cond, ◌||◌, List, [], ◌∷◌, is_nan, Float}
use Rattle.std.specs.Float.{nan}
use Rattle.std.specs.Float.Ieee.{neg, lt, le}
use Rattle.float.specs.Number.{◌⊕◌, ◌⊖◌, ◌⊘◌, abs, zero_float, one_float, two_float}
use Rattle.float.specs.Trig.{P, copysign}

-- the arctangent of x from v, that of the reduced x
unfoldable pub restored : Float → Float → Float
restored x v = copysign (cond (lt one_float (abs x)) (P ⊘ two_float ⊖ v) v) x

-- the angle of the point (x, y) from v, the arctangent of y / x
unfoldable pub placed : Float → Float → Float → Float
placed y x v =
    cond (is_nan y || is_nan x) nan
    (cond (lt zero_float x) v
    (cond (lt x zero_float) (cond (le zero_float y) (v ⊕ P) (v ⊖ P))
    (cond (lt zero_float y) (P ⊘ two_float) (cond (lt y zero_float) (neg (P ⊘ two_float)) zero_float))))

-- f of each number and the one beside it
abbrev pub beside : (Float → Float → Float) → List Float → List Float → List Float
beside f [] xs = []
beside f (y ∷ ys) [] = []
beside f (y ∷ ys) (x ∷ xs) = f y x ∷ beside f ys xs
