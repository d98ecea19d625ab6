-- What plain Horner arithmetic, on the high parts alone, says of a compensated value: where
-- the plain value is far from zero beside the coefficients' magnitudes,
-- both have one sign, and the compensated value is not near zero. Nothing that a public contract says.
use Rattle.std.specs.Prelude.{◌≡◌, Bool, true, false, cond, List, [], ◌∷◌, T, pos, negsuc, Option, Some, None, Float}
use Rattle.std.proofs.Props.{props}
use Rattle.std.specs.Coded.{×_prop, Unit-prop}
use Rattle.std.specs.Float.{fin, binary64}
use Rattle.std.specs.Float.Ieee.{fits, neg, lt, le, eq}
use Rattle.float.specs.Number.{◌⊕◌, ◌⊗◌, abs, negative, zero_float, one_float}
use Rattle.polynomial.specs.Polynomial.{evaluate, near_zero}
use Rattle.polynomial.specs.declared.compensated.Compensated.{Compensated}

-- the value at x of the high parts, by Horner arithmetic
unfoldable pub plain : List Compensated → Float → Float
plain [] x = zero_float
plain (c ∷ cs) x = plain cs x ⊗ x ⊕ c.high

-- their magnitudes, added up as the value is
unfoldable pub scale : List Compensated → Float → Float
scale [] x = zero_float
scale (c ∷ cs) x = scale cs x ⊗ abs x ⊕ abs c.high

-- 2 ^ 500 and 2 ^ 52
abbrev pub largest : Float
largest = fin false 1 (pos 500)

abbrev pub lift : Float
lift = fin false 1 (pos 52)

-- the least scale, 2 ^ -1010, and how far the plain value has to be from zero, as a part of the scale: 2 ^ -43
abbrev pub least : Float
least = fin false 1 (negsuc 1009)

abbrev pub margin : Float
margin = fin false 1 (negsuc 42)

-- a coefficient whose residual is small beside its rounded value, which is not large
pub record Tidy (c : Compensated) : Type 0 where
  pub high_fits : T (fits binary64 c.high)
  pub low_fits : T (fits binary64 c.low)
  pub small : le (abs c.high) largest ≡ true
  pub rest : le (abs c.low ⊗ lift) (abs c.high) ≡ true

abbrev pub AllTidy : List Compensated → Type 0
AllTidy [] = Unit {0}
AllTidy (c ∷ cs) = Tidy c × AllTidy cs

pub AllTidy-prop : (cs : List Compensated) → IsProp (AllTidy cs)
AllTidy-prop [] = Unit-prop
AllTidy-prop (c ∷ cs) = ×_prop (Prim.hlevel props) (AllTidy-prop cs)

-- v is not zero, and has this sign
abbrev pub Signed : Bool → Float → Type 0
Signed minus v = (negative v ≡ minus) × (eq v zero_float ≡ false)

-- The sign, 1 or -1, of the plain value v at a point of this size, where v is far from zero beside the scale.
unfoldable pub sign_if_sure : Float → Float → Float → Option Float
sign_if_sure size v scale =
    cond (le size one_float) (cond (le least scale) (cond (lt (margin ⊗ scale) v) (Some one_float)
    (cond (lt v (neg (margin ⊗ scale))) (Some (neg one_float)) None)) None) None

-- a sign is not zero, and the value at x has it, and is neither zero nor near zero
abbrev pub Tells : Option Float → List Compensated → Float → Type 0
Tells (Some r) p x = (eq r zero_float ≡ false) × Signed (negative r) (evaluate p x) × (near_zero p x ≡ false)
Tells None p x = Unit {0}
