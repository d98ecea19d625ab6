-- Where the plain value is far enough from zero, the compensated value has its sign and is not near zero.
use Prim.Native.Nat.{◌≤◌}
use mathlib.Core.Path.{◌≡◌, refl, sym, ap, ap₂, ◌∙◌, subst}
use mathlib.Core.Logic.{inl, inr}
use mathlib.Core.Bool.{Bool, true, false, cond}
use mathlib.Core.List.{List}
use lib.Dec.{T}
use lib.ListN.{length}
use lib.Ieee.{Float, binary64, fits, neg, lt, le, eq}
use Rattle.std.specs.Prelude.{Option, Some, None}
use Rattle.float.specs.Number.{◌⊗◌, abs, one_float}
use Rattle.polynomial.specs.Promises.Plain.{plain, scale, least, margin, AllTidy, sign_if_sure, Tells}
use Rattle.polynomial.proofs.plain.Plain.{plain_positive, plain_negative, plain_away}
use Rattle.polynomial.specs.declared.compensated.Compensated.{Compensated}

module _ (p : List Compensated) (x : Float) (l : length p ≤ 9) (t : AllTidy p) (f : T (fits binary64 x)) where
  plain_tells : Tells (sign_if_sure (abs x) (plain p x) (scale p x)) p x
  unfolding sign_if_sure neg eq
  plain_tells = go (le (abs x) one_float) (le least (scale p x)) (lt (margin ⊗ scale p x) (plain p x))
      (lt (plain p x) (neg (margin ⊗ scale p x))) refl refl refl refl
    where
      go : (a b c d : Bool) → le (abs x) one_float ≡ a → le least (scale p x) ≡ b → lt (margin ⊗ scale p x) (plain p x) ≡ c
          → lt (plain p x) (neg (margin ⊗ scale p x)) ≡ d
          → Tells (cond a (cond b (cond c (Some one_float) (cond d (Some (neg one_float)) None)) None) None) p x
      go true true true d A B C D = (refl, plain_positive p x l t f A B C, plain_away p x l t f A B (inl C))
      go true true false true A B C D = (refl, plain_negative p x l t f A B D, plain_away p x l t f A B (inr D))
      go true true false false A B C D = tt
      go true false c d A B C D = tt
      go false b c d A B C D = tt

  -- by the code's own numbers
  pub tells : (size v w : Float) → size ≡ abs x → v ≡ plain p x → w ≡ scale p x → (r : Option Float) → r ≡ sign_if_sure size v w → Tells r p x
  tells size v w e1 e2 e3 r e =
      subst (λ (z : Option Float). Tells z p x)
      (sym (e ∙ ap₂ (λ (a b : Float). sign_if_sure a b w) e1 e2 ∙ ap (sign_if_sure (abs x) (plain p x)) e3)) plain_tells
