-- The root of a + b x, by the tests of the code: va and vb are the two values.
use Prim.Native.Nat.{◌<◌}
use native.Mathlib.Nat.{lt_irrefl}
use mathlib.Core.Path.{◌≡◌, refl, sym, ap, ap₂, ◌∙◌}
use mathlib.Core.Bool.{Bool, true, false, ◌&&◌, cond}
use mathlib.Core.List.{List, [], ◌∷◌, ◌++◌}
use lib.ListN.{length, set, drop}
use lib.Ieee.{Float, neg, le}
use Rattle.float.specs.Number.{◌⊘◌}
use Rattle.polynomial.specs.Compensated.{value}
use Rattle.polynomial.specs.Promises.Front.{Front}
use Rattle.polynomial.specs.Roots.{quotient}
use Rattle.polynomial.specs.declared.compensated.Compensated.{Compensated}

module _ (a b : Compensated) (lo hi va vb : Float) (ea : va ≡ value a) (eb : vb ≡ value b) (out : List Float) where
  is : (x y : Bool) → le lo (neg va ⊘ vb) ≡ x → le (neg va ⊘ vb) hi ≡ y → quotient a b lo hi ≡ cond (x && y) ((neg va ⊘ vb) ∷ []) []
  unfolding quotient
  is x y ex ey = ap₂ (λ (u w : Float). cond (le lo (neg u ⊘ w) && le (neg u ⊘ w) hi) ((neg u ⊘ w) ∷ []) []) (sym ea) (sym eb) ∙ simp (ex, ey)

  first : (l : List Float) (v : Float) → 0 < length l → set l 0 v ≡ v ∷ drop 1 l
  first [] v h = absurd (lt_irrefl 0 h)
  first (x ∷ l) v h = refl

  pub one : 0 < length out → le lo (neg va ⊘ vb) ≡ true → le (neg va ⊘ vb) hi ≡ true → Front (quotient a b lo hi) out 1 (set out 0 (neg va ⊘ vb))
  one h ex ey =
      let e = is true true ex ey in
      (sym (ap length e), first out (neg va ⊘ vb) h ∙ sym (ap (λ (l : List Float). l ++ drop 1 out) e))

  none : quotient a b lo hi ≡ [] → Front (quotient a b lo hi) out 0 out
  none e = (sym (ap length e), sym (ap (λ (l : List Float). l ++ out) e))

  pub above : le lo (neg va ⊘ vb) ≡ true → le (neg va ⊘ vb) hi ≡ false → Front (quotient a b lo hi) out 0 out
  above ex ey = none (is true false ex ey)

  pub below : le lo (neg va ⊘ vb) ≡ false → Front (quotient a b lo hi) out 0 out
  below ex = none (is false _ ex refl)
