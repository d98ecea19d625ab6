-- A step of the bisection, and two, leave the interval's result or a narrower interval with the same result.
use native.Mathlib.Nat.{lt_trans}
use mathlib.Core.Path.{◌≡◌, refl, sym, ap, ◌∙◌, subst}
use mathlib.Core.Bool.{Bool, true, false, not, beq, cond}
use lib.Ieee.{Float, eq}
use Rattle.float.specs.Number.{negative, middle, zero_float}
use Rattle.float.specs.Promises.Order.{Span}
use Rattle.polynomial.specs.Roots.{bisected}
use Rattle.polynomial.specs.Promises.Inside.{step_at, goes_on, Ends, narrowed_once, Narrower, Leaves}
use Rattle.polynomial.specs.Promises.Plain.{Signed}
use Rattle.polynomial.specs.Laws.Bisection.{at_lo, at_hi, at_zero, to_right, to_left}
use Rattle.std.specs.declared.ops.ControlFlow.{ControlFlow}
use Rattle.std.specs.declared.ops.ControlFlow.TheVariants.{Continue, Break}
use Rattle.polynomial.specs.declared.bisection.Half.{Half}
use Rattle.polynomial.specs.declared.bisection.Half.TheVariants.{Upper, Lower}

module _ (f : Float → Float) (p : Bool) where
  inner : (lo hi x y : Float) → Narrower f p lo hi x y → (l : ControlFlow Float Ends) → Leaves f p x y l → Leaves f p lo hi l
  inner lo hi x y h (Break z) e = e ∙ h.2
  inner lo hi x y h (Continue e) k = (lt_trans k.0 h.0, k.1, k.2 ∙ h.2)

  step_leaves : (lo hi m : Float) → Span 2 lo hi → m ≡ middle lo hi → (above below : ControlFlow Float Ends) → (Narrower f p lo hi m hi
      → Leaves f p lo hi above)
      → (Narrower f p lo hi lo m → Leaves f p lo hi below)
      → Leaves f p lo hi (goes_on (step_at lo hi m (f m) p) above below)
  unfolding step_at
  step_leaves lo hi m s e above below u l = go (eq m lo) (eq m hi) (eq (f m) zero_float) (beq (not (negative (f m))) p) refl refl refl refl
    where
      go : (a b z g : Bool) → eq m lo ≡ a → eq m hi ≡ b → eq (f m) zero_float ≡ z → beq (not (negative (f m))) p ≡ g
          → Leaves f p lo hi (goes_on (cond a (Break m) (cond b (Break m) (cond z (Break (middle m m)) (cond g (Continue Upper) (Continue Lower)))))
          above below)
      go true b z g A B Z G = at_lo f p lo hi m s e A
      go false true z g A B Z G = at_hi f p lo hi m s e A B
      go false false true g A B Z G = at_zero f p lo hi m s e A B (f m) refl Z
      go false false false true A B Z G = u (to_right f p lo hi m s e A B (f m) refl Z (not (negative (f m))) refl G)
      go false false false false A B Z G = l (to_left f p lo hi m s e A B (f m) refl Z (not (negative (f m))) refl G)

  -- ---- a step sees the value's sign alone, and whether it is zero
  same_step : (lo hi m v w : Float) → eq v zero_float ≡ false → negative w ≡ negative v → eq w zero_float ≡ false
      → narrowed_once lo hi m v p ≡ narrowed_once lo hi m w p
  unfolding narrowed_once step_at
  same_step lo hi m v w a b c = simp (a, b, c)

  -- ---- one step: m is the middle, v the value there
  module _ (lo hi : Float) (s : Span 2 lo hi) (m : Float) (M : m ≡ middle lo hi) (v : Float) (at-m : v ≡ f m) where
    pub one : (l : ControlFlow Float Ends) → l ≡ narrowed_once lo hi m v p → Leaves f p lo hi l
    unfolding narrowed_once
    one l e =
        subst (Leaves f p lo hi) (sym (e ∙ ap (λ (z : Float). narrowed_once lo hi m z p) at-m))
        (step_leaves lo hi m s M (Continue (m, hi)) (Continue (lo, m)) (λ h. h) (λ h. h))

    -- ---- two steps, by the case of the first
    module _ (u : ControlFlow Float Half) (U : u ≡ step_at lo hi m v p) where
      by_step : (t : ControlFlow Float Half) → u ≡ t → (above below : ControlFlow Float Ends) → (Narrower f p lo hi m hi → Leaves f p lo hi above)
          → (Narrower f p lo hi lo m → Leaves f p lo hi below) → Leaves f p lo hi (goes_on t above below)
      by_step t k above below a b =
          subst (λ (x : ControlFlow Float Half). Leaves f p lo hi (goes_on x above below)) (sym (U ∙ ap (λ (z : Float). step_at lo hi m z p) at-m) ∙ k)
          (step_leaves lo hi m s M above below a b)

      pub done : (x : Float) → u ≡ Break x → x ≡ bisected f p lo hi
      done x k = by_step (Break x) k (Continue (m, hi)) (Continue (lo, m)) (λ h. h) (λ h. h)

  module _ (lo hi : Float) (s : Span 2 lo hi) (m : Float) (M : m ≡ middle lo hi) (v : Float) (at-m : v ≡ f m) (u : ControlFlow Float Half) (U : u ≡
      step_at lo hi m v p) where
    pub upper : u ≡ Continue Upper → (a : Float) → a ≡ middle m hi → (w : Float) → w ≡ f a → (l : ControlFlow Float Ends)
        → l ≡ narrowed_once m hi a w p → Leaves f p lo hi l
    upper k a A w W l e = by_step lo hi s m M v at-m u U (Continue Upper) k l (Continue (lo, m))
        (λ h. inner lo hi m hi h l (one m hi h.1 a A w W l e)) (λ h. h)

    pub lower : u ≡ Continue Lower → (a : Float) → a ≡ middle lo m → (w : Float) → w ≡ f a → (l : ControlFlow Float Ends)
        → l ≡ narrowed_once lo m a w p → Leaves f p lo hi l
    lower k a A w W l e = by_step lo hi s m M v at-m u U (Continue Lower) k (Continue (m, hi)) l (λ h. h)
        (λ h. inner lo hi lo m h l (one lo m h.1 a A w W l e))

  -- ---- one step by a number with the value's sign
  pub one_by_sign : (lo hi : Float) → Span 2 lo hi → (m : Float) → m ≡ middle lo hi → (v : Float) → eq v zero_float ≡ false
      → Signed (negative v) (f m) → (l : ControlFlow Float Ends) → l ≡ narrowed_once lo hi m v p → Leaves f p lo hi l
  one_by_sign lo hi s m M v z t l e = one lo hi s m M (f m) refl l (e ∙ same_step lo hi m v (f m) z t.0 t.1)

pub ruleset two_steps = (one, upper, lower)
