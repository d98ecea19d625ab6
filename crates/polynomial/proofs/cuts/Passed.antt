-- When a value goes past another in a list of cuts, by the code's tests.
use mathlib.Core.Path.{◌≡◌, refl, sym, ap, subst, ◌∙◌}
use mathlib.Core.Bool.{Bool, true, false, not, ◌||◌, or-false}
use lib.Dec.{T}
use lib.Ieee.{Float, nan, inf, fin, lt, eq, is_nan}
use Rattle.float.specs.Number.{total_le}
use Rattle.float.specs.Laws.Total.{total_le_total, eq_comm}
use Rattle.float.specs.Laws.Tests.{lt_not_eq, lt_before}
use Rattle.polynomial.specs.Promises.Insert.{passed}

-- x does not stand before y
behind : (x y : Float) → lt x y ≡ false → eq x y ≡ false → is_nan y ≡ false → total_le x y ≡ false
unfolding total_le
behind x y l e n = simp (l, e, n)

pub passed_less : (w v : Float) → lt w v ≡ true → true ≡ passed v w
unfolding passed
passed_less w v e =
    let h : T (lt w v) = subst T (sym e) tt in
    sym (simp (lt_before w v h, eq_comm v w ∙ lt_not_eq w v h))

pub passed_nan : (w v : Float) → is_nan v ≡ true → not (is_nan w) ≡ passed v w
unfolding passed total_le eq lt is_nan
passed_nan w nan e = ap not (sym (or-false (is_nan w)))
passed_nan w (inf s) e = absurd (subst T (sym e) tt)
passed_nan w (fin s m x) e = absurd (subst T (sym e) tt)

pub passed_not : (w v : Float) → lt w v ≡ false → is_nan v ≡ false → false ≡ passed v w
unfolding passed
passed_not w v l number = sym (go (total_le v w) refl (eq v w) refl)
  where
    go : (a : Bool) → total_le v w ≡ a → (b : Bool) → eq v w ≡ b → not (total_le v w || eq v w) ≡ false
    go true a b e = simp a
    go false a true e = simp (a, e)
    go false a false e = absurd (subst T (behind w v l (eq_comm w v ∙ e) number) (total_le_total v w a))

pub ruleset passed_cases = (passed_less, passed_nan, passed_not)
