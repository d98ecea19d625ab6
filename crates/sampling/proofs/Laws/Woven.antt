-- What the stream asks of a list holds of the cuts of values within ±32: each middle stands between its neighbours, and all are numbers.
use Rattle.std.proofs.Common.{arith}
use Rattle.std.specs.Prelude.{◌≡◌, false, not, List, [], ◌∷◌, T, Float}
use Rattle.std.specs.Float.{binary64}
use Rattle.std.specs.Float.Ieee.{eq, fits, is_nan}
use Rattle.float.specs.Number.{middle, total_le}
use Rattle.float.specs.Trig.{widest}
use Rattle.float.specs.Laws.Total.{total_le_refl}
use Rattle.float.specs.Promises.Order.{Within, Span}
use Rattle.float.specs.Laws.Range.{lt→Le}
use Rattle.float.specs.Laws.Middle.{middle_within}
use Rattle.polynomial.specs.Cuts.{cuts}
use Rattle.polynomial.specs.Promises.Lists.{From, Fit, All}
use Rattle.polynomial.specs.Laws.Cuts.{Above, Strict, from_sorted, fit_cuts, strict_cuts, all_cuts}
use Rattle.polynomial.specs.Laws.Enclosed.{less}
use Rattle.sampling.specs.Promises.Stream.{weave, Woven}
use Rattle.float.specs.Laws.Between.{middle_above, middle_below}
use Rattle.float.specs.Laws.Tests.{finite_number}

-- at most 32 in size: the sine and the cosine of such an angle are numbers
abbrev pub Small : Float → Type 0
Small x = Within widest x

-- the middle of two neighbours stands between them
record Pair (x y : Float) : Type 0 where
  above : T (total_le x (middle x y))
  below : T (total_le (middle x y) y)
  number_it : T (not (is_nan (middle x y)))

-- two neighbours of such cuts: an interval that can be halved
pub neighbours : (x y : Float) → T (fits binary64 x) → T (fits binary64 y) → Small x → Small y → T (total_le x y) → eq y x ≡ false → Span 5 x y
neighbours x y fx fy hx hy t e = record {
  room = omega arith;
  lo_fits = fx;
  hi_fits = fy;
  lo_within = hx;
  hi_within = hy;
  order = lt→Le x y hx.real hy.real (less x y hy.real t e);
}

pair : (x y : Float) → T (fits binary64 x) → T (fits binary64 y) → Small x → Small y → T (total_le x y) → eq y x ≡ false → Pair x y
pair x y fx fy hx hy t e =
    let l = less x y hy.real t e in
    let s = neighbours x y fx fy hx hy t e in
    record { above = middle_above s l; below = middle_below s l; number_it = finite_number (middle x y) (middle_within s).real }

-- p stands before x
behind : (p x : Float) (l : List Float) → T (total_le p x) → T (fits binary64 x) → Fit l → Small x → All Small l → Above x l
    → From p (weave (x ∷ l)) × All (λ z. T (not (is_nan z))) (weave (x ∷ l))
unfolding weave
behind p x [] t fx f hx h a = ((t, tt), (finite_number x hx.real, tt))
behind p x (y ∷ l) t fx f hx h a =
    let m = pair x y fx f.0 hx h.0 a.0 a.1 in
    let i = behind (middle x y) y l m.below f.0 f.1 h.0 h.1 a.2 in
    ((t, (m.above, i.0)), (finite_number x hx.real, (m.number_it, i.1)))

strict_woven : (l : List Float) → Fit l → All Small l → Strict l → Woven l
strict_woven [] f h a = record { fit = tt; order = unfold weave in tt; numbers = unfold weave in tt }
strict_woven (x ∷ l) f h a =
    let b = behind x x l (total_le_refl x) f.0 f.1 h.0 h.1 a in
    record { fit = f; order = from_sorted x (weave (x ∷ l)) b.0; numbers = b.1 }

-- THE LAW: the cuts of such values can be streamed
pub cuts_woven : (l : List Float) → Fit l → All Small l → Woven (cuts l)
cuts_woven l f h = strict_woven (cuts l) (fit_cuts l f) (all_cuts Small l h) (strict_cuts l)
