-- An angle wrapped to one turn fits binary64; of a finite angle it lies within P.
use Rattle.std.proofs.Common.{zero-lt-suc}
use Rattle.std.specs.Prelude.{Bool, true, false, not, cond, T, Float}
use Rattle.std.specs.Float.{binary64}
use Rattle.std.specs.Float.Ieee.{neg, add, sub, rem, lt, le, fits}
use Rattle.std.specs.Float.Ieee.Fits.{sub-fits}
use Rattle.std.specs.Float.Ieee.Scale.{finite}
use Rattle.float.specs.Number.{◌⊕◌, abs, rem_euclid, zero_float}
use Rattle.float.specs.Trig.{P}
use Rattle.float.specs.Promises.Order.{Le}
use Rattle.float.specs.Promises.Order.{Within}
use Rattle.float.specs.Laws.Within.{held, within→Le}
use Rattle.float.specs.Laws.Remainder.{rem_within}
use Rattle.float.specs.Laws.Interval.{In, in_self, in_wider, in_within, within_in, add_in, sub_in}
use Rattle.float.specs.Laws.Range.{lt→Le, nlt→Le}
use Rattle.float.specs.Laws.Extremes.{largest, held_largest}
use Rattle.polynomial.specs.Angle.{two_pi, wrapped_angle}

-- ---- the remainder of a turn lies in the turn
remainder_in : (x : Float) → T (finite x) → In zero_float two_pi (rem_euclid x two_pi)
unfolding rem_euclid abs neg add le
remainder_in x p = go (lt (rem binary64 x two_pi) zero_float) (lt→Le (rem binary64 x two_pi) zero_float w.real tt)
    (nlt→Le (rem binary64 x two_pi) zero_float w.real tt)
  where
    w : Within two_pi (rem binary64 x two_pi)
    w = rem_within binary64 x two_pi tt p (zero-lt-suc 884279719003554)

    l : Le (rem binary64 x two_pi) two_pi × Le (neg two_pi) (rem binary64 x two_pi)
    l = within→Le tt tt w

    go : (b : Bool) → (T b → Le (rem binary64 x two_pi) zero_float) → (T (not b) → Le zero_float (rem binary64 x two_pi))
        → In zero_float two_pi (cond b (rem binary64 x two_pi ⊕ two_pi) (rem binary64 x two_pi))
    go true h k = in_wider zero_float two_pi tt (add_in binary64 tt (record { lower = l.1; upper = h tt }) (in_self two_pi tt))
    go false h k = record { lower = k tt; upper = l.0 }

-- ---- a finite angle plus P is finite
plus_finite : (x : Float) → T (held binary64 x) → T (finite (x ⊕ P))
unfolding neg add le
plus_finite x t = (in_wider (neg largest) largest tt (add_in binary64 tt (within_in tt tt (held_largest x t)) (in_self P tt))).upper.first

-- ---- the law
pub wrapped_fits : (x : Float) → T (fits binary64 (wrapped_angle x))
unfolding wrapped_angle
wrapped_fits x = sub-fits binary64 (rem_euclid (x ⊕ P) two_pi) P

pub wrapped_within : (x : Float) → T (held binary64 x) → Within P (wrapped_angle x)
unfolding wrapped_angle neg sub le
wrapped_within x t = in_within tt (in_wider (neg P) P tt (sub_in binary64 tt (remainder_in (x ⊕ P) (plus_finite x t)) (in_self P tt)))
