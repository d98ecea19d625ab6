-- The interval of a joint's model angle: its centre lies within P and its half width between 0 and P, so its ends are in order and lie within a turn.
use Rattle.std.specs.Prelude.{None, Some, ◌≡◌, ◌⊎◌, Bool, true, false, not, ◌||◌, cond, pos, T, Float}
use Rattle.std.proofs.Common.{inl, inr, lit<}
use Rattle.std.specs.Float.{nan, inf, fin, binary64}
use Rattle.std.specs.Float.Ieee.{neg, sub, lt, le, eq, is_nan, fits}
use Rattle.std.specs.Float.Ieee.Fits.{add-fits, sub-fits, div-fits}
use Rattle.std.specs.Float.Ieee.Scale.{finite}
use Rattle.float.specs.Number.{◌⊕◌, ◌⊖◌, ◌⊗◌, ◌⊘◌, minimum, zero_float, one_float, two_float}
use Rattle.float.specs.Trig.{P}
use Rattle.float.specs.Promises.Order.{Le, Within, Span}
use Rattle.float.specs.Laws.Le.{le→Le, neg_Le, add_mono}
use Rattle.float.specs.Laws.Within.{held, fits→held, weaken, numeral, add_within, sub_within, mul_within, Le→within}
use Rattle.float.specs.Laws.Interval.{In, Le-refl, Le-trans}
use Rattle.float.specs.Laws.Range.{nlt→Le}
use Rattle.polynomial.specs.Angle.{two_pi, wrapped_angle}
use Rattle.polynomial.specs.Laws.Wrapped.{wrapped_fits, wrapped_within}
use Rattle.sampling.specs.Constraints.{arc, compute_center}
use Rattle.sampling.specs.Intervals.{Range}
use Rattle.sampling.specs.Limits.{centered, limits_of, limits}
use Rattle.sampling.proofs.Laws.Intervals.{minimum_fits, none_not_some, same_ends}
use Rattle.sampling.specs.declared.constraints.Center.{Center}
use Rattle.sampling.specs.declared.job.Joint.{Joint}

-- ---- the half width of a tolerance that is a number and not below zero
half_in : (t : Float) → T (not (is_nan t)) → T (not (lt t zero_float)) → In zero_float P (minimum t P)
unfolding minimum is_nan le
half_in nan n h = absurd n
half_in (inf true) n h = absurd h
half_in (inf false) n h = record { lower = le→Le zero_float P tt tt tt; upper = Le-refl P tt }
half_in (fin s m e) n h = go (lt P (fin s m e)) (nlt→Le P (fin s m e) tt tt)
  where
    go : (b : Bool) → (T (not b) → Le (fin s m e) P) → In zero_float P (cond b P (fin s m e))
    go true k = record { lower = le→Le zero_float P tt tt tt; upper = Le-refl P tt }
    go false k = record { lower = nlt→Le (fin s m e) zero_float tt tt h; upper = k tt }

pub half_within : {x : Float} → In zero_float P x → Within P x
unfolding neg le
half_within h = Le→within tt h.upper (Le-trans (le→Le (neg P) zero_float tt tt tt) h.lower)

-- ---- an interval around a centre, by its half width
pub data Around : Float → Float → Type 0 where
  around : (c h : Float) → T (fits binary64 c) → T (fits binary64 h) → Within P c → In zero_float P h → Around (c ⊖ h) (c ⊕ h)

pub record Ends (lo hi : Float) : Type 0 where
  pub lower_fits : T (fits binary64 lo)
  pub upper_fits : T (fits binary64 hi)
  pub lower_within : Within two_pi lo
  pub upper_within : Within two_pi hi
  pub order : Le lo hi

pub ends_span : {lower upper : Float} → Ends lower upper → Span 3 lower upper
ends_span e = record {
  room = lit< tt;
  lo_fits = e.lower_fits;
  hi_fits = e.upper_fits;
  lo_within = weaken (fin false 1 (pos 3)) tt e.lower_within;
  hi_within = weaken (fin false 1 (pos 3)) tt e.upper_within;
  order = e.order;
}

pub around_ends : {lo hi : Float} → Around lo hi → Ends lo hi
unfolding sub le
around_ends (around c h f g w k) =
    let lower : Within two_pi (c ⊖ h) = sub_within binary64 two_pi tt w (half_within k) in
    let upper : Within two_pi (c ⊕ h) = add_within binary64 two_pi tt w (half_within k) in
    let opposite : Le (neg h) h = Le-trans (neg_Le k.lower) (Le-trans (le→Le (neg zero_float) zero_float tt tt tt) k.lower) in
    record {
      lower_fits = sub-fits binary64 c h;
      upper_fits = add-fits binary64 c h;
      lower_within = lower;
      upper_within = upper;
      order = le→Le (c ⊖ h) (c ⊕ h) lower.real upper.real (add_mono binary64 (Le-refl c w.real) opposite);
    }

-- ---- the centre
pub unit_sign : {sign : Float} → (sign ≡ one_float) ⊎ (sign ≡ neg one_float) → Within one_float sign
unfolding neg
unit_sign (inl e) = rw e (numeral one_float one_float tt)
unit_sign (inr e) = rw e (numeral one_float (neg one_float) tt)

-- the model angle, before it is wrapped
model_held : (c sign offset : Float) → T (fits binary64 c) → T (finite c) → Within one_float sign → Within two_pi offset
    → T (held binary64 (wrapped_angle c ⊗ sign ⊖ offset))
model_held c sign offset t f s o =
    let x = wrapped_angle c ⊗ sign in
    fits→held binary64 (x ⊖ offset) (sub-fits binary64 x offset)
    (sub_within binary64 (fin false 10 (pos 0)) tt (mul_within binary64 P tt (wrapped_within c (fits→held binary64 c t f)) s) o).real

-- ---- what an answer tells
record Taken (number below real : Bool) (x y lo hi : Float) : Type 0 where
  number_is : T (not number)
  plus : T (not below)
  finite_is : T real
  lower : lo ≡ x
  upper : hi ≡ y

taken : (n b f : Bool) (x y lo hi : Float) → cond {A = Range} (n || b || not f) None (Some (x, y)) ≡ Some (lo, hi) → Taken n b f x y lo hi
taken true b f x y lo hi e = absurd (none_not_some e)
taken false true f x y lo hi e = absurd (none_not_some e)
taken false false false x y lo hi e = absurd (none_not_some e)
taken false false true x y lo hi e = let s = same_ends e in record { number_is = tt; plus = tt; finite_is = tt; lower = s.0; upper = s.1 }

-- ---- a centre and a tolerance that fit binary64
abbrev Fits : Center → Type 0
Fits c = T (fits binary64 c.center) × T (fits binary64 c.tolerance)

chosen : (p q r s : Bool) (a b c n : Center) → Fits a → Fits b → Fits c → Fits n → Fits (cond (not p || not q) n (cond r a (cond s b c)))
chosen false q r s a b c n f g h k = k
chosen true false r s a b c n f g h k = k
chosen true true true s a b c n f g h k = f
chosen true true false true a b c n f g h k = g
chosen true true false false a b c n f g h k = h

compute_fits : (a b : Float) → Fits (compute_center a b)
unfolding compute_center fits
compute_fits a b =
    chosen (finite a) (finite b) (eq a b) (lt a b) _ _ _ _ (tt, tt) (div-fits binary64 (a ⊕ b) two_float, div-fits binary64 (b ⊖ a) two_float)
    (add-fits binary64 a (arc a b ⊘ two_float), div-fits binary64 (arc a b) two_float) (tt, tt)

centered_fits : (limited : Bool) (j : Joint) → T (fits binary64 j.reference) → Fits (centered limited j)
unfolding centered fits
centered_fits true j t = compute_fits j.from j.to
centered_fits false j t = (t, tt)

-- ---- the laws
limits_of_around : (c : Center) (sign offset lo hi : Float) → Fits c → Within one_float sign → Within two_pi offset
    → limits_of c sign offset ≡ Some (lo, hi) → Around lo hi
unfolding limits_of
limits_of_around c sign offset lo hi t s o e =
    let m = wrapped_angle c.center ⊗ sign ⊖ offset in
    let h = minimum c.tolerance P in
    let k = taken (is_nan c.tolerance) (lt c.tolerance zero_float) (finite c.center) (wrapped_angle m ⊖ h) (wrapped_angle m ⊕ h) lo hi e in
    rw (k.lower, k.upper)
    (around (wrapped_angle m) h (wrapped_fits m) (minimum_fits c.tolerance t.1)
    (wrapped_within m (model_held c.center sign offset t.0 k.finite_is s o)) (half_in c.tolerance k.number_is k.plus))

module _ (limited : Bool) (j : Joint) (lo hi : Float) (t : T (fits binary64 j.reference)) (s : (j.sign ≡ one_float) ⊎ (j.sign ≡ neg one_float))
    (o : Within two_pi j.offset) (e : limits limited j ≡ Some (lo, hi)) where
  pub limits_around : Around lo hi
  unfolding limits
  limits_around = limits_of_around (centered limited j) j.sign j.offset lo hi (centered_fits limited j t) (unit_sign s) o e

  pub limits_ends : Ends lo hi
  limits_ends = around_ends limits_around
