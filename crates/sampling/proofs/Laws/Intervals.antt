-- A limit interval is in order and lies within P, whatever it was cut from.
use Rattle.std.specs.Prelude.{None, Some, ◌≡◌, Bool, true, false, not, ◌&&◌, cond, T, Float}
use Rattle.std.proofs.Common.{ap}
use Rattle.std.specs.Float.{nan, inf, fin, binary64}
use Rattle.std.specs.Float.Ieee.{neg, lt, le, is_nan, fits}
use Rattle.std.specs.Float.Ieee.Fits.{add-fits, sub-fits, cond-fits}
use Rattle.std.specs.Float.Ieee.Scale.{finite}
use Rattle.float.specs.Number.{◌⊕◌, ◌⊖◌, minimum, maximum, zero_float}
use Rattle.float.specs.Trig.{P}
use Rattle.float.specs.Promises.Order.{Le}
use Rattle.float.specs.Laws.Le.{le→Le, Le→le}
use Rattle.float.specs.Promises.Order.{Within}
use Rattle.float.specs.Laws.Within.{Le→within}
use Rattle.float.specs.Laws.Interval.{Le-trans}
use Rattle.float.specs.Laws.Range.{nlt→Le}
use Rattle.sampling.specs.Intervals.{Range, interval}
use Rattle.sampling.specs.declared.constraints.Center.{Center}

-- ---- the cuts
maximum_above : (x : Float) → T (le (neg P) (maximum x (neg P)))
unfolding maximum is_nan neg le
maximum_above nan = tt
maximum_above (inf true) = tt
maximum_above (inf false) = tt
maximum_above (fin s m e) = go (lt (fin s m e) (neg P)) (nlt→Le (fin s m e) (neg P) tt tt)
  where
    go : (b : Bool) → (T (not b) → Le (neg P) (fin s m e)) → T (le (neg P) (cond b (neg P) (fin s m e)))
    go true k = tt
    go false k = Le→le (k tt)

minimum_below : (x : Float) → T (le (minimum x P) P)
unfolding minimum is_nan le
minimum_below nan = tt
minimum_below (inf true) = tt
minimum_below (inf false) = tt
minimum_below (fin s m e) = go (lt P (fin s m e)) (nlt→Le P (fin s m e) tt tt)
  where
    go : (b : Bool) → (T (not b) → Le (fin s m e) P) → T (le (cond b P (fin s m e)) P)
    go true k = tt
    go false k = Le→le (k tt)

maximum_fits : (x : Float) → T (fits binary64 x) → T (fits binary64 (maximum x (neg P)))
unfolding maximum neg fits
maximum_fits x t = cond-fits binary64 (is_nan x) (neg P) (cond (lt x (neg P)) (neg P) x) tt (cond-fits binary64 (lt x (neg P)) (neg P) x tt t)

pub minimum_fits : (x : Float) → T (fits binary64 x) → T (fits binary64 (minimum x P))
unfolding minimum fits
minimum_fits x t = cond-fits binary64 (is_nan x) P (cond (lt P x) P x) tt (cond-fits binary64 (lt P x) P x tt t)

-- ---- between two finite values
both_finite : (a x y b : Float) → T (finite a) → T (finite b) → T (le a x) → T (le x y) → T (le y b) → T (finite x) × T (finite y)
unfolding le
both_finite nan x y b p q h k l = absurd p
both_finite (inf s) x y b p q h k l = absurd p
both_finite (fin s m e) nan y b p q h k l = absurd h
both_finite (fin s m e) (inf true) y b p q h k l = absurd h
both_finite (fin s m e) (inf false) nan b p q h k l = absurd k
both_finite (fin s m e) (inf false) (inf true) b p q h k l = absurd k
both_finite (fin s m e) (inf false) (inf false) nan p q h k l = absurd q
both_finite (fin s m e) (inf false) (inf false) (inf t) p q h k l = absurd q
both_finite (fin s m e) (inf false) (inf false) (fin t n d) p q h k l = absurd l
both_finite (fin s m e) (inf false) (fin t n d) b p q h k l = absurd k
both_finite (fin s m e) (fin t n d) nan b p q h k l = absurd k
both_finite (fin s m e) (fin t n d) (inf true) b p q h k l = absurd k
both_finite (fin s m e) (fin t n d) (inf false) nan p q h k l = absurd q
both_finite (fin s m e) (fin t n d) (inf false) (inf u) p q h k l = absurd q
both_finite (fin s m e) (fin t n d) (inf false) (fin u o c) p q h k l = absurd l
both_finite (fin s m e) (fin t n d) (fin u o c) b p q h k l = (tt, tt)

-- ---- the laws
-- in order and within P
pub record Cut (lo hi : Float) : Type 0 where
  pub lower_fits : T (fits binary64 lo)
  pub upper_fits : T (fits binary64 hi)
  pub lower_within : Within P lo
  pub upper_within : Within P hi
  pub order : Le lo hi

cut_within : (x y : Float) → T (fits binary64 x) → T (fits binary64 y) → T (le (maximum x (neg P)) (minimum y P)) → Cut (maximum x (neg P)) (minimum y P)
unfolding neg
cut_within x y t u k =
    let lo = maximum x (neg P) in
    let hi = minimum y P in
    let a = maximum_above x in
    let b = minimum_below y in
    let f = both_finite (neg P) lo hi P tt tt a k b in
    let order : Le lo hi = le→Le lo hi f.0 f.1 k in
    let above : Le (neg P) lo = le→Le (neg P) lo tt f.0 a in
    let under : Le hi P = le→Le hi P f.1 tt b in
    record {
      lower_fits = maximum_fits x t;
      upper_fits = minimum_fits y u;
      lower_within = Le→within tt (Le-trans order under) above;
      upper_within = Le→within tt under (Le-trans above order);
      order = order;
    }

pub none_not_some : {lo hi : Float} → ◌≡◌ {A = Range} None (Some (lo, hi)) → ⊥
none_not_some e = cc

pub same_ends : {x y lo hi : Float} → ◌≡◌ {A = Range} (Some (x, y)) (Some (lo, hi)) → (lo ≡ x) × (hi ≡ y)
same_ends {x} {y} {lo} {hi} e =
    let h : ◌≡◌ {A = Float × Float} (lo, hi) (x, y) = cc in
    (ap (λ (p : Float × Float). p.0) h, ap (λ (p : Float × Float). p.1) h)

taken : (f p o : Bool) (x y lo hi : Float) → cond {A = Range} (f && p && o) (Some (x, y)) None ≡ Some (lo, hi) → T o × (lo ≡ x) × (hi ≡ y)
taken false p o x y lo hi e = absurd (none_not_some e)
taken true false o x y lo hi e = absurd (none_not_some e)
taken true true false x y lo hi e = absurd (none_not_some e)
taken true true true x y lo hi e = let s = same_ends e in (tt, s.0, s.1)

pub interval_cut : (c : Center) (shift lo hi : Float) → interval c shift ≡ Some (lo, hi) → Cut lo hi
unfolding interval
interval_cut c shift lo hi e =
    let x = c.center ⊕ shift ⊖ c.tolerance in
    let y = c.center ⊕ shift ⊕ c.tolerance in
    let lower = maximum x (neg P) in
    let upper = minimum y P in
    let k = taken (finite c.center) (le zero_float c.tolerance) (le lower upper) lower upper lo hi e in
    rw (k.1, k.2) (cut_within x y (sub-fits binary64 (c.center ⊕ shift) c.tolerance) (add-fits binary64 (c.center ⊕ shift) c.tolerance) k.0)
