-- Bounds on the polynomials of sine and cosine for |r| ≤ 1: |s| ≤ 19/16, |w| ≤ 25/16 and |w| ≥ 7/16.
-- The terms are taken by their sizes alone, so each step is a closed test, which `tt` proves.
use Rattle.std.specs.Prelude.{ℕ, ◌*◌, Bool, true, false, ◌&&◌, T, leb, pos, nat_le, Float}
use Rattle.std.proofs.Common.{leb→le}
use Rattle.std.specs.Float.{fin, binary64}
use Rattle.std.specs.Float.Ieee.{round, minus}
use Rattle.std.specs.Float.Ieee.Fits.{and_l, and_r}
use Rattle.std.specs.Float.Ieee.Positive.{num, den}
use Rattle.float.specs.Number.{◌⊕◌, ◌⊗◌, one_float}
use Rattle.float.specs.Trig.{factorial, sine_series, cosine_series, sine, cosine}
use Rattle.float.specs.Promises.Order.{Within}
use Rattle.float.specs.Laws.Within.{Beyond, held, add_test, mul_test, round_within, add_within, mul_within, add_beyond, numeral, numeral_beyond, weaken}

-- n / 2 ^ k
abbrev pub per : ℕ → ℕ → Float
per n k = fin false n (minus 0 k)

-- a constant ±1 / n is within B where 1 / n ≤ B
pub over_within : (B : Float) (s : Bool) (n : ℕ) → T (held binary64 B && (nat_le 1 n && nat_le (1 * den B) (num B * n))) → Within B (round binary64 s 1 n)
over_within B s n t =
    let a = leb 1 n in
    let b = leb (1 * den B) (num B * n) in
    let u = and_r (held binary64 B) (a && b) t in
    round_within binary64 s 1 n B (leb→le 1 n (and_l a b u)) (and_l (held binary64 B) (a && b) t) (leb→le (1 * den B) (num B * n) (and_r a b u))

-- a step p·z + c of a series: with |z| ≤ 1 the product is bounded as p is
pub step_within : (B : Float) {P C p z c : Float} → T (mul_test binary64 P one_float P) → T (add_test binary64 P C B) → Within P p → Within one_float z
    → Within C c → Within B (p ⊗ z ⊕ c)
step_within B {P} s t h k l = add_within binary64 B t (mul_within binary64 P s h k) l

pub sine_series_within : (z : Float) → Within one_float z → Within (per 3 4) (sine_series z)
unfolding sine_series
sine_series_within z h =
    let p0 = over_within (per 1 40) false (factorial 17) tt in
    let p1 = step_within (per 1 39) tt tt p0 h (over_within (per 1 40) true (factorial 15) tt) in
    let p2 = step_within (per 1 31) tt tt p1 h (over_within (per 1 32) false (factorial 13) tt) in
    let p3 = step_within (per 1 24) tt tt p2 h (over_within (per 1 25) true (factorial 11) tt) in
    let p4 = step_within (per 1 17) tt tt p3 h (over_within (per 1 18) false (factorial 9) tt) in
    let p5 = step_within (per 1 11) tt tt p4 h (over_within (per 1 12) true (factorial 7) tt) in
    let p6 = step_within (per 3 8) tt tt p5 h (over_within (per 9 10) false (factorial 5) tt) in
    step_within (per 3 4) tt tt p6 h (over_within (per 11 6) true (factorial 3) tt)

pub cosine_series_within : (z : Float) → Within one_float z → Within (per 9 4) (cosine_series z)
unfolding cosine_series
cosine_series_within z h =
    let u0 = over_within (per 1 44) false (factorial 16) tt in
    let u1 = step_within (per 1 35) tt tt u0 h (over_within (per 1 36) true (factorial 14) tt) in
    let u2 = step_within (per 1 27) tt tt u1 h (over_within (per 1 28) false (factorial 12) tt) in
    let u3 = step_within (per 1 20) tt tt u2 h (over_within (per 1 21) true (factorial 10) tt) in
    let u4 = step_within (per 1 14) tt tt u3 h (over_within (per 1 15) false (factorial 8) tt) in
    let u5 = step_within (per 1 9) tt tt u4 h (over_within (per 3 11) true (factorial 6) tt) in
    let u6 = step_within (per 1 4) tt tt u5 h (over_within (per 3 6) false (factorial 4) tt) in
    step_within (per 9 4) tt tt u6 h (over_within (per 1 1) true (factorial 2) tt)

-- s = r + (r·z)·p
pub sine_within : (r : Float) → Within one_float r → Within (per 19 4) (sine r)
unfolding sine
sine_within r h =
    let z : Within one_float (r ⊗ r) = mul_within binary64 one_float tt h h in
    add_within binary64 (per 19 4) tt h (mul_within binary64 (per 3 4) tt (mul_within binary64 one_float tt h z) (sine_series_within (r ⊗ r) z))

-- w = 1 + z·u, away from zero too
pub cosine_within : (r : Float) → Within one_float r → Within (per 25 4) (cosine r) × Beyond (per 7 4) (cosine r)
unfolding cosine
cosine_within r h =
    let z : Within one_float (r ⊗ r) = mul_within binary64 one_float tt h h in
    let q = mul_within binary64 (per 9 4) tt z (cosine_series_within (r ⊗ r) z) in
    let w = add_within binary64 (per 25 4) tt (numeral one_float one_float tt) q in
    (w, add_beyond binary64 (per 7 4) tt (numeral_beyond one_float one_float tt) q w)

-- 3/4 ≤ |r| ≤ 203/256 gives |s| ≥ 1/2
pub sine_beyond : (r : Float) → Within (per 203 8) r → Beyond (per 3 2) r → Beyond (per 1 1) (sine r)
unfolding sine
sine_beyond r h b =
    let z : Within (per 161 8) (r ⊗ r) = mul_within binary64 (per 161 8) tt h h in
    let q = mul_within binary64 (per 3 5) tt (mul_within binary64 (per 1 1) tt h z) (sine_series_within (r ⊗ r) (weaken one_float tt z)) in
    add_beyond binary64 (per 1 1) tt b q (add_within binary64 (fin false 2 (pos 0)) tt h q)
