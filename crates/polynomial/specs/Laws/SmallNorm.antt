-- The polynomial of a squared norm: where the harmonics' coefficients and the norm are at most 2 ^ k and the origin within ±32, no part of it reaches
-- 2 ^ 400. So both inner calls of a squared norm are fair.
use Rattle.std.specs.Prelude.{ℕ, ◌+◌, ◌≤◌, ◌≡◌, refl, false, length, pos, Float}
use Rattle.std.proofs.Common.{arith, lit≤}
use Rattle.std.specs.Float.{fin}
use Rattle.std.specs.Float.Ieee.{neg, add, sub, div}
use Rattle.float.specs.Number.{middle, zero_float, one_float, two_float}
use Rattle.float.specs.Trig.{P, widest, sin, cos}
use Rattle.float.specs.Promises.Order.{Within}
use Rattle.float.specs.Laws.Within.{numeral, neg_within, weaken}
use Rattle.float.specs.Laws.Trigonometry.{sin_within, cos_within}
use Rattle.polynomial.specs.Curve.{numerator, denominator, target, norm_polynomial}
use Rattle.polynomial.specs.InnerCalls.{Fair, norm_calls}
use Rattle.polynomial.specs.Promises.Lists.{All}
use Rattle.polynomial.specs.Laws.Nine.{length_norm}
use Rattle.polynomial.specs.Laws.InnerCalls.{small_fair, one_span}
use Rattle.polynomial.specs.declared.curve.Harmonic.{Harmonic}
use Rattle.float.specs.Laws.Under.{Under, under_add, under_mul, under_le, under_zero}
use Rattle.polynomial.specs.Laws.Size.{small_from, small_plus, small_times, All-small, none, more}
use Rattle.polynomial.specs.Laws.Size.{small_add, small_multiply, small_times_each, one_small, minus_small}

-- ---- a harmonic as a numerator: 12 bits more
pub record Harmonic-under (k : ℕ) (h : Harmonic) : Type 0 where
  pub constant : Under k h.constant
  pub cosine : Under k h.cosine
  pub sine : Under k h.sine

pub numerator_small : (k n : ℕ) (h : Harmonic) (origin : Float) → k + 12 ≤ n → n ≤ 1023 → Harmonic-under k h → Within widest origin
    → All-small n (numerator h origin)
unfolding numerator
numerator_small k n h origin l r u w =
    let s : Under 1 (sin origin) = weaken (fin false 1 (pos 1)) tt (sin_within origin w) in
    let c : Under 1 (cos origin) = weaken (fin false 1 (pos 1)) tt (cos_within origin w) in
    let x = under_add (k + 1) (k + 1) (k + 2) (omega arith) (omega arith) (omega arith) (under_mul k 1 (k + 1) (omega arith) (omega arith) u.cosine c)
    (under_mul k 1 (k + 1) (omega arith) (omega arith) u.sine s) in
    let y = under_add (k + 1) (k + 1) (k + 2) (omega arith) (omega arith) (omega arith)
    (under_mul k 1 (k + 1) (omega arith) (omega arith) (neg_within u.cosine) s) (under_mul k 1 (k + 1) (omega arith) (omega arith) u.sine c) in
    let z = small_from (k + 2) (under_le k (k + 2) (omega arith) u.constant) in
    more (small_plus (k + 2) n (omega arith) r z (small_from (k + 2) x))
    (more (small_from n (under_mul 1 (k + 2) n (omega arith) r (numeral (fin false 1 (pos 1)) two_float tt) y))
    (more (small_plus (k + 2) n (omega arith) r z (small_from (k + 2) (neg_within x))) none))

pub numerator_length : (h : Harmonic) (origin : Float) → length (numerator h origin) ≡ 3
unfolding numerator
numerator_length h origin = refl

-- ---- the polynomial of a squared norm
denominator_small : All-small 0 denominator
denominator_small = more (small_from 0 one_small) (more (small_from 0 (under_zero 0)) (more (small_from 0 one_small) none))

pub target_small : (k n : ℕ) {norm : Float} → k + k + 51 ≤ n → n ≤ 1023 → Under k norm → All-small n (target norm)
unfolding target
target_small k n l r h =
    small_times_each 37 (k + k + 7) n (omega arith) r (small_multiply 0 0 37 (lit≤ tt) (lit≤ tt) denominator_small denominator_small)
    (small_times k k (k + k + 7) (omega arith) (omega arith) (small_from k h) (small_from k h))

pub norm_small : (k : ℕ) (x y : Harmonic) (norm origin : Float) → k ≤ 100 → Harmonic-under k x → Harmonic-under k y → Under k norm → Within widest origin
    → All-small 399 (norm_polynomial x y norm origin)
unfolding norm_polynomial
norm_small k x y norm origin l u v h w =
    let p = numerator_small k (k + 12) x origin (omega arith) (omega arith) u w in
    let q = numerator_small k (k + 12) y origin (omega arith) (omega arith) v w in
    let e = numerator_length x origin in
    let f = numerator_length y origin in
    small_add (k + k + 81) 399 (neg one_float) (omega arith) (omega arith) minus_small
    (small_add (k + k + 61) (k + k + 81) one_float (omega arith) (omega arith) one_small
    (small_multiply (k + 12) (k + 12) (k + k + 61) (omega arith) (omega arith) p p)
    (small_multiply (k + 12) (k + 12) (k + k + 61) (omega arith) (omega arith) q q))
    (target_small k (k + k + 81) (omega arith) (omega arith) h)

first_origin : Within widest (middle (neg P) zero_float)
unfolding middle neg add sub div
first_origin = numeral widest (middle (neg P) zero_float) tt

second_origin : Within widest (middle zero_float P)
unfolding middle neg add sub div
second_origin = numeral widest (middle zero_float P) tt

-- With coefficients and norm of at most 2 ^ 100, both inner calls of a squared norm are fair.
pub norm_fair : (k : ℕ) (x y : Harmonic) (norm : Float) → k ≤ 100 → Harmonic-under k x → Harmonic-under k y → Under k norm → All Fair (norm_calls x y norm)
unfolding norm_calls
norm_fair k x y norm l u v h = (half (middle (neg P) zero_float) first_origin, (half (middle zero_float P) second_origin, tt))
  where
    half : (origin : Float) → Within widest origin
        → Fair (record { coefficients = norm_polynomial x y norm origin; lower = neg one_float; upper = one_float })
    half origin w =
        let e = length_norm x y norm origin in
        small_fair (neg one_float) one_float one_span (norm_small k x y norm origin l u v h w) (omega arith)
