-- Bounds on sine, cosine and tangent: sin and cos are within 25/16 for |x| ≤ 32, and tan within 4 for |y| ≤ 101/128, where k is −1, 0 or 1.
use Rattle.std.specs.Prelude.{◌≡◌, ℕ, zero, suc, ◌≤◌, Bool, true, false, cond, ℤ, pos, negsuc, Float}
use Rattle.std.proofs.Common.{lt_irrefl, arith, sym, ap, subst}
use Rattle.std.specs.Float.{nan, fin, binary64}
use Rattle.std.specs.Float.Ieee.{neg, add, sub, mul, le, of_int}
use Rattle.std.specs.Float.Ieee.Bits.{is_true}
use Rattle.float.specs.Number.{◌⊗◌, ◌⊘◌, abs, one_float}
use Rattle.float.specs.Trig.{I, H, L, half, widest, quarters, reduced, quadrant, by_quadrant, sine, cosine, sin_cos, sin, cos, tan}
use Rattle.float.specs.declared.trig.SinCos.{SinCos}
use Rattle.float.specs.Promises.Order.{Le}
use Rattle.float.specs.Laws.Le.{Le→le}
use Rattle.float.specs.Promises.Order.{Within}
use Rattle.float.specs.Laws.Within.{div_within, neg_within, neg_beyond, weaken, within→Le, Le→beyond, Le→beyond-neg}
use Rattle.float.specs.Laws.Interval.{Le-trans, In, within_in, in_wider, in_self, add_in, sub_in, mul_in_by}
use Rattle.float.specs.Laws.Range.{within_abs}
use Rattle.float.specs.Laws.Floor.{Floor, int, floor_is}
use Rattle.float.specs.Laws.Reduce.{R, quad, quad_finite, reduce_within}
use Rattle.float.specs.Laws.Sine.{per, sine_within, cosine_within, sine_beyond}

-- ---- |x| ≤ 32
-- the test of `sin-cos` holds
in_range : {x : Float} → Within widest x → le (abs x) widest ≡ true
in_range {x} h = is_true (le (abs x) widest) (Le→le (within→Le tt tt (within_abs h)).0)

-- r is within 203/256
pub reduced_within : (x : Float) → Within widest x → Within R (reduced (quarters x) x)
reduced_within x h = reduce_within x (quarters x) h (floor_is (quad x) (quad_finite x h))

abbrev nans : SinCos
nans = record { sine = nan; cosine = nan }

-- `sin-cos` where its test holds
pub sin_cos_is : (x : Float) → Within widest x → sin_cos x ≡ by_quadrant (quadrant (quarters x)) (sine (reduced (quarters x) x))
    (cosine (reduced (quarters x) x))
unfolding sin_cos
sin_cos_is x h = ap (λ (b : Bool). cond b (by_quadrant (quadrant (quarters x)) (sine (reduced (quarters x) x))
    (cosine (reduced (quarters x) x))) nans) (in_range h)

by_quadrant_within : (q : ℕ) {B s w : Float} → Within B s → Within B w → Within B (by_quadrant q s w).sine × Within B (by_quadrant q s w).cosine
by_quadrant_within zero h k = (h, k)
by_quadrant_within (suc zero) h k = (k, neg_within h)
by_quadrant_within (suc (suc zero)) h k = (neg_within h, neg_within k)
by_quadrant_within (suc (suc (suc n))) h k = (neg_within k, h)

both_within : (x : Float) → Within widest x → Within (per 25 4) (sin x) × Within (per 25 4) (cos x)
both_within x h =
    let r = weaken one_float tt (reduced_within x h) in
    subst (λ (c : SinCos). Within (per 25 4) c.sine × Within (per 25 4) c.cosine) (sym (sin_cos_is x h))
    (by_quadrant_within (quadrant (quarters x)) (weaken (per 25 4) tt (sine_within (reduced (quarters x) x) r)) (cosine_within (reduced (quarters x) x) r).0)

pub sin_within : (x : Float) → Within widest x → Within (per 25 4) (sin x)
sin_within x h = (both_within x h).0

pub cos_within : (x : Float) → Within widest x → Within (per 25 4) (cos x)
cos_within x h = (both_within x h).1

-- ---- |y| ≤ 101/128
abbrev pub tan_widest : Float
tan_widest = per 101 7

-- y·I + 0.5 lies between -1/32 and 33/32, so k is −1, 0 or 1
pub quad_near : (y : Float) → Within tan_widest y → In (fin true 1 (negsuc 4)) (fin false 33 (negsuc 4)) (quad y)
unfolding neg add mul le
quad_near y h = in_wider (fin true 1 (negsuc 4)) (fin false 33 (negsuc 4)) tt
    (add_in binary64 tt (mul_in_by binary64 I tt tt (within_in tt tt h)) (in_self half tt))

pub near_above : (n : ℕ) (y : Float) → Le (int (pos n)) y → Le y (fin false 33 (negsuc 4)) → n ≤ 1
near_above n y h k = let l = (Le-trans h k).cross in omega arith

pub near_below : (n : ℕ) (y : Float) → (Le (int (negsuc n)) y → ⊥) → Le (fin true 1 (negsuc 4)) y → ⊥
near_below n y h k = h (Le-trans (record { first = tt; second = tt; cross = omega arith }) k)

-- r at 1 is at most −3/4, and at −1 at least 3/4
pub at_one : (y : Float) → Within tan_widest y → Le (reduced (pos 1) y) (neg (per 3 2))
unfolding neg sub mul le of_int
at_one y h = (in_wider (fin true 3 (pos 0)) (fin true 3 (negsuc 1)) tt
    (sub_in binary64 tt (sub_in binary64 tt (within_in tt tt h) (in_self (of_int binary64 (pos 1) ⊗ H) tt))
    (in_self (of_int binary64 (pos 1) ⊗ L) tt))).upper

pub at_minus : (y : Float) → Within tan_widest y → Le (per 3 2) (reduced (negsuc 0) y)
unfolding neg sub mul le of_int
at_minus y h = (in_wider (fin false 3 (negsuc 1)) (fin false 3 (pos 0)) tt
    (sub_in binary64 tt (sub_in binary64 tt (within_in tt tt h) (in_self (of_int binary64 (negsuc 0) ⊗ H) tt))
    (in_self (of_int binary64 (negsuc 0) ⊗ L) tt))).lower

abbrev pub at : ℤ → Float → SinCos
at k y = by_quadrant (quadrant k) (sine (reduced k y)) (cosine (reduced k y))

-- for each k the divisor stays away from zero: cosine at 0, sine at −1 and 1
tan_at : (k : ℤ) (y : Float) → Within tan_widest y → Floor (quad y) k → Within (fin false 4 (pos 0)) ((at k y).sine ⊘ (at k y).cosine)
tan_at (pos zero) y h fl =
    let r = weaken one_float tt (reduce_within y (pos 0) (weaken widest tt h) fl) in
    div_within binary64 (fin false 4 (pos 0)) tt (sine_within (reduced (pos 0) y) r) (cosine_within (reduced (pos 0) y) r).1
tan_at (pos (suc zero)) y h fl =
    let r = reduce_within y (pos 1) (weaken widest tt h) fl in
    div_within binary64 (fin false 4 (pos 0)) tt (cosine_within (reduced (pos 1) y) (weaken one_float tt r)).0
    (neg_beyond (sine_beyond (reduced (pos 1) y) r (Le→beyond-neg tt (at_one y h))))
tan_at (pos (suc (suc n))) y h fl = absurd (lt_irrefl 0 (let l = near_above (suc (suc n)) (quad y) fl.reached (quad_near y h).upper in omega arith))
tan_at (negsuc zero) y h fl =
    let r = reduce_within y (negsuc 0) (weaken widest tt h) fl in
    div_within binary64 (fin false 4 (pos 0)) tt (neg_within (cosine_within (reduced (negsuc 0) y) (weaken one_float tt r)).0)
    (sine_beyond (reduced (negsuc 0) y) r (Le→beyond tt (at_minus y h)))
tan_at (negsuc (suc n)) y h fl = absurd (near_below n (quad y) fl.last (quad_near y h).lower)

pub tan_within : (y : Float) → Within tan_widest y → Within (fin false 4 (pos 0)) (tan y)
unfolding tan
tan_within y h =
    subst (λ (c : SinCos). Within (fin false 4 (pos 0)) (c.sine ⊘ c.cosine)) (sym (sin_cos_is y (weaken widest tt h)))
    (tan_at (quarters y) y h (floor_is (quad y) (quad_finite y (weaken widest tt h))))
