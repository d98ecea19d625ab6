-- Bounds on the arctangent and what is worked out with it: atan is within 3, and atan2, acos and
-- asin within 7. Each step to the half angle divides by 2 at least, since 1 ≤ sqrt(1 + a·a).
-- Sizes alone are counted, so the bounds are wide.
use Rattle.std.specs.Prelude.{◌≡◌, ℕ, ◌+◌, ◌*◌, ◌<◌, Bool, true, false, cond, not, ◌||◌, T, pos, ◌==◌, refl, Float}
use Rattle.std.proofs.Common.{sym, subst, arith, ltb→lt, eqb→eq, lit≤}
use Rattle.std.specs.Float.{nan, inf, fin, Format}
use Rattle.std.specs.Float.Ieee.{binary64, unlike, up, down, round, neg, add, sub, div, lt, le, is_nan}
use Rattle.std.specs.Float.Ieee.Bits.{is_true}
use Rattle.std.specs.Float.Ieee.Fits.{add-fits}
use Rattle.std.specs.Float.Ieee.Scale.{finite}
use Rattle.std.specs.Float.Ieee.Positive.{num}
use Rattle.float.specs.Number.{◌⊕◌, ◌⊖◌, ◌⊗◌, ◌⊘◌, abs, negative, zero_float, one_float, two_float}
use Rattle.float.specs.Sqrt.{sqrt}
use Rattle.float.specs.Trig.{P, four_float, half_angle, atan_start, atan_series, atan_value, copysign, atan, atan2, other_side, acos, asin}
use Rattle.float.specs.Laws.Sign.{round_neg}
use Rattle.float.specs.Promises.Order.{Le}
use Rattle.float.specs.Laws.Le.{le→Le, Le→le, plain, round_plain, add_mono}
use Rattle.float.specs.Promises.Order.{Within}
use Rattle.float.specs.Laws.Within.{Beyond, div_test, add_within, sub_within, mul_within, div_within}
use Rattle.float.specs.Laws.Within.{neg_within, numeral, numeral_beyond, weaken, Le→beyond, not_none}
use Rattle.float.specs.Laws.Interval.{Le-refl, Le-trans, within_in, in_self, in_wider, add_in, sub_in}
use Rattle.float.specs.Laws.Range.{abs_within, within_abs, lt→Le, nlt→Le}
use Rattle.float.specs.Laws.Sine.{per, over_within, step_within}
use Rattle.float.specs.Laws.Grow.{add_grows, square_plus, mul_plus}
use Rattle.float.specs.Laws.Root.{sqrt_within, sqrt_ge}

-- 3 and 7
abbrev pub three_float : Float
three_float = fin false 3 (pos 0)

abbrev pub seven_float : Float
seven_float = fin false 7 (pos 0)

-- ---- the half angle
one_one : one_float ⊕ one_float ≡ two_float
unfolding add
one_one = refl

-- 2 ≤ 1 + sqrt(1 + a·a)
divisor_beyond : {a : Float} → Within one_float a → Beyond two_float (one_float ⊕ sqrt binary64 (one_float ⊕ a ⊗ a))
divisor_beyond {a} h =
    let one = numeral one_float one_float tt in
    let v = one_float ⊕ a ⊗ a in
    let z : Within one_float (a ⊗ a) = mul_within binary64 one_float tt h h in
    let w : Within two_float v = add_within binary64 two_float tt one z in
    let g : Le one_float v = add_grows one_float (a ⊗ a) tt (square_plus a h.real z.real) w.real in
    let r : Le one_float (sqrt binary64 v) = sqrt_ge v (add-fits binary64 one_float (a ⊗ a)) g in
    let s : Within two_float (sqrt binary64 v) = sqrt_within two_float tt (Le-trans (record { first = tt; second = tt; cross = lit≤ tt }) g) w in
    let d : Within four_float (one_float ⊕ sqrt binary64 v) = add_within binary64 four_float tt one s in
    Le→beyond tt (le→Le two_float (one_float ⊕ sqrt binary64 v) tt d.real
    (subst (λ (y : Float). T (le y (one_float ⊕ sqrt binary64 v))) one_one (add_mono binary64 (Le-refl one_float tt) r)))

-- from any bound X of at most 1 to its half
half_angle_by : (B : Float) {X a : Float} → T (div_test binary64 X two_float B) → Within one_float a → Within X a → Within B (half_angle a)
unfolding half_angle
half_angle_by B t o h = div_within binary64 B t h (divisor_beyond o)

half_angle_within : {a : Float} → Within one_float a → Within (per 1 1) (half_angle a)
half_angle_within h = half_angle_by (per 1 1) tt h h

half_angle_again : {a : Float} → Within (per 1 1) a → Within (per 1 2) (half_angle a)
half_angle_again h = half_angle_by (per 1 2) tt (weaken one_float tt h) h

-- ---- the polynomial
atan_series_within : (z : Float) → Within one_float z → Within (per 321 8) (atan_series z)
unfolding atan_series
atan_series_within z h =
    let p0 = over_within (per 12 8) true 23 tt in
    let p1 = step_within (per 25 8) tt tt p0 h (over_within (per 13 8) false 21 tt) in
    let p2 = step_within (per 39 8) tt tt p1 h (over_within (per 14 8) true 19 tt) in
    let p3 = step_within (per 55 8) tt tt p2 h (over_within (per 16 8) false 17 tt) in
    let p4 = step_within (per 73 8) tt tt p3 h (over_within (per 18 8) true 15 tt) in
    let p5 = step_within (per 93 8) tt tt p4 h (over_within (per 20 8) false 13 tt) in
    let p6 = step_within (per 117 8) tt tt p5 h (over_within (per 24 8) true 11 tt) in
    let p7 = step_within (per 146 8) tt tt p6 h (over_within (per 29 8) false 9 tt) in
    let p8 = step_within (per 183 8) tt tt p7 h (over_within (per 37 8) true 7 tt) in
    let p9 = step_within (per 235 8) tt tt p8 h (over_within (per 52 8) false 5 tt) in
    step_within (per 321 8) tt tt p9 h (over_within (per 86 8) true 3 tt)

-- v = 4·(a + (a·z)·p)
atan_value_within : {a : Float} → Within (per 1 2) a → Within (per 9 3) (atan_value a)
unfolding atan_value
atan_value_within {a} h =
    let z : Within (per 1 4) (a ⊗ a) = mul_within binary64 (per 1 4) tt h h in
    let q = mul_within binary64 (per 321 14) tt (mul_within binary64 (per 1 6) tt h z) (atan_series_within (a ⊗ a) (weaken one_float tt z)) in
    mul_within binary64 (per 9 3) tt (numeral four_float four_float tt) (add_within binary64 (per 9 5) tt h q)

-- ---- atan
-- |x|, or 1/|x| where |x| > 1, is within 1
start : (x : Float) → T (finite (abs x)) → Within one_float (atan_start x)
start x p = go (lt one_float (abs x)) refl
  where
    go : (b : Bool) → lt one_float (abs x) ≡ b → Within one_float (cond b (one_float ⊘ abs x) (abs x))
    go true h = div_within binary64 one_float tt (numeral one_float one_float tt) (Le→beyond tt (lt→Le one_float (abs x) tt p (subst T (sym h) tt)))
    go false h = within_abs (abs_within one_float x tt tt (is_true (le (abs x) one_float)
        (Le→le (nlt→Le one_float (abs x) tt p (subst (λ (b : Bool). T (not b)) (sym h) tt)))))

atan_start_within : (x : Float) → T (not (is_nan x)) → Within one_float (atan_start x)
unfolding is_nan abs lt div
atan_start_within nan n = absurd n
atan_start_within (inf s) n = numeral one_float (fin false 0 (pos 0)) tt
atan_start_within (fin s m e) n = start (fin s m e) tt

copysign_within : (x : Float) {B v : Float} → Within B v → Within B (copysign v x)
copysign_within x {B} {v} h = go (negative x)
  where
    go : (b : Bool) → Within B (cond b (neg (abs v)) (abs v))
    go true = neg_within (within_abs h)
    go false = within_abs h

quarter_within : Within (per 101 6) (P ⊘ two_float)
quarter_within = div_within binary64 (per 101 6) tt (numeral (per 101 5) P tt) (numeral_beyond two_float two_float tt)

pub atan_within : (x : Float) → T (not (is_nan x)) → Within three_float (atan x)
unfolding atan
atan_within x n = copysign_within x (go (lt one_float (abs x)))
  where
    w : Within (per 9 3) (atan_value (half_angle (half_angle (atan_start x))))
    w = atan_value_within (half_angle_again (half_angle_within (atan_start_within x n)))

    go : (b : Bool) → Within three_float (cond b (P ⊘ two_float ⊖ atan_value (half_angle (half_angle (atan_start x))))
        (atan_value (half_angle (half_angle (atan_start x)))))
    go true = sub_within binary64 three_float tt quarter_within w
    go false = weaken three_float tt w

-- ---- y/x is no NaN where x is not 0
plain_number : (x : Float) → T (plain x) → T (not (is_nan x))
unfolding is_nan
plain_number nan p = absurd p
plain_number (inf s) p = tt
plain_number (fin s m e) p = tt

neg_number : (x : Float) → T (not (is_nan x)) → T (not (is_nan (neg x)))
unfolding is_nan neg
neg_number nan p = absurd p
neg_number (inf s) p = tt
neg_number (fin s m e) p = tt

round_number : (f : Format) (s : Bool) (a c : ℕ) → T (not (is_nan (round f s a c)))
round_number f false a c = plain_number (round f false a c) (round_plain f a c)
round_number f true a c = subst (λ (z : Float). T (not (is_nan z))) (sym (round_neg f false a c))
    (neg_number (round f false a c) (plain_number (round f false a c) (round_plain f a c)))

div_number : (y x : Float) → T (finite y) → T (finite x) → 0 < num x → T (not (is_nan (y ⊘ x)))
unfolding div
div_number nan x p q z = absurd p
div_number (inf s) x p q z = absurd p
div_number (fin s m e) nan p q z = absurd q
div_number (fin s m e) (inf t) p q z = absurd q
div_number (fin s m e) (fin t n d) p q z = go (n == 0) (eqb→eq n 0)
  where
    go : (b : Bool) → (T b → n ≡ 0)
        → T (not (is_nan (cond b (cond (m == 0) nan (inf (unlike s t))) (round binary64 (unlike s t) (m * up e * down d) (n * up d * down e)))))
    go true k = absurd (not_none n d z (k tt))
    go false k = round_number binary64 (unlike s t) (m * up e * down d) (n * up d * down e)

-- x > 0 and x < 0
right_of : (x : Float) → T (finite x) → T (lt zero_float x) → 0 < num x
unfolding lt
right_of nan p h = absurd p
right_of (inf s) p h = absurd p
right_of (fin true m e) p h = absurd h
right_of (fin false m e) p h = let k : 0 * 1 * down e < m * up e * 1 = ltb→lt (0 * 1 * down e) (m * up e * 1) h in omega arith

left_of : (x : Float) → T (finite x) → T (lt x zero_float) → 0 < num x
unfolding lt
left_of nan p h = absurd p
left_of (inf s) p h = absurd p
left_of (fin true m e) p h = let k : 0 < m * up e * 1 + 0 * 1 * down e = ltb→lt 0 (m * up e * 1 + 0 * 1 * down e) h in omega arith
left_of (fin false m e) p h = let k : m * up e * 1 < 0 * 1 * down e = ltb→lt (m * up e * 1) (0 * 1 * down e) h in omega arith

numbers : (y x : Float) → T (finite y) → T (finite x) → T (not (is_nan y || is_nan x))
unfolding is_nan
numbers nan x p q = absurd p
numbers (inf s) x p q = absurd p
numbers (fin s m e) nan p q = absurd q
numbers (fin s m e) (inf t) p q = absurd q
numbers (fin s m e) (fin t n d) p q = tt

-- ---- atan2, acos and asin
pub atan2_within : (y x : Float) → T (finite y) → T (finite x) → Within seven_float (atan2 y x)
unfolding atan2
atan2_within y x p q =
    go (is_nan y || is_nan x) (lt zero_float x) (lt x zero_float) (le zero_float y) (lt zero_float y) (lt y zero_float) (numbers y x p q)
    (λ h. atan_within (y ⊘ x) (div_number y x p q (right_of x q h))) (λ h. atan_within (y ⊘ x) (div_number y x p q (left_of x q h)))
  where
    P-within : Within (per 101 5) P
    P-within = numeral (per 101 5) P tt

    go : (n r l g u d : Bool) → T (not n) → (T r → Within three_float (atan (y ⊘ x))) → (T l → Within three_float (atan (y ⊘ x)))
        → Within seven_float (cond n nan (cond r (atan (y ⊘ x))
        (cond l (cond g (atan (y ⊘ x) ⊕ P) (atan (y ⊘ x) ⊖ P)) (cond u (P ⊘ two_float) (cond d (neg (P ⊘ two_float)) zero_float)))))
    go true r l g u d n a b = absurd n
    go false true l g u d n a b = weaken seven_float tt (a tt)
    go false false true true u d n a b = add_within binary64 seven_float tt (b tt) P-within
    go false false true false u d n a b = sub_within binary64 seven_float tt (b tt) P-within
    go false false false g true d n a b = weaken seven_float tt quarter_within
    go false false false g false true n a b = neg_within (weaken seven_float tt quarter_within)
    go false false false g false false n a b = numeral seven_float zero_float tt

-- 0 ≤ 1 − x and 0 ≤ 1 + x, so their product has a root
other_side_within : {x : Float} → Within one_float x → Within two_float (other_side x)
other_side_within {x} h =
    let one = numeral one_float one_float tt in
    let w : Within four_float ((one_float ⊖ x) ⊗ (one_float ⊕ x)) = mul_within binary64 four_float tt (sub_within binary64 two_float tt one h)
    (add_within binary64 two_float tt one h) in
    sqrt_within two_float tt (mul_plus (less h) (more h) w.real) w
  where
    less : {x : Float} → Within one_float x → Le zero_float (one_float ⊖ x)
    less h = unfold neg add sub le in (in_wider zero_float two_float tt (sub_in binary64 tt (in_self one_float tt) (within_in tt tt h))).lower

    more : {x : Float} → Within one_float x → Le zero_float (one_float ⊕ x)
    more h = unfold neg add sub le in (in_wider zero_float two_float tt (add_in binary64 tt (in_self one_float tt) (within_in tt tt h))).lower

pub acos_within : (x : Float) → Within one_float x → Within seven_float (acos x)
unfolding acos
acos_within x h = atan2_within (other_side x) x (other_side_within h).real h.real

pub asin_within : (x : Float) → Within one_float x → Within seven_float (asin x)
unfolding asin
asin_within x h = atan2_within x (other_side x) h.real (other_side_within h).real
