-- `rem` where no division is needed: an operand that is not finite, a zero divisor, a dividend smaller than the divisor, or smaller than twice it.
use Rattle.std.proofs.Common.{◌≡◌, ℕ, zero, suc, ◌+◌, ◌-◌, ◌*◌, ◌/◌, ◌%◌, ◌^◌, ◌<◌, ◌≤◌, Bool, true, false, cond, not, ◌&&◌, T, eqb, ltb, ◌⊎◌, ℤ, pos}
use Rattle.std.proofs.Common.{sym, refl, ap, ◌∙◌, subst, inl, inr, true≢false, le_trans, le_of_eq, lt_of_lt_of_le, le_of_suc-le-suc, lt_of_le_of_lt}
use Rattle.std.proofs.Common.{mul-le-mul_right, mod-eq_of_lt, lt_of_mul-lt-mul_right, mul-lt-mul_of_pos_right, mul-pos, lt_of_not-le, zero-mul}
use Rattle.std.proofs.Common.{mul-one, not-le_of_lt, le_of_mul-le-mul_right, arith, pow_pos, ltb-false, ltb-true, le-ltb, lt-ltb}
use native.Mathlib.Nat.{mod-eq-sub-mod}
use mathlib.Core.Bool.{false≢true}
use lib.Ieee.{Float, nan, inf, fin, binary64, up, down, round, neg, sum, add, sub, div, rem, lt, le, eq, below, is_nan, fits, to_bits, of_bits}
use lib.Ieee.Fits.{up_pos, down_pos}
use lib.Ieee.Exact.{HasValue}
use lib.Ieee.Order.{round_mono}
use lib.Ieee.Scale.{finite, round_same}
use Rattle.float.specs.Number.{abs, negative}
use Rattle.float.specs.Laws.Le.{or_split}
use Rattle.float.specs.Laws.Sign.{round_neg}
use Rattle.float.specs.Laws.Tests.{lt_not_eq, lt_before, total_le_lt}
use Rattle.float.specs.Laws.Total.{eq_comm}
use Rattle.float.specs.Laws.Zero.{zero_bits, equals_zero, level_zero, zero_of}
use Rattle.float.specs.Promises.Parts.{Splits}
use Rattle.float.proofs.Read.{split_low, split_high}
use Rattle.float.proofs.remainder.Reduced.{first_cross, second_cross, left_pos, rem_fin, is_round, rem_less, lower_less}

-- ---- what is not finite, and a zero divisor
pub quotient : div binary64 (of_bits binary64 0) (of_bits binary64 0) ≡ nan
unfolding div of_bits
quotient = refl

pub first_nan : (x m : Float) → x ≡ nan → nan ≡ rem binary64 x m
first_nan x m h = opened ∙ sym (ap (λ (y : Float). rem binary64 y m) h)
  where
    opened : nan ≡ rem binary64 nan m
    opened = unfold rem in refl

pub second_nan : (x m : Float) → m ≡ nan → nan ≡ rem binary64 x m
second_nan x m h = opened x ∙ sym (ap (λ (y : Float). rem binary64 x y) h)
  where
    opened : (x : Float) → nan ≡ rem binary64 x nan
    opened nan = unfold rem in refl
    opened (inf s) = unfold rem in refl
    opened (fin s n e) = unfold rem in refl

pub first_not : (x m : Float) → T (not (finite x)) → nan ≡ rem binary64 x m
unfolding rem
first_not nan m h = refl
first_not (inf s) m h = refl
first_not (fin s n e) m h = absurd h

-- an infinite divisor is above what is finite
pub second_fine : (x m : Float) → T (finite x) → T (not (is_nan m)) → lt (abs x) (abs m) ≡ false → T (finite m)
unfolding lt abs is_nan
second_fine nan m g h l = absurd g
second_fine (inf s) m g h l = absurd g
second_fine (fin s n e) nan g h l = absurd h
second_fine (fin s n e) (inf t) g h l = absurd (true≢false l)
second_fine (fin s n e) (fin t k d) g h l = tt

pub second_zero : (x m : Float) → T (finite x) → T (finite m) → eq m (of_bits binary64 0) ≡ true → nan ≡ rem binary64 x m
unfolding rem
second_zero nan m g h z = absurd g
second_zero (inf s) m g h z = absurd g
second_zero (fin s n e) nan g h z = absurd h
second_zero (fin s n e) (inf t) g h z = absurd h
second_zero (fin s n e) (fin t k d) g h z =
    sym (ap (λ (y : ℕ). cond (eqb y 0) nan (round binary64 s (n * up e * down d % (k * up d * down e)) (down e * down d))) (zero_of t k d z))

-- ---- a finite value has parts
pub record Known (x : Float) : Type 0 where
  pub sign : Bool
  pub digits : ℕ
  pub place : ℕ
  pub splits : Splits x sign digits place

pub known : (x : Float) → T (fits binary64 x) → T (finite x) → Known x
known x F h = go (to_bits binary64 x / 2 ^ 52 % 2 ^ 11) refl
  where
    go : (y : ℕ) → to_bits binary64 x / 2 ^ 52 % 2 ^ 11 ≡ y → Known x
    go zero z = record { sign = _; digits = _; place = _; splits = split_low x (to_bits binary64 x) F h refl z }
    go (suc j) z = record { sign = _; digits = _; place = _; splits = split_high x (to_bits binary64 x) F h refl j z }

-- not 0.0
pub not_zero : (t : Bool) (n : ℕ) (d : ℤ) → eq (fin t n d) (of_bits binary64 0) ≡ false → n ≡ 0 → ⊥
not_zero t n d f z =
    true≢false
    (sym (level_zero t (n * up d * 1) (0 * 1 * down d) (ap (λ (y : ℕ). y * up d * 1) z ∙ ap (λ (y : ℕ). y * 1) (zero-mul (up d))) (zero-mul (down d)))
    ∙ sym (equals_zero t n d)
    ∙ ap (λ (v : Float). eq (fin t n d) v) (sym zero_bits)
    ∙ f)

-- ---- the order of the magnitudes, by units
module _ (m n : ℕ) (e d : ℤ) (X M : ℕ) (h : m * up e * 2 ^ 1074 ≡ X * down e) (g : n * up d * 2 ^ 1074 ≡ M * down d) where
  D-pos : 0 < down e * down d
  D-pos = mul-pos (down_pos e) (down_pos d)

  order_lt : m * up e * down d < n * up d * down e → X < M
  order_lt l =
      lt_of_mul-lt-mul_right (down e * down d)
      (lt_of_le_of_lt (le_of_eq (sym (first_cross m e d X (2 ^ 1074) h)))
      (lt_of_lt_of_le (mul-lt-mul_of_pos_right l (pow_pos 1074)) (le_of_eq (second_cross n e d M (2 ^ 1074) g))))

  order_le : n * up d * down e ≤ m * up e * down d → M ≤ X
  order_le l =
      le_of_mul-le-mul_right
      (le_trans (le_of_eq (sym (second_cross n e d M (2 ^ 1074) g))) (le_trans (mul-le-mul_right (2 ^ 1074) l) (le_of_eq (first_cross m e d X (2 ^ 1074) h))))
      D-pos

-- ---- a dividend smaller than the divisor
pub first_less : (x m : Float) → T (fits binary64 x) → T (fits binary64 m) → lt (abs x) (abs m) ≡ true → x ≡ rem binary64 x m
unfolding rem lt abs
first_less nan m F G l = absurd (false≢true l)
first_less (inf s) nan F G l = absurd (false≢true l)
first_less (inf s) (inf t) F G l = absurd (false≢true l)
first_less (inf s) (fin t n d) F G l = absurd (false≢true l)
first_less (fin s k e) nan F G l = absurd (false≢true l)
first_less (fin s k e) (inf t) F G l = refl
first_less (fin s k e) (fin t n d) F G l =
    let x = known (fin s k e) F tt in
    let m = known (fin t n d) G tt in
    let o : x.digits * 2 ^ x.place < m.digits * 2 ^ m.place = order_lt k n e d _ _ x.splits.value.1 m.splits.value.1 (ltb-true _ _ l) in
    rem_less (fin s k e) (fin t n d) x.sign m.sign x.digits x.place m.digits m.place F x.splits m.splits
    (left_pos m.digits (2 ^ m.place) (above _ _ o)) o
  where
    above : (a b : ℕ) → a < b → 0 < b
    above a b l = omega arith

-- and else it has no lower place
pub not_lower : (x m : Float) (s t : Bool) (p a q b : ℕ) → Splits x s p a → Splits m t q b → lt (abs x) (abs m) ≡ false → b ≤ a
unfolding lt abs
not_lower x m s t p a q b S R l =
    le_of_suc-le-suc (lt_of_not-le (λ (g : a < b). not-le_of_lt (lower_less p a q b S.short R.full g) (go x m S.value R.value l)))
  where
    go : (x m : Float) → HasValue x s (p * 2 ^ a) (2 ^ 1074) → HasValue m t (q * 2 ^ b) (2 ^ 1074) → lt (abs x) (abs m) ≡ false → q * 2 ^ b ≤ p * 2 ^ a
    go nan m h g l = absurd h
    go (inf u) m h g l = absurd h
    go (fin u k e) nan h g l = absurd g
    go (fin u k e) (inf v) h g l = absurd g
    go (fin u k e) (fin v n d) h g l = order_le k n e d (p * 2 ^ a) (q * 2 ^ b) h.1 g.1 (ltb-false _ _ l)

-- ---- a dividend smaller than twice the divisor, and not than the divisor
plain_fits : (s : Bool) (m : ℕ) (e : ℤ) → T (fits binary64 (fin s m e)) → T (fits binary64 (fin false m e))
unfolding fits
plain_fits s zero e h = h
plain_fits s (suc m) e h = h

-- a magnitude is what rounding it gives
pub magnitude_is : (t : Bool) (n : ℕ) (d e : ℤ) → T (fits binary64 (fin t n d)) → fin false n d ≡ round binary64 false (n * up d * down e) (down e * down d)
magnitude_is t n d e G =
    let k = known (fin t n d) G tt in
    let S = k.splits in
    let N = k.digits * 2 ^ k.place in
    is_round (fin false n d) false k.digits k.place (plain_fits t n d G) (refl, S.value.1) S.short S.place
    ∙ round_same binary64 false N (2 ^ 1074) (n * up d * down e) (down e * down d) (pow_pos 1074) (mul-pos (down_pos e) (down_pos d))
    (sym (second_cross n e d N (2 ^ 1074) S.value.1))

-- what is below is not above
not_both : (v w : Float) → T (le v w) → T (lt w v) → ⊥
unfolding le
not_both v w h l = go (or_split (lt v w) (eq v w) h)
  where
    go : T (lt v w) ⊎ T (eq v w) → ⊥
    go (inl g) = subst T (lt_before w v l) (total_le_lt v w g)
    go (inr g) = subst T (eq_comm v w ∙ lt_not_eq w v l) g

module _ (s t : Bool) (m n : ℕ) (e d : ℤ) (G : T (fits binary64 (fin t n d))) (Z : n ≡ 0 → ⊥) (h : ltb (m * up e * down d) (n * up d * down e) ≡ false) where
  abbrev A : ℕ
  A = m * up e * down d

  abbrev B : ℕ
  B = n * up d * down e

  abbrev D : ℕ
  D = down e * down d

  some_D : 0 < D
  some_D = mul-pos (down_pos e) (down_pos d)

  -- the difference as the code has it
  difference : sub binary64 (fin false m e) (fin false n d) ≡ round binary64 false (A - B) D
  unfolding sub add neg sum
  difference = ap (λ (b : Bool). cond b (round binary64 true (B - A) D) (round binary64 (false && ltb B A) (A - B) D)) h

  divisor : fin false n d ≡ round binary64 false B D
  divisor = magnitude_is t n d e G

  within : lt (sub binary64 (fin false m e) (fin false n d)) (fin false n d) ≡ true → A - B < B
  within l = lt_of_not-le (λ (g : B ≤ A - B).
      not_both (round binary64 false B D) (round binary64 false (A - B) D) (round_mono binary64 B D (A - B) D some_D some_D (mul-le-mul_right D g))
      (subst T (sym (sym (λ i. lt (difference i) (divisor i)) ∙ l)) tt))

  once : lt (sub binary64 (fin false m e) (fin false n d)) (fin false n d) ≡ true → round binary64 s (A - B) D ≡ rem binary64 (fin s m e) (fin t n d)
  once l =
      ap (λ (y : ℕ). round binary64 s y D) (sym (mod-eq-sub-mod (ltb-false A B h) ∙ mod-eq_of_lt (within l)))
      ∙ sym (rem_fin s t m n e d Z)

pub once_positive : (x m : Float) → T (fits binary64 m) → T (finite x) → T (finite m) → eq m (of_bits binary64 0) ≡ false → lt (abs x) (abs m) ≡ false
    → lt (sub binary64 (abs x) (abs m)) (abs m) ≡ true
    → not (negative x) ≡ true → sub binary64 (abs x) (abs m) ≡ rem binary64 x m
unfolding lt abs
once_positive nan m G g f z l k p = absurd g
once_positive (inf s) m G g f z l k p = absurd g
once_positive (fin s a e) nan G g f z l k p = absurd f
once_positive (fin s a e) (inf t) G g f z l k p = absurd f
once_positive (fin true a e) (fin t n d) G g f z l k p = absurd (false≢true p)
once_positive (fin false a e) (fin t n d) G g f z l k p = difference false t a n e d G (not_zero t n d z) l ∙ once false t a n e d G (not_zero t n d z) l k

pub once_negative : (x m : Float) → T (fits binary64 m) → T (finite x) → T (finite m) → eq m (of_bits binary64 0) ≡ false → lt (abs x) (abs m) ≡ false
    → lt (sub binary64 (abs x) (abs m)) (abs m) ≡ true
    → not (negative x) ≡ false → neg (sub binary64 (abs x) (abs m)) ≡ rem binary64 x m
unfolding lt abs
once_negative nan m G g f z l k p = absurd g
once_negative (inf s) m G g f z l k p = absurd g
once_negative (fin s a e) nan G g f z l k p = absurd f
once_negative (fin s a e) (inf t) G g f z l k p = absurd f
once_negative (fin false a e) (fin t n d) G g f z l k p = absurd (true≢false p)
once_negative (fin true a e) (fin t n d) G g f z l k p =
    ap neg (difference true t a n e d G (not_zero t n d z) l)
    ∙ sym (round_neg binary64 false (a * up e * down d - n * up d * down e) (down e * down d))
    ∙ once true t a n e d G (not_zero t n d z) l k

-- ---- the sign of a dividend that is not below a divisor above zero, as the code tests it
not_none : (a n : ℕ) (e d : ℤ) → (n ≡ 0 → ⊥) → n * up d * down e ≤ a * up e * down d → 0 < a * up e * 1
not_none a n e d z l =
    subst (λ (y : ℕ). 0 < y) (sym (mul-one (a * up e)))
    (left_pos (a * up e) (down d) (lt_of_lt_of_le (mul-pos (mul-pos (positive n z) (up_pos d)) (down_pos e)) l))
  where
    positive : (n : ℕ) → (n ≡ 0 → ⊥) → 0 < n
    positive n h = omega arith

below_zero : (s : Bool) (a : ℕ) (e : ℤ) → lt (fin s a e) (fin false 0 (pos 0)) ≡ below s (a * up e * 1) false (0 * 1 * down e)
unfolding lt
below_zero s a e = refl

pub sign_test : (x m : Float) → T (finite x) → T (finite m) → eq m (of_bits binary64 0) ≡ false → lt (abs x) (abs m) ≡ false
    → lt x (of_bits binary64 0) ≡ negative x
unfolding lt abs
sign_test x m g f z l = ap (λ (y : Float). lt x y) zero_bits ∙ go x m g f z l
  where
    go : (x m : Float) → T (finite x) → T (finite m) → eq m (of_bits binary64 0) ≡ false → lt (abs x) (abs m) ≡ false → lt x (fin false 0 (pos 0)) ≡ negative x
    go nan m g f z l = absurd g
    go (inf s) m g f z l = absurd g
    go (fin s a e) nan g f z l = absurd f
    go (fin s a e) (inf t) g f z l = absurd f
    go (fin false a e) (fin t n d) g f z l = below_zero false a e ∙ le-ltb (a * up e * 1) (0 * 1 * down e) (none (down e) (a * up e * 1))
      where
        none : (y w : ℕ) → 0 * 1 * y ≤ w
        none y w = omega arith
    go (fin true a e) (fin t n d) g f z l =
        below_zero true a e
        ∙ lt-ltb 0 (a * up e * 1 + 0 * 1 * down e) (more _ _ (not_none a n e d (not_zero t n d z) (ltb-false _ _ l)))
      where
        more : (y w : ℕ) → 0 < y → 0 < y + w
        more y w h = omega arith
