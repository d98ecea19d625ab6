-- A binary64 value from 2 ^ -(k + 1) to 2 ^ 400 is A * 2 ^ i units with 2 ^ 52 ≤ A < 2 ^ 53 and 1021 - k ≤ i ≤ 1422. So
-- Dekker's error equals the fused one for all such a and b above zero, where the two k are small enough.
--
use Rattle.std.proofs.Common.{◌≡◌, ℕ, zero, suc, ◌+◌, ◌-◌, ◌*◌, ◌^◌, ◌<◌, ◌≤◌, true, false, ◌&&◌, T, ltb, leb, negsuc, sym, ap, ◌∙◌, subst, le_trans}
use Rattle.std.proofs.Common.{le_of_eq, lt_of_lt_of_le, lt_of_le_of_lt, add-zero, lt_irrefl, mul-le-mul_right, mul_assoc, mul_comm}
use Rattle.std.proofs.Common.{mul-lt-mul_of_pos_right, one-mul, lt_of_not-le, zero-mul, mul-one, mul_right_comm, not-le_of_lt, le_of_mul-le-mul_right}
use Rattle.std.proofs.Common.{mul_left_comm, arith, ltb→lt, leb→le, pow_pos, pow_mono, pow-add}
use lib.Ieee.{Float, nan, inf, fin, binary64, up, down, size, neg, mul}
use lib.Ieee.Digits.{size-lt, size-le, size_reaches}
use lib.Ieee.Fits.{and_l, and_r, down_pos}
use Rattle.float.specs.Promises.Halves.{most}
use Rattle.float.specs.Laws.Sign.{Alike}
use Rattle.float.specs.Laws.Le.{plain}
use Rattle.float.specs.Promises.Order.{Within}
use Rattle.float.specs.Laws.Within.{Beyond, held, drop_pow, shift}
use Rattle.float.specs.Laws.Units.{Is, Is-unit}
use Rattle.float.specs.Laws.MulAdd.{by_parts}
use Rattle.float.proofs.product_error.Dekker.{dekker}
use Rattle.float.proofs.product_error.Equal.{positive_equal}

pub record Normal (k : ℕ) (a : Float) : Type 0 where
  pub A : ℕ
  pub i : ℕ
  pub lo : 2 ^ 52 ≤ A
  pub hi : A < 2 ^ 53
  pub up : 1022 ≤ i + suc k
  pub down : i ≤ 1422
  pub is : Is binary64 a A 0 i

pow_back : (x y : ℕ) → 2 ^ x < 2 ^ y → x < y
pow_back x y h = lt_of_not-le (λ (g : y ≤ x). not-le_of_lt h (pow_mono g))

-- m * up / down in units is m * 2 ^ j
low_units : (m u d v w s : ℕ) → 0 < d → u * w ≡ v * d → d ≤ m * u * s → w ≤ m * v * s
low_units m u d v w s D e h =
    le_of_mul-le-mul_right (le_trans (le_of_eq (mul_comm w d)) (le_trans (mul-le-mul_right w h) (le_of_eq (rearranged ∙ ap (λ (z : ℕ). m * s * z) e ∙ back)))) D
  where
    rearranged : m * u * s * w ≡ m * s * (u * w)
    rearranged = simp (mul_assoc, mul_comm, mul_left_comm)

    back : m * s * (v * d) ≡ m * v * s * d
    back = simp (mul_assoc, mul_comm, mul_left_comm)

high_units : (m u d v w s : ℕ) → 0 < d → u * w ≡ v * d → m * u ≤ s * d → m * v ≤ s * w
high_units m u d v w s D e h =
    le_of_mul-le-mul_right (le_trans (le_of_eq (rearranged ∙ ap (λ (z : ℕ). m * z) (sym e) ∙ sym (mul_assoc m u w)))
    (le_trans (mul-le-mul_right w h) (le_of_eq (mul_right_comm s d w)))) D
  where
    rearranged : m * v * d ≡ m * (v * d)
    rearranged = mul_assoc m v d

pub normal : (k : ℕ) → suc k ≤ 1000 → (a : Float) → T (held binary64 a) → T (plain a) → Within most a → Beyond (fin false 1 (negsuc k)) a → Normal k a
normal k short nan t p w b = absurd t
normal k short (inf s) t p w b = absurd t
normal k short (fin true m e) t p w b = absurd p
normal k short (fin false m e) t p w b =
    let B1 = ltb m (2 ^ 53) in
    let C1 = leb (down e) (2 ^ 1074) in
    let D1 = ltb (m * up e) (2 ^ 1024 * down e) in
    let few : m < 2 ^ 53 = ltb→lt m (2 ^ 53) (and_l B1 (C1 && D1) t) in
    let sh = shift e 1074 (leb→le (down e) (2 ^ 1074) (and_l C1 D1 (and_r B1 (C1 && D1) t))) in
    let j = sh.0 in
    let z = size m in
    let big : 2 ^ 1074 ≤ m * 2 ^ j * 2 ^ suc k = low_units m (up e) (down e) (2 ^ j) (2 ^ 1074) (2 ^ suc k) (down_pos e) sh.1
    (le_trans (le_of_eq (sym (one-mul (down e)))) b.size) in
    let whole-power : 1074 - suc k + suc k ≡ 1074 = omega arith in
    let big' : 2 ^ (1074 - suc k) ≤ m * 2 ^ j = le_of_mul-le-mul_right
    (le_trans (le_of_eq (sym (pow-add 2 (1074 - suc k) (suc k)) ∙ ap (λ (x : ℕ). 2 ^ x) whole-power)) big) (pow_pos (suc k)) in
    let small : m * 2 ^ j ≤ 2 ^ 400 * 2 ^ 1074 = high_units m (up e) (down e) (2 ^ j) (2 ^ 1074) (2 ^ 400) (down_pos e) sh.1
    (le_trans (le_of_eq (sym (mul-one (m * up e)))) w.size) in
    let z53 : z ≤ 53 = size-le m 53 few in
    let over : 1074 - suc k < z + j = pow_back (1074 - suc k) (z + j)
    (lt_of_le_of_lt big' (lt_of_lt_of_le (mul-lt-mul_of_pos_right (size-lt m) (pow_pos j)) (le_of_eq (sym (pow-add 2 z j))))) in
    let zp : 0 < z = some (1074 - suc k) m j big' in
    let reach : 2 ^ (z - 1) ≤ m = size_reaches m (z - 1) (omega arith) in
    let under : z - 1 + j ≤ 1474 = drop_pow (z - 1 + j) 1474 (le_trans (le_of_eq (pow-add 2 (z - 1) j)) (le_trans (mul-le-mul_right (2 ^ j) reach) small)) in
    let i = j + z - 53 in
    let ji : j ≡ i + (53 - z) = omega arith in
    let own : Is binary64 (fin false m e) m 0 j = record {
      real = tt;
      value = ap (λ (x : ℕ). m * up e * 2 ^ 1074 + x) (ap (λ (x : ℕ). x * down e) (zero-mul (2 ^ j)) ∙ zero-mul (down e))
          ∙ add-zero (m * up e * 2 ^ 1074) ∙ mul_assoc m (up e) (2 ^ 1074) ∙ ap (λ (x : ℕ). m * x) sh.1 ∙ sym (mul_assoc m (2 ^ j) (down e))
          ∙ sym (add-zero (m * 2 ^ j * down e)) ∙ ap (λ (x : ℕ). m * 2 ^ j * down e + x) (sym (zero-mul (2 ^ 1074)));
    } in
    record {
      A = m * 2 ^ (53 - z);
      i = i;
      lo = le_trans (le_of_eq (ap (λ (x : ℕ). 2 ^ x) (split z zp z53) ∙ pow-add 2 (z - 1) (53 - z))) (mul-le-mul_right (2 ^ (53 - z)) reach);
      hi = lt_of_lt_of_le (mul-lt-mul_of_pos_right (size-lt m) (pow_pos (53 - z)))
          (le_of_eq (sym (pow-add 2 z (53 - z)) ∙ ap (λ (x : ℕ). 2 ^ x) (whole z z53)));
      up = omega arith;
      down = omega arith;
      is = subst (λ (n : ℕ). Is binary64 (fin false m e) (m * 2 ^ (53 - z)) n i) (zero-mul (2 ^ (53 - z)))
          (Is-unit binary64 (fin false m e) m 0 i (53 - z) (subst (λ (x : ℕ). Is binary64 (fin false m e) m 0 x) ji own));
    }
  where
    split : (z : ℕ) → 0 < z → z ≤ 53 → 52 ≡ z - 1 + (53 - z)
    split z h k = omega arith

    whole : (z : ℕ) → z ≤ 53 → z + (53 - z) ≡ 53
    whole z k = omega arith

    -- m is not 0
    some : (q m j : ℕ) → 2 ^ q ≤ m * 2 ^ j → 0 < size m
    some q zero j h = absurd (lt_irrefl 0 (lt_of_lt_of_le (pow_pos q) (le_trans h (le_of_eq (zero-mul (2 ^ j))))))
    some q (suc m) j h = lt_of_not-le (λ (g : size (suc m) ≤ 0). not-le_of_lt (lt_of_lt_of_le (size-lt (suc m)) (pow_mono g))
        (native.Mathlib.Nat.zero-lt-suc m))

-- ---- for a and b above zero in the range
pub in_range_equal : {k l : ℕ} (a b : Float) → suc k + suc l ≤ 970 → Normal k a → Normal l b
    → Alike (dekker a b) (by_parts binary64 a b (neg (mul binary64 a b)))
in_range_equal a b near x y =
    let l1 = x.up in
    let l2 = y.up in
    let u1 = x.down in
    let u2 = y.down in
    positive_equal a b x.A y.A x.i y.i (x.i + y.i - 1074) (omega arith) (omega arith) x.lo x.hi (omega arith) y.lo y.hi
    (omega arith) x.is y.is
