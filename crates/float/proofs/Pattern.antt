-- The bit pattern of what `units` gives at binary64: q * 2 ^ k units, with q having all its 53 digits where
-- k is above 0, has the pattern k * 2 ^ 52 + q, cut to an infinity's, with its sign.
-- And what `closest` gives at 2 ^ 11, as a program computes it.
use Rattle.std.proofs.Common.{◌≡◌, ℕ, suc, ◌+◌, ◌-◌, ◌*◌, ◌/◌, ◌%◌, ◌^◌, ◌<◌, ◌≤◌, min, Bool, true, false, cond, not, T, ltb, ◌⊎◌, sym, refl, ap, ◌∙◌}
use Rattle.std.proofs.Common.{subst, inl, inr, le_trans, le_of_eq, le_refl, lt_of_lt_of_le, le_of_suc-le-suc, lt_of_le_of_lt, mul-le-mul_right}
use Rattle.std.proofs.Common.{zero-lt-suc, mul_assoc, eq-or-lt_of_le, mul-le-mul_left, mul-lt-mul_of_pos_right, lt_of_not-le, not-le_of_lt}
use Rattle.std.proofs.Common.{le_of_mul-le-mul_right, mul-div_cancel, arith, lit<, ltb→lt, nltb→le, pow_pos, pow_mono, pow-add}
use Prim.Native.Nat.{compare, Ordering}
use native.Mathlib.Nat.{pow-succ'}
use lib.Pow.{pow-lt}
use lib.Ieee.{Float, nan, inf, fin, binary64, down, size, nearest, odd, units, fits, of_bits, nan_bits, to_bits, is_nan}
use lib.Ieee.Fits.{down_pos, odd-fits, inf-fits, nearest-le}
use lib.Ieee.Exact.{HasValue, odd_sign}
use lib.Ieee.Nearest.{closest}
use lib.Ieee.Bits.{of_bits-to_bits, nan_bits_above}
use Rattle.float.proofs.Rounded.{size_is}
use Rattle.float.specs.Laws.Near.{Cmp, cmp}
use Rattle.float.specs.Laws.Tests.{nan_test}

-- the sign's weight
abbrev pub sign : Bool → ℕ
sign s = cond s (2 ^ 63) 0

-- ---- the pattern of a finite value, by its number of units n
pub pattern_of : (v : Float) (s : Bool) (n : ℕ) → HasValue v s n (2 ^ 1074) → to_bits binary64 v ≡ sign s + (size n - 53) * 2 ^ 52 + n / 2 ^ (size n - 53)
unfolding to_bits
pattern_of nan s n h = absurd h
pattern_of (inf t) s n h = absurd h
pattern_of (fin t m e) s n h =
    ap (λ (x : ℕ). sign t + (size x - 53) * 2 ^ 52 + x / 2 ^ (size x - 53)) (ap (λ (x : ℕ). x / down e) h.1 ∙ mul-div_cancel n (down_pos e))
    ∙ ap (λ (t : Bool). sign t + (size n - 53) * 2 ^ 52 + n / 2 ^ (size n - 53)) h.0

-- n is q * 2 ^ k, q having 53 digits at most, and all of them where k is above 0
digits_of : (q k n : ℕ) → n ≡ q * 2 ^ k → q < 2 ^ 53 → (0 < k → 2 ^ 52 ≤ q) → (size n - 53) * 2 ^ 52 + n / 2 ^ (size n - 53) ≡ k * 2 ^ 52 + q
digits_of q k n e a b =
    ap (λ (x : ℕ). x * 2 ^ 52 + n / 2 ^ x)
    (size_is 52 n k (lt_of_le_of_lt (le_of_eq e) (mul-lt-mul_of_pos_right a (pow_pos k)))
    (λ (h : 0 < k). le_trans (mul-le-mul_right (2 ^ k) (b h)) (le_of_eq (sym e))))
    ∙ ap (λ (x : ℕ). k * 2 ^ 52 + x) (ap (λ (x : ℕ). x / 2 ^ k) e ∙ mul-div_cancel q (pow_pos k))

-- 2 ^ 53 at k is 2 ^ 52 at k + 1
carried : (q k : ℕ) → q ≡ 2 ^ 53 → q * 2 ^ k ≡ 2 ^ 52 * 2 ^ suc k
carried q k e = ap (λ (x : ℕ). x * 2 ^ k) e ∙ mul_assoc (2 ^ 52) 2 (2 ^ k) ∙ ap (λ (x : ℕ). 2 ^ 52 * x) (sym (pow-succ' 2 k))

digits_up_to : (q k : ℕ) → q ≤ 2 ^ 53 → (0 < k → 2 ^ 52 ≤ q) → (size (q * 2 ^ k) - 53) * 2 ^ 52 + q * 2 ^ k / 2 ^ (size (q * 2 ^ k) - 53) ≡ k * 2 ^ 52 + q
digits_up_to q k a b = elim (eq-or-lt_of_le a) [
  | inl e ↦ digits_of (2 ^ 52) (suc k) (q * 2 ^ k) (carried q k e) (lit< tt) (λ _. le_refl (2 ^ 52)) ∙ regroup e
  | inr l ↦ digits_of q k (q * 2 ^ k) refl l b
]
  where
    regroup : q ≡ 2 ^ 53 → suc k * 2 ^ 52 + 2 ^ 52 ≡ k * 2 ^ 52 + q
    regroup e = omega arith

-- ---- below an infinity, and from there on: 2 ^ (1074 + 1024) units
below : (q k : ℕ) → (0 < k → 2 ^ 52 ≤ q) → q * 2 ^ k < 2 ^ 2098 → k ≤ 2045
below q k b h = le_of_suc-le-suc (lt_of_not-le (λ (g : 2046 ≤ k).
    not-le_of_lt h (le_trans (le_of_eq (pow-add 2 52 2046)) (le_trans (mul-le-mul_left (2 ^ 52) (pow_mono g))
    (mul-le-mul_right (2 ^ k) (b (lt_of_lt_of_le (lit< tt) g)))))))

from_there : (q k : ℕ) → q ≤ 2 ^ 53 → (0 < k → 2 ^ 52 ≤ q) → 2 ^ 2098 ≤ q * 2 ^ k → 2047 * 2 ^ 52 ≤ k * 2 ^ 52 + q
from_there q k a b h = go (eq-or-lt_of_le least)
  where
    least : 2045 ≤ k
    least = le_of_suc-le-suc (lt_of_not-le (λ (g : suc k ≤ 2045).
        not-le_of_lt (lt_of_le_of_lt (mul-le-mul_right (2 ^ k) a) (lt_of_le_of_lt (le_of_eq (sym (pow-add 2 53 k))) (pow-lt (more g)))) h))
      where
        more : suc k ≤ 2045 → 53 + k < 2098
        more g = omega arith

    at : 2045 ≡ k → 2 ^ 53 ≤ q
    at e = le_of_mul-le-mul_right (le_trans (le_of_eq (sym (pow-add 2 53 2045))) (subst (λ (x : ℕ). 2 ^ 2098 ≤ q * 2 ^ x) (sym e) h)) (pow_pos 2045)

    go : (2045 ≡ k) ⊎ (2045 < k) → 2047 * 2 ^ 52 ≤ k * 2 ^ 52 + q
    go (inl e) = let x : 2 ^ 53 ≤ q = at e in omega arith
    go (inr l) = let x : 2 ^ 52 ≤ q = b (lt_of_lt_of_le (zero-lt-suc 2045) l) in omega arith

-- ---- `units`
pub units_fits : (s : Bool) (q k : ℕ) → q ≤ 2 ^ 53 → T (fits binary64 (units binary64 s q k))
unfolding units
units_fits s q k a = go (ltb (q * 2 ^ k) (2 ^ 2098)) (ltb→lt (q * 2 ^ k) (2 ^ 2098))
  where
    go : (b : Bool) → (T b → q * 2 ^ k < 2 ^ 2098) → T (fits binary64 (cond b (odd 54 s q k 1074) (inf s)))
    go true h = odd-fits binary64 54 s q k (lt_of_le_of_lt a (lit< tt)) a (h tt)
    go false h = inf-fits binary64 s

units_pattern : (s : Bool) (q k : ℕ) → q ≤ 2 ^ 53 → (0 < k → 2 ^ 52 ≤ q)
    → to_bits binary64 (units binary64 s q k) ≡ sign s + min (k * 2 ^ 52 + q) (2047 * 2 ^ 52)
unfolding units
units_pattern s q k a b = go (ltb (q * 2 ^ k) (2 ^ 2098)) (ltb→lt (q * 2 ^ k) (2 ^ 2098)) (nltb→le (q * 2 ^ k) (2 ^ 2098))
  where
    whole : (x y : ℕ) → x ≤ 2045 → y ≤ 2 ^ 53 → x * 2 ^ 52 + y ≡ min (x * 2 ^ 52 + y) (2047 * 2 ^ 52)
    whole x y h g = omega arith

    cut : (x : ℕ) → 2047 * 2 ^ 52 ≤ x → 2047 * 2 ^ 52 ≡ min x (2047 * 2 ^ 52)
    cut x h = omega arith

    join : (x y z w : ℕ) → y + z ≡ w → x + y + z ≡ x + w
    join x y z w e = omega arith

    inf_pattern : to_bits binary64 (inf s) ≡ sign s + 2047 * 2 ^ 52
    inf_pattern = unfold to_bits in refl

    go : (t : Bool) → (T t → q * 2 ^ k < 2 ^ 2098) → (T (not t) → 2 ^ 2098 ≤ q * 2 ^ k)
        → to_bits binary64 (cond t (odd 54 s q k 1074) (inf s)) ≡ sign s + min (k * 2 ^ 52 + q) (2047 * 2 ^ 52)
    go true h g =
        pattern_of (odd 54 s q k 1074) s (q * 2 ^ k) (odd_sign 54 s q k 1074)
        ∙ join (sign s) ((size (q * 2 ^ k) - 53) * 2 ^ 52) (q * 2 ^ k / 2 ^ (size (q * 2 ^ k) - 53)) (min (k * 2 ^ 52 + q) (2047 * 2 ^ 52))
        (digits_up_to q k a b ∙ whole k q (below q k b (h tt)) a)
    go false h g = inf_pattern ∙ ap (λ (x : ℕ). sign s + x) (cut (k * 2 ^ 52 + q) (from_there q k a b (g tt)))

pub units_is : (s : Bool) (q k : ℕ) → q ≤ 2 ^ 53 → (0 < k → 2 ^ 52 ≤ q) → of_bits binary64 (sign s + min (k * 2 ^ 52 + q) (2047 * 2 ^ 52))
    ≡ units binary64 s q k
units_is s q k a b = ap (λ (x : ℕ). of_bits binary64 x) (sym (units_pattern s q k a b)) ∙ of_bits-to_bits binary64 (units binary64 s q k) (units_fits s q k a)

-- up to the largest value, as a program writes it
pub written : (s : Bool) (q k : ℕ) → q ≤ 2 ^ 53 → k ≤ 2045 → (0 < k → 2 ^ 52 ≤ q) → of_bits binary64 (sign s + (k * 2 ^ 52 + q)) ≡ units binary64 s q k
written s q k a h b = ap (λ (n : ℕ). of_bits binary64 (sign s + n)) (plain k q h a) ∙ units_is s q k a b
  where
    plain : (k q : ℕ) → k ≤ 2045 → q ≤ 2 ^ 53 → k * 2 ^ 52 + q ≡ min (k * 2 ^ 52 + q) (2047 * 2 ^ 52)
    plain k q h a = omega arith

-- and an infinity from there on
pub overflows : (s : Bool) (q k : ℕ) → q ≤ 2 ^ 53 → 2 ^ 52 ≤ q → 2046 ≤ k → of_bits binary64 (sign s + 2047 * 2 ^ 52) ≡ units binary64 s q k
overflows s q k a b h = ap (λ (n : ℕ). of_bits binary64 (sign s + n)) (beyond k q h b) ∙ units_is s q k a (λ _. b)
  where
    beyond : (k q : ℕ) → 2046 ≤ k → 2 ^ 52 ≤ q → 2047 * 2 ^ 52 ≡ min (k * 2 ^ 52 + q) (2047 * 2 ^ 52)
    beyond k q h b = omega arith

-- ---- such a pattern is no NaN's
pub no_nan : (s : Bool) (n : ℕ) → n ≤ 2047 * 2 ^ 52 → T (not (nan_bits binary64 (sign s + n)))
no_nan s n h = subst (λ (b : Bool). T (not b)) (sym (nan_bits_above binary64 (sign s + n))) (go s)
  where
    rest : (n : ℕ) → n ≤ 2047 * 2 ^ 52 → (2 ^ 63 + n) % 2 ^ 63 ≡ n
    rest n h = omega arith

    rest_0 : (n : ℕ) → n ≤ 2047 * 2 ^ 52 → (0 + n) % 2 ^ 63 ≡ n
    rest_0 n h = omega arith

    no : (n : ℕ) → n ≤ 2047 * 2 ^ 52 → T (not (ltb (2047 * 2 ^ 52) n))
    no n h = go (ltb (2047 * 2 ^ 52) n) (ltb→lt (2047 * 2 ^ 52) n)
      where
        go : (b : Bool) → (T b → 2047 * 2 ^ 52 < n) → T (not b)
        go true g = absurd (not-le_of_lt (g tt) h)
        go false g = tt

    go : (s : Bool) → T (not (ltb (2047 * 2 ^ 52) ((sign s + n) % 2 ^ 63)))
    go true = subst (λ (x : ℕ). T (not (ltb (2047 * 2 ^ 52) x))) (sym (rest n h)) (no n h)
    go false = subst (λ (x : ℕ). T (not (ltb (2047 * 2 ^ 52) x))) (sym (rest_0 n h)) (no n h)

-- ---- the pattern of the NaN
pub nan_pattern : (x : Float) → is_nan x ≡ true → to_bits binary64 x ≡ 0x7ff8_0000_0000_0000
unfolding to_bits
nan_pattern x h = ap (to_bits binary64) (nan_test x h)

pub the_nan : of_bits binary64 0x7ff8_0000_0000_0000 ≡ nan
unfolding of_bits
the_nan = refl

-- ---- the 11 digits that go: as a program moves the kept number up
pub closest_is : (w : ℕ) → closest w (2 ^ 11) ≡ w / 2 ^ 11 + (w % 2 ^ 11 + w / 2 ^ 11 % 2 + 1023) / 2 ^ 11
closest_is w = go (compare (w % 2048 * 2) 2048) (cmp (w % 2048 * 2) 2048)
  where
    go : (o : Ordering) → Cmp o (w % 2048 * 2) 2048 → nearest (w / 2048) o ≡ w / 2048 + (w % 2048 + w / 2048 % 2 + 1023) / 2048
    go Ordering.lt h = omega arith
    go Ordering.eq h = omega arith
    go Ordering.gt h = omega arith

pub closest_le : (w : ℕ) → w < 2 ^ 64 → closest w (2 ^ 11) ≤ 2 ^ 53
closest_le w h = le_trans (nearest-le (w / 2048) (compare (w % 2048 * 2) 2048)) (small w h)
  where
    small : (w : ℕ) → w < 2 ^ 64 → suc (w / 2048) ≤ 2 ^ 53
    small w h = omega arith

pub closest_ge : (w : ℕ) → 2 ^ 63 ≤ w → 2 ^ 52 ≤ closest w (2 ^ 11)
closest_ge w h = subst (λ (x : ℕ). 2 ^ 52 ≤ x) (sym (closest_is w)) (large w h)
  where
    large : (w : ℕ) → 2 ^ 63 ≤ w → 2 ^ 52 ≤ w / 2048 + (w % 2048 + w / 2048 % 2 + 1023) / 2048
    large w h = omega arith
