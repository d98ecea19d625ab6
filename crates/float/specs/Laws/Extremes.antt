-- The largest value of binary64: every value of the format is within it.
use Rattle.std.specs.Prelude.{◌≡◌, ℕ, suc, ◌+◌, ◌-◌, ◌*◌, ◌^◌, ◌<◌, ◌≤◌, Bool, true, false, not, ◌&&◌, T, pos, negsuc, nat_le, nat_lt, Float}
use Rattle.std.proofs.Common.{le_trans, le_of_eq, le_of_lt, mul-one, mul_assoc, mul-le-mul, mul-le-mul_left, mul-le-mul_right, lt_of_mul-lt-mul_right}
use Rattle.std.proofs.Common.{le_of_suc-le-suc, arith, sym, ap, subst, ◌∙◌, ltb→lt, leb→le, lit≤, pow-add, pow_pos, pow_mono}
use Rattle.std.proofs.Math.Dec.{nleb→lt}
use Rattle.std.specs.Float.{nan, inf, fin, binary64}
use Rattle.std.specs.Float.Ieee.Fits.{and_l, and_r}
use Rattle.float.specs.Promises.Order.{Within}
use Rattle.float.specs.Laws.Within.{held}

-- ---- the largest value
abbrev pub largest : Float
largest = fin false 9007199254740991 (pos 971)

-- m * u ≤ (2 ^ 53 - 1) * 2 ^ 971 * d, for 2 ^ e = u / d
pub held_largest : (x : Float) → T (held binary64 x) → Within largest x
held_largest nan t = absurd t
held_largest (inf s) t = absurd t
held_largest (fin s m (negsuc k)) t = record {
  real = tt;
  size =
      le_trans (le_of_eq (mul-one (m * 1) ∙ mul-one m))
      (le_trans (le_of_lt (ltb→lt m (2 ^ 53) (and_l (nat_lt m (2 ^ 53)) _ t)))
      (le_trans (lit≤ {m = 2 ^ 53} {n = 9007199254740991 * 2 ^ 971} tt)
      (le_trans (le_of_eq (sym (mul-one (9007199254740991 * 2 ^ 971)))) (mul-le-mul_left (9007199254740991 * 2 ^ 971) (pow_pos (suc k))))));
}
held_largest (fin s m (pos k)) t = go (nat_le k 971) (leb→le k 971) (nleb→lt k 971)
  where
    one : m * 2 ^ k * 1 ≡ m * 2 ^ k
    one = mul-one (m * 2 ^ k)

    whole : 9007199254740991 * 2 ^ 971 ≡ 9007199254740991 * 2 ^ 971 * 1
    whole = sym (mul-one (9007199254740991 * 2 ^ 971))

    rest : Bool
    rest = nat_le 1 (2 ^ 1074) && nat_lt (m * 2 ^ k) (2 ^ 1024 * 1)

    top : m * 2 ^ k < 2 ^ 1024 * 1
    top = ltb→lt (m * 2 ^ k) (2 ^ 1024 * 1) (and_r (nat_le 1 (2 ^ 1074)) (nat_lt (m * 2 ^ k) (2 ^ 1024 * 1)) (and_r (nat_lt m (2 ^ 53)) rest t))

    small : m ≤ 9007199254740991
    small = le_of_suc-le-suc (ltb→lt m (2 ^ 53) (and_l (nat_lt m (2 ^ 53)) rest t))

    go : (b : Bool) → (T b → k ≤ 971) → (T (not b) → 971 < k) → Within largest (fin s m (pos k))
    go true h n = record { real = tt; size = le_trans (le_of_eq one) (le_trans (mul-le-mul small (pow_mono (h tt))) (le_of_eq whole)) }
    go false h n =
        let g : 971 < k = n tt in
        let e : k ≡ k - 971 + 971 = omega arith in
        let q : m * 2 ^ k ≡ m * 2 ^ (k - 971) * 2 ^ 971 = ap (λ (z : ℕ). m * z) (ap (λ (z : ℕ). 2 ^ z) e ∙ pow-add 2 (k - 971) 971)
        ∙ sym (mul_assoc m (2 ^ (k - 971)) (2 ^ 971)) in
        let l : m * 2 ^ (k - 971) < 2 ^ 53 = lt_of_mul-lt-mul_right (2 ^ 971) {n = 2 ^ 53} (subst (λ (z : ℕ). z < 2 ^ 1024) q top) in
        record { real = tt; size = le_trans (le_of_eq (one ∙ q)) (le_trans (mul-le-mul_right (2 ^ 971) (le_of_suc-le-suc l)) (le_of_eq whole)) }
