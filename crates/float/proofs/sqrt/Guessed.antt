-- Patterns and their values, for the guess of `sqrt`: which patterns may be read, and which value has given digits at a given place.
use Rattle.std.proofs.Common.{◌≡◌, ℕ, ◌+◌, ◌*◌, ◌/◌, ◌%◌, ◌^◌, ◌<◌, ◌≤◌, min, Bool, false, not, T, sym, ap, ◌∙◌, subst, zero-add, arith}
use lib.Dec.{nleb→lt}
use lib.Ieee.{Float, nan, inf, fin, binary64, units, is_nan, nan_bits, fits, to_bits, of_bits}
use lib.Ieee.Bits.{of_bits-to_bits, to_bits-of_bits, nan_bits_is}
use lib.Ieee.Exact.{HasValue}
use Rattle.float.specs.Number.{negative}
use Rattle.float.specs.Laws.Tests.{sign_bit}
use Rattle.float.proofs.Pattern.{units_is, no_nan}

-- ---- a pattern up to infinity's is no NaN's, and is that of what is read from it
pub plain : (n : ℕ) → n ≤ 2047 * 2 ^ 52 → T (not (nan_bits binary64 n))
plain n h = subst (λ (x : ℕ). T (not (nan_bits binary64 x))) (zero-add n) (no_nan false n h)

pub read : (n : ℕ) → n ≤ 2047 * 2 ^ 52 → T (not (is_nan (of_bits binary64 n))) × (to_bits binary64 (of_bits binary64 n) < 2 ^ 63)
read n h = (number, subst (λ (b : ℕ). b < 2 ^ 63) (sym (to_bits-of_bits binary64 n (below n h) number)) (small n h))
  where
    number : T (not (is_nan (of_bits binary64 n)))
    number = subst (λ (b : Bool). T (not b)) (nan_bits_is binary64 n) (plain n h)

    below : (n : ℕ) → n ≤ 2047 * 2 ^ 52 → n < 2 ^ 64
    below n h = omega arith

    small : (n : ℕ) → n ≤ 2047 * 2 ^ 52 → n < 2 ^ 63
    small n h = omega arith

-- ---- the sign's bit is clear in what has no sign
pub no_sign_bit : (x : Float) (a c : ℕ) → HasValue x false a c → T (fits binary64 x) → T (not (is_nan x)) → to_bits binary64 x < 2 ^ 63
no_sign_bit x a c v f n = nleb→lt (2 ^ 63) (to_bits binary64 x) (subst (λ (b : Bool). T (not b)) (sym (sign_bit x f n ∙ no_sign x v)) tt)
  where
    no_sign : (x : Float) → HasValue x false a c → negative x ≡ false
    no_sign nan v = absurd v
    no_sign (inf s) v = absurd v
    no_sign (fin s m e) v = v.0

-- ---- g is its digits at its place
pub by_digits : (g : Float) (k : ℕ) → T (fits binary64 g) → k ≤ 2045 → to_bits binary64 g / 2 ^ 52 ≡ k + 1
    → g ≡ units binary64 false (to_bits binary64 g % 2 ^ 52 + 2 ^ 52) k
by_digits g k f l e =
    sym (of_bits-to_bits binary64 g f)
    ∙ ap (λ (n : ℕ). of_bits binary64 n) (joined (to_bits binary64 g) k l e)
    ∙ units_is false (to_bits binary64 g % 2 ^ 52 + 2 ^ 52) k (short (to_bits binary64 g)) (λ _. full (to_bits binary64 g))
  where
    joined : (b k : ℕ) → k ≤ 2045 → b / 2 ^ 52 ≡ k + 1 → b ≡ 0 + min (k * 2 ^ 52 + (b % 2 ^ 52 + 2 ^ 52)) (2047 * 2 ^ 52)
    joined b k l e = omega arith

    short : (b : ℕ) → b % 2 ^ 52 + 2 ^ 52 ≤ 2 ^ 53
    short b = omega arith

    full : (b : ℕ) → 2 ^ 52 ≤ b % 2 ^ 52 + 2 ^ 52
    full b = omega arith
