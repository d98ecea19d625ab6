-- `mul-add` at binary64 by the parts of its three operands; and where one of them is not finite or is a zero.
use Rattle.std.proofs.Common.{◌≡◌, ℕ, ◌*◌, ◌^◌, ◌<◌, Bool, true, false, not, T, ◌⊎◌, ℤ, pos, sym, refl, ap, ◌∙◌, inl, inr, true≢false, zero-lt-suc}
use Rattle.std.proofs.Common.{mul_assoc, eq-zero-or-pos, mul-pos, zero-mul, mul-one, mul_right_comm, arith, pow_pos}
use native.Mathlib.Nat.{mul-mul-mul_comm, eq_of_mul-eq-mul_right}
use lib.Ieee.{Float, nan, inf, fin, binary64, unlike, up, down, sum, add, mul, eq, of_bits}
use lib.Ieee.Fits.{down_pos}
use lib.Ieee.Exact.{HasValue}
use lib.Ieee.Scale.{finite}
use Rattle.float.specs.MulAdd.{mul_add}
use Rattle.float.specs.Promises.Parts.{Splits}
use Rattle.float.specs.Laws.Zero.{round_of_zero, zero_bits, equals_zero, level_zero, zero_of}
use Rattle.float.proofs.mul_add.Sums.{sum_same}

-- ---- an operand that is not finite
pub at_first : (x y z : Float) → T (not (finite x)) → add binary64 (mul binary64 x y) z ≡ mul_add binary64 x y z
unfolding mul_add
at_first nan y z h = refl
at_first (inf s) y z h = refl
at_first (fin s m e) y z h = absurd h

pub at_second : (x y z : Float) → T (finite x) → T (not (finite y)) → add binary64 (mul binary64 x y) z ≡ mul_add binary64 x y z
unfolding mul_add
at_second nan y z g h = absurd g
at_second (inf s) y z g h = absurd g
at_second (fin s m e) nan z g h = refl
at_second (fin s m e) (inf t) z g h = refl
at_second (fin s m e) (fin t n d) z g h = absurd h

pub at_third : (x y z : Float) → T (finite x) → T (finite y) → T (not (finite z)) → z ≡ mul_add binary64 x y z
unfolding mul_add
at_third nan y z g k h = absurd g
at_third (inf s) y z g k h = absurd g
at_third (fin s m e) nan z g k h = absurd k
at_third (fin s m e) (inf t) z g k h = absurd k
at_third (fin s m e) (fin t n d) nan g k h = refl
at_third (fin s m e) (fin t n d) (inf u) g k h = refl
at_third (fin s m e) (fin t n d) (fin u p i) g k h = absurd h

-- a finite value that is not 0.0 has digits
pub some_digits : (x : Float) (s : Bool) (q k : ℕ) → Splits x s q k → eq x (of_bits binary64 0) ≡ false → 0 < q
some_digits x s q k h f = go (eq-zero-or-pos q)
  where
    bad : (x : Float) → HasValue x s (q * 2 ^ k) (2 ^ 1074) → eq x (of_bits binary64 0) ≡ false → q ≡ 0 → ⊥
    bad nan v f z = v
    bad (inf t) v f z = v
    bad (fin t m e) v f z =
        let a : m * up e ≡ 0 =
        eq_of_mul-eq-mul_right (2 ^ 1074) (pow_pos 1074) (m * up e) 0
        (v.1 ∙ ap (λ (y : ℕ). y * 2 ^ k * down e) z ∙ ap (λ (y : ℕ). y * down e) (zero-mul (2 ^ k)) ∙ zero-mul (down e) ∙ sym (zero-mul (2 ^ 1074))) in
        true≢false
        (sym (level_zero t (m * up e * 1) (0 * 1 * down e) (mul-one (m * up e) ∙ a) (zero-mul (down e)))
        ∙ sym (equals_zero t m e)
        ∙ ap (λ (v : Float). eq (fin t m e) v) (sym zero_bits)
        ∙ f)

    go : (q ≡ 0) ⊎ (0 < q) → 0 < q
    go (inl z) = absurd (bad x h.value f z)
    go (inr p) = p

-- ---- a factor that is 0: the product is a zero with its sign, and the sum is the addend's
module _ (s : Bool) (m : ℕ) (e : ℤ) (t : Bool) (n : ℕ) (d : ℤ) (none : m * up e * (n * up d) ≡ 0) where
  product_zero : mul binary64 (fin s m e) (fin t n d) ≡ fin (unlike s t) 0 (pos 0)
  unfolding mul
  product_zero = round_of_zero (unlike s t) (m * up e * (n * up d)) (down e * down d) (mul-pos (down_pos e) (down_pos d)) none

  sum_zero : (u : Bool) (p : ℕ) (g : ℤ) → add binary64 (fin (unlike s t) 0 (pos 0)) (fin u p g) ≡ mul_add binary64 (fin s m e) (fin t n d) (fin u p g)
  unfolding mul_add
  sum_zero u p g =
      sum_same (unlike s t) (0 * 1 * down g) u (p * up g * 1) (1 * down g) (m * up e * (n * up d) * down g) (p * up g * (down e * down d))
      (down e * down d * down g)
      (mul-pos (zero-lt-suc 0) (down_pos g)) (mul-pos (mul-pos (down_pos e) (down_pos d)) (down_pos g))
      (no_product ∙ sym (ap (λ (x : ℕ). x * down g * (1 * down g)) none ∙ ap (λ (x : ℕ). x * (1 * down g)) (zero-mul (down g)) ∙ zero-mul (1 * down g)))
      (shape (p * up g) (down e * down d) (down g))
    where
      no_product : 0 * 1 * down g * (down e * down d * down g) ≡ 0
      no_product = ap (λ (x : ℕ). x * (down e * down d * down g)) (zero-mul (down g)) ∙ zero-mul (down e * down d * down g)

      shape : (a b c : ℕ) → a * 1 * (b * c) ≡ a * b * (1 * c)
      shape a b c = omega arith

  pub factor_zero : (z : Float) → T (finite z) → add binary64 (mul binary64 (fin s m e) (fin t n d)) z ≡ mul_add binary64 (fin s m e) (fin t n d) z
  factor_zero nan h = absurd h
  factor_zero (inf u) h = absurd h
  factor_zero (fin u p g) h = ap (λ (v : Float). add binary64 v (fin u p g)) product_zero ∙ sum_zero u p g

pub first_zero : (x y z : Float) → T (finite x) → T (finite y) → T (finite z) → eq x (of_bits binary64 0) ≡ true
    → add binary64 (mul binary64 x y) z ≡ mul_add binary64 x y z
first_zero nan y z g h k e = absurd g
first_zero (inf s) y z g h k e = absurd g
first_zero (fin s m i) nan z g h k e = absurd h
first_zero (fin s m i) (inf t) z g h k e = absurd h
first_zero (fin s m i) (fin t n d) z g h k e =
    factor_zero s m i t n d (ap (λ (x : ℕ). x * up i * (n * up d)) (zero_of s m i e) ∙ ap (λ (x : ℕ). x * (n * up d)) (zero-mul (up i))
    ∙ zero-mul (n * up d)) z k

pub second_zero : (x y z : Float) → T (finite x) → T (finite y) → T (finite z) → eq y (of_bits binary64 0) ≡ true
    → add binary64 (mul binary64 x y) z ≡ mul_add binary64 x y z
second_zero nan y z g h k e = absurd g
second_zero (inf s) y z g h k e = absurd g
second_zero (fin s m i) nan z g h k e = absurd h
second_zero (fin s m i) (inf t) z g h k e = absurd h
second_zero (fin s m i) (fin t n d) z g h k e =
    factor_zero s m i t n d (ap (λ (x : ℕ). m * up i * (x * up d)) (zero_of t n d e) ∙ ap (λ (x : ℕ). m * up i * x) (zero-mul (up d))
    ∙ native.Mathlib.Nat.mul-zero (m * up i)) z k

-- ---- three finite operands, by any fractions that they equal, brought to one denominator g
pub mul_add_at : (x y z : Float) (s : Bool) (a α : ℕ) (t : Bool) (b β : ℕ) (u : Bool) (c γ : ℕ) (p q g : ℕ) → 0 < α → 0 < β → 0 < γ → 0 < g
    → HasValue x s a α → HasValue y t b β → HasValue z u c γ → a * b * g ≡ p * (α * β) → c * g ≡ q * γ
    → mul_add binary64 x y z ≡ sum binary64 (unlike s t) p u q g
mul_add_at nan y z s a α t b β u c γ p q g A B C G v w o h k = absurd v
mul_add_at (inf s') y z s a α t b β u c γ p q g A B C G v w o h k = absurd v
mul_add_at (fin s' m e) nan z s a α t b β u c γ p q g A B C G v w o h k = absurd w
mul_add_at (fin s' m e) (inf t') z s a α t b β u c γ p q g A B C G v w o h k = absurd w
mul_add_at (fin s' m e) (fin t' n d) nan s a α t b β u c γ p q g A B C G v w o h k = absurd o
mul_add_at (fin s' m e) (fin t' n d) (inf u') s a α t b β u c γ p q g A B C G v w o h k = absurd o
mul_add_at (fin s' m e) (fin t' n d) (fin u' l i) s a α t b β u c γ p q g A B C G v w o h k =
    opened
    ∙ sum_same (unlike s' t') (m * up e * (n * up d) * down i) u' (l * up i * (down e * down d)) (down e * down d * down i) p q g
    (mul-pos (mul-pos (down_pos e) (down_pos d)) (down_pos i)) G product addend
    ∙ ap (λ (x : Bool). sum binary64 (unlike x t') p u' q g) v.0
    ∙ ap (λ (x : Bool). sum binary64 (unlike s x) p u' q g) w.0
    ∙ ap (λ (x : Bool). sum binary64 (unlike s t) p x q g) o.0
  where
    opened : mul_add binary64 (fin s' m e) (fin t' n d) (fin u' l i) ≡ sum binary64 (unlike s' t') (m * up e * (n * up d) * down i) u'
        (l * up i * (down e * down d)) (down e * down d * down i)
    opened = unfold mul_add in refl

    M : ℕ
    M = m * up e

    N : ℕ
    N = n * up d

    rearranged : (M N D α β g p q x y : ℕ) → 0 < α * β → M * α ≡ x * p → N * β ≡ y * q → x * y * g ≡ D * (α * β) → M * N * g ≡ D * (p * q)
    rearranged M N D α β g p q x y P f k e =
        eq_of_mul-eq-mul_right (α * β) P (M * N * g) (D * (p * q))
        (mul_right_comm (M * N) g (α * β)
        ∙ ap (λ (z : ℕ). z * g) (mul-mul-mul_comm M N α β ∙ ap (λ (z : ℕ). z * (N * β)) f ∙ ap (λ (z : ℕ). x * p * z) k ∙ mul-mul-mul_comm x p y q)
        ∙ mul_right_comm (x * y) (p * q) g
        ∙ ap (λ (z : ℕ). z * (p * q)) e
        ∙ mul_right_comm D (α * β) (p * q))

    product : m * up e * (n * up d) * down i * g ≡ p * (down e * down d * down i)
    product =
        mul_right_comm (m * up e * (n * up d)) (down i) g
        ∙ ap (λ (z : ℕ). z * down i) (rearranged (m * up e) (n * up d) p α β g (down e) (down d) a b (mul-pos A B) v.1 w.1 h)
        ∙ mul_assoc p (down e * down d) (down i)

    one : (L γ c i q g : ℕ) → 0 < γ → L * γ ≡ c * i → c * g ≡ q * γ → L * g ≡ q * i
    one L γ c i q g P f e =
        eq_of_mul-eq-mul_right γ P (L * g) (q * i)
        (mul_right_comm L g γ ∙ ap (λ (z : ℕ). z * g) f ∙ mul_right_comm c i g ∙ ap (λ (z : ℕ). z * i) e ∙ mul_right_comm q γ i)

    addend : l * up i * (down e * down d) * g ≡ q * (down e * down d * down i)
    addend =
        mul_right_comm (l * up i) (down e * down d) g
        ∙ ap (λ (z : ℕ). z * (down e * down d)) (one (l * up i) γ c (down i) q g C o.1 k)
        ∙ mul_right_comm q (down i) (down e * down d)
        ∙ mul_assoc q (down e * down d) (down i)
