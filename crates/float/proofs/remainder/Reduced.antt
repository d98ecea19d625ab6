-- `rem` of two finite values by their units: the remainder of two whole numbers; and a whole number of units that is a value rounds to it.
use Rattle.std.proofs.Common.{◌≡◌, ℕ, ◌+◌, ◌-◌, ◌*◌, ◌/◌, ◌%◌, ◌^◌, ◌<◌, ◌≤◌, Bool, cond, T, ◌⊎◌, ℤ, sym, refl, ap, ◌∙◌, subst, inl, inr, le_trans}
use Rattle.std.proofs.Common.{le_of_eq, lt_of_lt_of_le, lt_irrefl, mul-le-mul_right, mod-lt, mod-eq_of_lt, mul_assoc, mul_comm, add-mul}
use Rattle.std.proofs.Common.{eq-zero-or-pos, mul-lt-mul_of_pos_right, mul-pos, div-add-mod', zero-mul, mul_right_comm, arith, pow_pos, pow_mono}
use Rattle.std.proofs.Common.{pow-add, shl_lt, ne_eqb}
use lib.Arith.{digits_mod}
use lib.Ieee.{Float, nan, inf, fin, binary64, up, down, round, rem, fits, of_bits}
use lib.Ieee.Fits.{down_pos, round-fits}
use lib.Ieee.Exact.{HasValue, round_exact}
use lib.Ieee.Bits.{of_bits-to_bits}
use lib.Ieee.Scale.{round_same}
use Rattle.float.specs.Promises.Parts.{Splits}
use Rattle.float.proofs.Pattern.{pattern_of}

-- ---- remainders of whole numbers
-- a common factor goes out
pub mod_scale : (a b c : ℕ) → 0 < b → 0 < c → a * c % (b * c) ≡ a % b * c
mod_scale a b c B C = ap (λ (x : ℕ). x % (b * c)) split ∙ digits_mod (a / b) (mul-lt-mul_of_pos_right (mod-lt a B) C)
  where
    split : a * c ≡ a / b * (b * c) + a % b * c
    split = ap (λ (x : ℕ). x * c) (sym (div-add-mod' a b)) ∙ add-mul (a / b * b) (a % b) c ∙ ap (λ (x : ℕ). x + a % b * c) (mul_assoc (a / b) b c)

-- two pairs in one proportion have remainders in it
pub mod_cross : (a b d x m u : ℕ) → 0 < d → 0 < u → 0 < m → 0 < b → a * u ≡ x * d → b * u ≡ m * d → a % b * u ≡ x % m * d
mod_cross a b d x m u D U M B e f =
    sym (mod_scale a b u B U)
    ∙ ap (λ (y : ℕ). y % (b * u)) e
    ∙ ap (λ (y : ℕ). x * d % y) f
    ∙ mod_scale x m d M D

-- the digits that the second lacks of the first are a factor
pub mod_places : (p a q b : ℕ) → b ≤ a → 0 < q → p * 2 ^ a % (q * 2 ^ b) ≡ p * 2 ^ (a - b) % q * 2 ^ b
mod_places p a q b h Q = ap (λ (x : ℕ). x % (q * 2 ^ b)) apart ∙ mod_scale (p * 2 ^ (a - b)) q (2 ^ b) Q (pow_pos b)
  where
    back : (a b : ℕ) → b ≤ a → a ≡ a - b + b
    back a b h = omega arith

    apart : p * 2 ^ a ≡ p * 2 ^ (a - b) * 2 ^ b
    apart = ap (λ (x : ℕ). p * 2 ^ x) (back a b h) ∙ ap (λ (x : ℕ). p * x) (pow-add 2 (a - b) b) ∙ sym (mul_assoc p (2 ^ (a - b)) (2 ^ b))

-- ---- `rem` by units
-- the numerators and the common denominator that `rem` has of m * 2 ^ e and n * 2 ^ d, and the numbers of units
pub first_cross : (m : ℕ) (e d : ℤ) (X U : ℕ) → m * up e * U ≡ X * down e → m * up e * down d * U ≡ X * (down e * down d)
first_cross m e d X U h = mul_right_comm (m * up e) (down d) U ∙ ap (λ (x : ℕ). x * down d) h ∙ mul_assoc X (down e) (down d)

pub second_cross : (n : ℕ) (e d : ℤ) (M U : ℕ) → n * up d * U ≡ M * down d → n * up d * down e * U ≡ M * (down e * down d)
second_cross n e d M U h = first_cross n d e M U h ∙ ap (λ (x : ℕ). M * x) (mul_comm (down d) (down e))

-- a number of units above 0 has digits
pub some : (n : ℕ) (d : ℤ) (M : ℕ) → n * up d * 2 ^ 1074 ≡ M * down d → 0 < M → n ≡ 0 → ⊥
some n d M h P z =
    lt_irrefl 0
    (subst (λ (y : ℕ). 0 < y) (sym h ∙ ap (λ (y : ℕ). y * up d * 2 ^ 1074) z ∙ ap (λ (y : ℕ). y * 2 ^ 1074) (zero-mul (up d)) ∙ zero-mul (2 ^ 1074))
    (mul-pos P (down_pos d)))

pub left_pos : (a b : ℕ) → 0 < a * b → 0 < a
left_pos a b h = go (eq-zero-or-pos a)
  where
    go : (a ≡ 0) ⊎ (0 < a) → 0 < a
    go (inl z) = absurd (lt_irrefl 0 (subst (λ (y : ℕ). 0 < y) (ap (λ (y : ℕ). y * b) z ∙ zero-mul b) h))
    go (inr p) = p

pub rem_fin : (s t : Bool) (m n : ℕ) (e d : ℤ) → (n ≡ 0 → ⊥)
    → rem binary64 (fin s m e) (fin t n d) ≡ round binary64 s (m * up e * down d % (n * up d * down e)) (down e * down d)
unfolding rem
rem_fin s t m n e d h = ap (λ (b : Bool). cond b nan (round binary64 s (m * up e * down d % (n * up d * down e)) (down e * down d))) (ne_eqb n 0 h)

-- the remainder of two finite values is that of their numbers of units, in units
pub rem_at : (x y : Float) (s t : Bool) (X M : ℕ) → HasValue x s X (2 ^ 1074) → HasValue y t M (2 ^ 1074) → 0 < M
    → rem binary64 x y ≡ round binary64 s (X % M) (2 ^ 1074)
rem_at nan y s t X M h g P = absurd h
rem_at (inf a) y s t X M h g P = absurd h
rem_at (fin a m e) nan s t X M h g P = absurd g
rem_at (fin a m e) (inf b) s t X M h g P = absurd g
rem_at (fin a m e) (fin b n d) s t X M h g P =
    let D : 0 < down e * down d = mul-pos (down_pos e) (down_pos d) in
    let f : n * up d * down e * 2 ^ 1074 ≡ M * (down e * down d) = second_cross n e d M (2 ^ 1074) g.1 in
    let B : 0 < n * up d * down e = left_pos (n * up d * down e) (2 ^ 1074) (subst (λ (y : ℕ). 0 < y) (sym f) (mul-pos P D)) in
    rem_fin a b m n e d (some n d M g.1 P)
    ∙ round_same binary64 a (m * up e * down d % (n * up d * down e)) (down e * down d) (X % M) (2 ^ 1074) D (pow_pos 1074)
    (mod_cross (m * up e * down d) (n * up d * down e) (down e * down d) X M (2 ^ 1074) D (pow_pos 1074) P B (first_cross m e d X (2 ^ 1074) h.1) f)
    ∙ ap (λ (z : Bool). round binary64 z (X % M) (2 ^ 1074)) h.0

-- ---- a value by its units
-- two values of the format with one sign and one number of units are the same
pub unique : (x y : Float) (s : Bool) (n : ℕ) → T (fits binary64 x) → T (fits binary64 y) → HasValue x s n (2 ^ 1074) → HasValue y s n (2 ^ 1074) → x ≡ y
unique x y s n F G h g =
    sym (of_bits-to_bits binary64 x F)
    ∙ ap (λ (b : ℕ). of_bits binary64 b) (pattern_of x s n h ∙ sym (pattern_of y s n g))
    ∙ of_bits-to_bits binary64 y G

-- a number of units with 53 digits at most, and zeros below, is not rounded
pub round_whole : (s : Bool) (q k : ℕ) → q < 2 ^ 53 → k ≤ 2045 → HasValue (round binary64 s (q * 2 ^ k) (2 ^ 1074)) s (q * 2 ^ k) (2 ^ 1074)
round_whole s q k a b = round_exact binary64 s (q * 2 ^ k) (2 ^ 1074) q k (pow_pos 1074) a (lt_of_lt_of_le (shl_lt 53 k a) (pow_mono (top k b))) refl
  where
    top : (k : ℕ) → k ≤ 2045 → 53 + k ≤ 2098
    top k h = omega arith

pub is_round : (x : Float) (s : Bool) (q k : ℕ) → T (fits binary64 x) → HasValue x s (q * 2 ^ k) (2 ^ 1074) → q < 2 ^ 53 → k ≤ 2045
    → x ≡ round binary64 s (q * 2 ^ k) (2 ^ 1074)
is_round x s q k F h a b =
    unique x (round binary64 s (q * 2 ^ k) (2 ^ 1074)) s (q * 2 ^ k) F (round-fits binary64 s (q * 2 ^ k) (2 ^ 1074)) h (round_whole s q k a b)

pub keeps : (x : Float) (s : Bool) (q k : ℕ) → T (fits binary64 x) → Splits x s q k → x ≡ round binary64 s (q * 2 ^ k) (2 ^ 1074)
keeps x s q k F h = is_round x s q k F h.value h.short h.place

-- ---- the remainder by the parts
module _ (x m : Float) (s t : Bool) (p a q b : ℕ) (F : T (fits binary64 x)) (h : Splits x s p a) (g : Splits m t q b) (Q : 0 < q) where
  M-pos : 0 < q * 2 ^ b
  M-pos = mul-pos Q (pow_pos b)

  -- x is less in size
  pub rem_less : p * 2 ^ a < q * 2 ^ b → x ≡ rem binary64 x m
  rem_less l =
      keeps x s p a F h
      ∙ ap (λ (y : ℕ). round binary64 s y (2 ^ 1074)) (sym (mod-eq_of_lt l))
      ∙ sym (rem_at x m s t (p * 2 ^ a) (q * 2 ^ b) h.value g.value M-pos)

  -- x has no lower place
  pub rem_digits : b ≤ a → round binary64 s (p * 2 ^ (a - b) % q * 2 ^ b) (2 ^ 1074) ≡ rem binary64 x m
  rem_digits l =
      ap (λ (y : ℕ). round binary64 s y (2 ^ 1074)) (sym (mod_places p a q b l Q))
      ∙ sym (rem_at x m s t (p * 2 ^ a) (q * 2 ^ b) h.value g.value M-pos)

-- the lower place has the smaller number
pub lower_less : (p a q b : ℕ) → p < 2 ^ 53 → (0 < b → 2 ^ 52 ≤ q) → a < b → p * 2 ^ a < q * 2 ^ b
lower_less p a q b h g l = lt_of_lt_of_le (mul-lt-mul_of_pos_right h (pow_pos a)) (le_trans step (mul-le-mul_right (2 ^ b) (g (above a b l))))
  where
    above : (a b : ℕ) → a < b → 0 < b
    above a b l = omega arith

    places : (a b : ℕ) → a < b → 53 + a ≤ 52 + b
    places a b l = omega arith

    step : 2 ^ 53 * 2 ^ a ≤ 2 ^ 52 * 2 ^ b
    step = le_trans (le_of_eq (sym (pow-add 2 53 a))) (le_trans (pow_mono (places a b l)) (le_of_eq (pow-add 2 52 b)))
