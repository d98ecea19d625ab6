-- A finite binary64's sign, digits and place, read from its bit pattern.
use Rattle.std.proofs.Common.{◌≡◌, ℕ, zero, suc, ◌+◌, ◌*◌, ◌/◌, ◌%◌, ◌^◌, ◌<◌, ◌≤◌, Bool, true, false, cond, T, eqb, leb, sym, refl, ap, ◌∙◌, subst}
use Rattle.std.proofs.Common.{lt_irrefl, mod-lt, add_comm, le-add_left, arith, pow_pos}
use lib.Dec.{eqb_refl}
use lib.Pow.{field}
use lib.Ieee.{Float, nan, inf, binary64, odd, fits, of_fields, of_bits, to_bits}
use lib.Ieee.Exact.{HasValue, odd_sign}
use lib.Ieee.Bits.{of_bits-to_bits}
use lib.Ieee.Scale.{finite}
use Rattle.float.specs.Promises.Parts.{Splits}

-- the pattern b of x, read as its fields
as_fields : (x : Float) (b : ℕ) → T (fits binary64 x) → b ≡ to_bits binary64 x → of_fields binary64 (leb (2 ^ 63) b) (b / 2 ^ 52 % 2 ^ 11) (b % 2 ^ 52) ≡ x
unfolding of_bits
as_fields x b h e =
    ap (λ (y : ℕ). of_fields binary64 (leb (2 ^ 63) b) y (b % 2 ^ 52)) (sym (field b 11 52))
    ∙ ap (λ (y : ℕ). of_bits binary64 y) e
    ∙ of_bits-to_bits binary64 x h

no_infinity : (s : Bool) (t : ℕ) → T (finite (cond (eqb t 0) (inf s) nan)) → ⊥
no_infinity s t = go (eqb t 0)
  where
    go : (b : Bool) → T (finite (cond b (inf s) nan)) → ⊥
    go true h = h
    go false h = h

read_low : (s : Bool) (y t : ℕ) (x : Float) → of_fields binary64 s y t ≡ x → y ≡ 0 → t < 2 ^ 52 → Splits x s t 0
unfolding of_fields
read_low s zero t x e z U = record {
  value = subst (λ (v : Float). HasValue v s (t * 2 ^ 0) (2 ^ 1074)) e (odd_sign 53 s t 0 1074);
  short = omega arith;
  place = omega arith;
  full = λ h. absurd (lt_irrefl 0 h);
}
read_low s (suc y) t x e z U = absurd (no y z)
  where
    no : (y : ℕ) → suc y ≡ 0 → ⊥
    no y z = omega arith

read_high : (s : Bool) (y t : ℕ) (x : Float) → of_fields binary64 s y t ≡ x → T (finite x) → y < 2 ^ 11 → (j : ℕ) → y ≡ suc j → t < 2 ^ 52
    → Splits x s (t + 2 ^ 52) j
unfolding of_fields
read_high s zero t x e fine Y j z U = absurd (no j z)
  where
    no : (j : ℕ) → 0 ≡ suc j → ⊥
    no j z = omega arith
read_high s (suc y) t x e fine Y j z U = go (eqb (suc y) 2047) refl e (λ (h : suc y ≡ 2047). subst (λ (v : ℕ). T (eqb (suc y) v)) h (eqb_refl (suc y)))
  where
    same : suc y ≡ suc j → y ≡ j
    same z = omega arith

    few : y < 2047 → (suc y ≡ 2047 → ⊥) → y ≡ j → j ≤ 2045
    few a b e = omega arith

    go : (b : Bool) → eqb (suc y) 2047 ≡ b → cond b (cond (eqb t 0) (inf s) nan) (odd 53 s (2 ^ 52 + t) y 1074) ≡ x → (suc y ≡ 2047 → T b)
        → Splits x s (t + 2 ^ 52) j
    go true p e h = absurd (no_infinity s t (subst (λ (v : Float). T (finite v)) (sym e) fine))
    go false p e h = record {
      value = subst (λ (k : ℕ). HasValue x s ((t + 2 ^ 52) * 2 ^ k) (2 ^ 1074)) (same z)
          (subst (λ (q : ℕ). HasValue x s (q * 2 ^ y) (2 ^ 1074)) (add_comm (2 ^ 52) t)
          (subst (λ (v : Float). HasValue v s ((2 ^ 52 + t) * 2 ^ y) (2 ^ 1074)) e (odd_sign 53 s (2 ^ 52 + t) y 1074)));
      short = omega arith;
      place = few (omega arith) h (same z);
      full = λ _. le-add_left (2 ^ 52) t;
    }

module _ (x : Float) (b : ℕ) (held : T (fits binary64 x)) (fine : T (finite x)) (is : b ≡ to_bits binary64 x) where
  digits_in : b % 2 ^ 52 < 2 ^ 52
  digits_in = mod-lt b (pow_pos 52)

  pub split_low : b / 2 ^ 52 % 2 ^ 11 ≡ 0 → Splits x (leb (2 ^ 63) b) (b % 2 ^ 52) 0
  split_low z = read_low (leb (2 ^ 63) b) (b / 2 ^ 52 % 2 ^ 11) (b % 2 ^ 52) x (as_fields x b held is) z digits_in

  pub split_high : (j : ℕ) → b / 2 ^ 52 % 2 ^ 11 ≡ suc j → Splits x (leb (2 ^ 63) b) (b % 2 ^ 52 + 2 ^ 52) j
  split_high j z = read_high (leb (2 ^ 63) b) (b / 2 ^ 52 % 2 ^ 11) (b % 2 ^ 52) x (as_fields x b held is) fine (mod-lt (b / 2 ^ 52) (pow_pos 11)) j z digits_in
