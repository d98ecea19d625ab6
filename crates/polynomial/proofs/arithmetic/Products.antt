-- A product of polynomials: a coefficient with one more place, and one more coefficient.
use Rattle.std.proofs.Common.{◌≡◌, ℕ, suc, ◌+◌, ◌-◌, ◌≤◌, ◌<◌, List, [], ◌∷◌, ◌++◌, length, get_or, refl, sym, ap, ap₂, ◌∙◌, append_assoc, add-one, arith}
use mathlib.Core.List.{append-nil}
use Rattle.polynomial.specs.Compensated.{plus, times}
use Rattle.polynomial.specs.Polynomial.{zero_pair, column, coefficient, coefficients, multiply}
use Rattle.polynomial.specs.Laws.Lists.{get_d_any}
use Rattle.polynomial.specs.declared.compensated.Compensated.{Compensated}

-- ---- one coefficient
next_place : (a b : List Compensated) (k i count : ℕ) (sum : Compensated)
    → column a b k i (suc count) sum ≡ column a b k (suc i) count (plus sum (times (get_or a i zero_pair) (get_or b (k - i) zero_pair)))
unfolding column
next_place a b k i count sum = refl

module _ (a b : List Compensated) (k i end : ℕ) (sum : Compensated) where
  pub column_more : (y z product next : Compensated) → i < end → i < length a → k - i < length b
      → product ≡ times (get_or a i y) (get_or b (k - i) z) → next ≡ plus sum product
      → column a b k (i + 1) (end - (i + 1)) next ≡ column a b k i (end - i) sum
  column_more y z product next I N M e1 e2 =
      let e : end - i ≡ suc (end - (i + 1)) = omega arith in
      let more = e2 ∙ ap (plus sum) (e1 ∙ ap₂ times (get_d_any a i y zero_pair N) (get_d_any b (k - i) z zero_pair M)) in
      ap₂ (λ (j : ℕ) (c : Compensated). column a b k j (end - (i + 1)) c) (add-one i) more
      ∙ sym (ap (λ (count : ℕ). column a b k i count sum) e ∙ next_place a b k i (end - (i + 1)) sum)

  pub column_end : end ≤ i → sum ≡ column a b k i (end - i) sum
  unfolding column
  column_end g = let e : 0 ≡ end - i = omega arith in ap (λ (count : ℕ). column a b k i count sum) e

-- ---- all of them
next_coefficient : (a b : List Compensated) (k count : ℕ) → coefficients a b k (suc count) ≡ coefficient a b k ∷ coefficients a b (suc k) count
unfolding coefficients
next_coefficient a b k count = refl

pub product_start : (a b r : List Compensated) → r ≡ [] → r ++ coefficients a b 0 (length a + length b - 1 - 0) ≡ multiply a b
unfolding multiply
product_start a b r e =
    let n : length a + length b - 1 - 0 ≡ length a + length b - 1 = omega arith in
    ap₂ (λ t (count : ℕ). t ++ coefficients a b 0 count) e n

module _ (a b r : List Compensated) (k count : ℕ) where
  pub product_more : (v : Compensated) (s : List Compensated) → k < count → s ≡ r ++ v ∷ [] → v ≡ coefficient a b k
      → s ++ coefficients a b (k + 1) (count - (k + 1)) ≡ r ++ coefficients a b k (count - k)
  product_more v s K e f =
      let rest = coefficients a b (suc k) (count - (k + 1)) in
      let n : count - k ≡ suc (count - (k + 1)) = omega arith in
      ap₂ (λ t (j : ℕ). t ++ coefficients a b j (count - (k + 1))) e (add-one k)
      ∙ append_assoc r (v ∷ []) rest
      ∙ ap (λ c. r ++ c ∷ rest) f
      ∙ sym (ap (λ (j : ℕ). r ++ coefficients a b k j) n ∙ ap (λ t. r ++ t) (next_coefficient a b k (count - (k + 1))))

  pub product_end : count ≤ k → r ≡ r ++ coefficients a b k (count - k)
  unfolding coefficients
  product_end g = let e : 0 ≡ count - k = omega arith in sym (append-nil r) ∙ ap (λ (j : ℕ). r ++ coefficients a b k j) e

pub ruleset product_steps = (product_start, product_more, product_end)
