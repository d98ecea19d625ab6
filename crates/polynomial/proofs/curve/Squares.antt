-- The target of a squared norm: the denominator's square, and what is multiplied so far.
use Rattle.std.proofs.Common.{◌≡◌, ℕ, suc, ◌+◌, ◌≤◌, ◌<◌, List, [], ◌∷◌, ◌++◌, length, get_or, drop, sym, ap, ap₂, ◌∙◌, append_assoc, add-one}
use mathlib.Core.List.{append-nil}
use lib.Seq.{drop-cons}
use lib.ListN.{drop_of_length-le}
use lib.Ieee.{Float, of_bits, binary64}
use Rattle.float.specs.Laws.Literals.{one_bits}
use Rattle.float.specs.Laws.Zero.{zero_bits}
use Rattle.polynomial.specs.Laws.Nine.{length_add, length_multiply, length_target}
use Rattle.polynomial.specs.Laws.SmallNorm.{numerator_length}
use Rattle.polynomial.specs.Compensated.{from, times}
use Rattle.polynomial.specs.Polynomial.{multiply}
use Rattle.polynomial.specs.Curve.{times_each, target}
use Rattle.polynomial.specs.declared.compensated.Compensated.{Compensated}

pub target_start : (norm : Float) (n squared one zero : Compensated) (square r : List Compensated) → n ≡ from norm → squared ≡ times n n
    → one ≡ from (of_bits binary64 0x3ff0_0000_0000_0000) → zero ≡ from (of_bits binary64 0)
    → square ≡ multiply (one ∷ zero ∷ one ∷ []) (one ∷ zero ∷ one ∷ []) → r ≡ [] → r ++ times_each square squared ≡ target norm
unfolding target
target_start norm n squared one zero square r e0 e1 e2 e3 e4 e5 = simp (e5, e4, e1, e0, e2, e3, one_bits, zero_bits)

module _ (square r : List Compensated) (i : ℕ) (factor : Compensated) where
  pub times_more : (z v : Compensated) (s : List Compensated) → i < length square → s ≡ r ++ v ∷ [] → v ≡ times (get_or square i z) factor
      → s ++ times_each (drop (i + 1) square) factor ≡ r ++ times_each (drop i square) factor
  unfolding times_each
  times_more z v s I e f =
      let rest = times_each (drop (suc i) square) factor in
      ap₂ (λ t (j : ℕ). t ++ times_each (drop j square) factor) e (add-one i)
      ∙ append_assoc r (v ∷ []) rest
      ∙ ap (λ c. r ++ c ∷ rest) f
      ∙ sym (ap (λ t. r ++ times_each t factor) (drop-cons square i z I))

  pub times_end : length square ≤ i → r ≡ r ++ times_each (drop i square) factor
  unfolding times_each
  times_end h = sym (append-nil r) ∙ ap (λ t. r ++ times_each t factor) (sym (drop_of_length-le square h))

-- how many coefficients each has
pub ruleset lengths = (length_add, length_multiply, length_target, numerator_length)
