-- A sum of polynomials: what is stored, and the sum of the coefficients that are left.
use Rattle.std.proofs.Common.{◌≡◌, List, [], ◌∷◌, ◌++◌, length, sym, ap, ap₂, ◌∙◌, append_assoc}
use mathlib.Core.List.{append-nil}
use lib.Ieee.{Float}
use Rattle.polynomial.specs.Compensated.{from, plus, times}
use Rattle.polynomial.specs.Polynomial.{zero_pair, add}
use Rattle.polynomial.specs.declared.compensated.Compensated.{Compensated}

module _ (scale : Float) (all a b d : List Compensated) (whole : d ++ add a b scale ≡ all) where
  pub add_on : (x y factor start first product v : Compensated) (xs ys e : List Compensated) → a ≡ x ∷ xs → b ≡ y ∷ ys
      → factor ≡ from scale → start ≡ zero_pair → first ≡ plus start x → product ≡ times y factor → v ≡ plus first product → e ≡ d ++ v ∷ []
      → e ++ add xs ys scale ≡ all
  unfolding add
  add_on x y factor start first product v xs ys e ea eb ef es e1 e2 e3 stored =
      let sum : v ≡ plus (plus zero_pair x) (times y (from scale)) =
      e3 ∙ ap₂ plus (e1 ∙ ap (λ s. plus s x) es) (e2 ∙ ap (times y) ef) in
      ap (λ t. t ++ add xs ys scale) stored ∙ append_assoc d (v ∷ []) (add xs ys scale)
      ∙ ap (λ c. d ++ c ∷ add xs ys scale) sum
      ∙ sym (ap₂ (λ s t. d ++ add s t scale) ea eb)
      ∙ whole

  pub add_end : length a ≡ 0 → length b ≡ 0 → d ≡ all
  unfolding add
  add_end x y = go a b x y whole
    where
      go : (a b : List Compensated) → length a ≡ 0 → length b ≡ 0 → d ++ add a b scale ≡ all → d ≡ all
      go [] [] x y w = sym (append-nil d) ∙ w
      go [] (c ∷ b) x y w = absurd (cc)
      go (c ∷ a) b x y w = absurd (cc)
