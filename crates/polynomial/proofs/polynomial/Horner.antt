-- The value and the magnitudes of coefficients, with one more of them.
use Rattle.std.proofs.Common.{◌≡◌, List, ◌∷◌, ap, ◌∙◌}
use lib.Ieee.{Float}
use Rattle.float.specs.Laws.Zero.{zero_bits}
use Rattle.polynomial.specs.Compensated.{from, plus, times}
use Rattle.polynomial.specs.Polynomial.{horner}
use Rattle.polynomial.specs.declared.compensated.Compensated.{Compensated}

pub horner_on : (x : Float) (c : Compensated) (cs : List Compensated) (sum product r : Compensated) → sum ≡ horner cs x → product ≡ times sum (from x)
    → r ≡ plus product c → r ≡ horner (c ∷ cs) x
unfolding horner
horner_on x c cs sum product r e1 e2 e3 = e3 ∙ ap (λ p. plus p c) (e2 ∙ ap (λ s. times s (from x)) e1)

-- the same by an operand w that is x
pub horner_by : (x w : Float) (c : Compensated) (cs : List Compensated) (sum product r : Compensated) → w ≡ x → sum ≡ horner cs x
    → product ≡ times sum (from w) → r ≡ plus product c → r ≡ horner (c ∷ cs) x
horner_by x w c cs sum product r e1 e2 e3 e4 = horner_on x c cs sum product r e2 (e3 ∙ ap (λ v. times sum (from v)) e1) e4

-- what a loop over the coefficients begins with, and each step of it
pub ruleset horner_steps = (zero_bits, horner_on, horner_by)
