-- The numerator of a harmonic, from what the code works out in turn.
use mathlib.Core.Path.{◌≡◌}
use mathlib.Core.List.{[], ◌∷◌}
use lib.Ieee.{Float, binary64, neg, of_bits}
use Rattle.float.specs.Number.{◌⊕◌, ◌⊗◌}
use Rattle.float.specs.Trig.{sin_cos}
use Rattle.float.specs.declared.trig.SinCos.{SinCos}
use Rattle.polynomial.specs.Compensated.{from, plus}
use Rattle.polynomial.specs.Curve.{numerator}
use Rattle.float.specs.Laws.Literals.{two_bits}
use Rattle.polynomial.specs.declared.compensated.Compensated.{Compensated}
use Rattle.polynomial.specs.declared.curve.Harmonic.{Harmonic}

module _ (h : Harmonic) (origin : Float) (both : SinCos) (first cosine start sine opposite end : Compensated) where
  pub numerator_of : both ≡ sin_cos origin
      → first ≡ from h.constant
      → cosine ≡ from (h.cosine ⊗ both.cosine ⊕ h.sine ⊗ both.sine)
      → start ≡ plus first cosine
      → sine ≡ from (of_bits binary64 0x4000_0000_0000_0000 ⊗ (neg h.cosine ⊗ both.sine ⊕ h.sine ⊗ both.cosine))
      → opposite ≡ from (neg (h.cosine ⊗ both.cosine ⊕ h.sine ⊗ both.sine))
      → end ≡ plus first opposite
      → start ∷ sine ∷ end ∷ [] ≡ numerator h origin
  unfolding numerator
  numerator_of e0 e1 e2 e3 e4 e5 e6 = simp (e3, e6, e1, e2, e4, e5, e0, two_bits)
