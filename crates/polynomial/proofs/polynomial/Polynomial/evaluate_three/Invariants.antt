use mathlib.Core.Path.{◌≡◌}
use Rattle.polynomial.specs.Polynomial.{horner}
use Rattle.polynomial.proofs.Down.{Down}
use Rattle.polynomial.proofs.polynomial.Polynomial.evaluate_three.Given as goal

abbrev pub invariant-loop-c : goal.invariant-loop-c
invariant-loop-c l = Down (λ seen. (l.a ≡ horner seen l.x) × (l.b ≡ horner seen l.y) × (l.d ≡ horner seen l.z)) l.self.terms.now l.c-iterator.iter.rest.now
