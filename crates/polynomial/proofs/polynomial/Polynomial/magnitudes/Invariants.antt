use mathlib.Core.Path.{◌≡◌}
use Rattle.polynomial.specs.Polynomial.{magnitudes}
use Rattle.polynomial.proofs.Down.{Down}
use Rattle.polynomial.proofs.polynomial.Polynomial.magnitudes.Given as goal

abbrev pub invariant-loop-c : goal.invariant-loop-c
invariant-loop-c l = Down (λ seen. l.sum ≡ magnitudes seen l.x) l.self.terms.now l.c-iterator.iter.rest.now
