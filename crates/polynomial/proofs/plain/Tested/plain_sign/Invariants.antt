use mathlib.Core.Path.{◌≡◌}
use Rattle.polynomial.specs.Promises.Plain.{plain, scale}
use Rattle.polynomial.proofs.Down.{Down}
use Rattle.polynomial.proofs.plain.Tested.plain_sign.Given as goal

abbrev pub invariant-loop-c : goal.invariant-loop-c
invariant-loop-c l = Down (λ seen. (l.sum ≡ plain seen l.x) × (l.scale ≡ scale seen l.x)) l.self.p.terms.now l.c-iterator.iter.rest.now
