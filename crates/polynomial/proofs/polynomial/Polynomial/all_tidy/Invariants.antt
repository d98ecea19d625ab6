use lib.ListN.{drop}
use Rattle.polynomial.specs.Promises.Plain.{AllTidy}
use Rattle.polynomial.proofs.polynomial.Polynomial.all_tidy.Given as goal

abbrev pub invariant-loop-c : goal.invariant-loop-c
invariant-loop-c l = AllTidy (drop l.c-index l.self.terms.now) → AllTidy l.self.terms.now
