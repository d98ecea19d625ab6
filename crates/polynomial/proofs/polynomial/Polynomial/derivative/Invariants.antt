use Rattle.std.proofs.Common.{◌≡◌, ◌+◌, ◌++◌, length, drop}
use Rattle.polynomial.specs.Polynomial.{powered, derivative}
use Rattle.polynomial.proofs.polynomial.Polynomial.derivative.Given as goal

abbrev pub invariant-loop-i : goal.invariant-loop-i
invariant-loop-i l = record {
  long : length l.d.items + 1 ≡ l.i;
  whole : l.d.items ++ powered l.i (drop l.i l.self.terms.now) ≡ derivative l.self.terms.now;
}
