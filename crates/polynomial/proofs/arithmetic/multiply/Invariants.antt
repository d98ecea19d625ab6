use Rattle.std.proofs.Common.{◌≡◌, ◌++◌, ◌-◌, length}
use Rattle.polynomial.specs.Polynomial.{coefficients, multiply}
use Rattle.polynomial.proofs.arithmetic.multiply.Given as goal

abbrev pub invariant-loop-k : goal.invariant-loop-k
invariant-loop-k l = record {
  long : length l.r.items ≡ l.k;
  whole : l.r.items ++ coefficients l.a l.b l.k (l.k-end - l.k) ≡ multiply l.a l.b;
}
