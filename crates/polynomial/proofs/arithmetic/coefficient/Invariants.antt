use Rattle.std.proofs.Common.{◌≡◌, ◌-◌}
use Rattle.polynomial.specs.Polynomial.{column, coefficient}
use Rattle.polynomial.proofs.arithmetic.coefficient.Given as goal

abbrev pub invariant-loop-i : goal.invariant-loop-i
invariant-loop-i l = column l.a l.b l.k l.i (l.i-end - l.i) l.sum ≡ coefficient l.a l.b l.k
