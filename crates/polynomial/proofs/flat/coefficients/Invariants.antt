use Rattle.std.proofs.Common.{◌≡◌, ◌++◌, ◌+◌, ◌≤◌, length}
use Rattle.polynomial.specs.Operation.{pairs}
use Rattle.polynomial.proofs.flat.coefficients.Given as goal

abbrev pub invariant-loop-left : goal.invariant-loop-left
invariant-loop-left l = record {
  room : length l.p.items + length l.p.items + length l.left ≤ 18;
  whole : pairs l.s ≡ l.p.items ++ pairs l.left;
}

abbrev pub decreases-loop-left : goal.decreases-loop-left
decreases-loop-left l = length l.left
