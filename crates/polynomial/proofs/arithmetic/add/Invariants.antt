use Rattle.std.proofs.Common.{◌≡◌, ◌++◌, ◌+◌, ◌≤◌, length}
use Rattle.polynomial.specs.Polynomial.{add}
use Rattle.polynomial.proofs.arithmetic.add.Given as goal

abbrev pub invariant-loop-x : goal.invariant-loop-x
invariant-loop-x l = record {
  room : length l.r.items + length l.x-iterator.a.rest.now ≤ 9;
  same : length l.x-iterator.b.rest.now ≡ length l.x-iterator.a.rest.now;
  whole : l.r.items ++ add l.x-iterator.a.rest.now l.x-iterator.b.rest.now l.scale ≡ add l.a l.b l.scale;
}
