use mathlib.Core.Path.{◌≡◌}
use lib.Ieee.{binary64}
use Rattle.float.specs.Promises.Order.{width, Span}
use Rattle.polynomial.specs.Polynomial.{evaluate}
use Rattle.polynomial.specs.Roots.{bisected}
use Rattle.polynomial.proofs.plain.Tested.roughly.Given as goal

abbrev pub invariant-loop-sign : goal.invariant-loop-sign
invariant-loop-sign l = record {
  span : Span 2 l.lo l.hi;
  same : bisected (evaluate l.self.p.terms.now) l.positive l.lo l.hi ≡ bisected (evaluate l.self.p.terms.now) l.positive l.from l.to;
}

abbrev pub decreases-loop-sign : goal.decreases-loop-sign
decreases-loop-sign l = width binary64 l.lo l.hi
