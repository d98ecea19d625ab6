use Rattle.std.proofs.Common.{◌≡◌, ◌++◌, take, drop}
use Rattle.polynomial.proofs.kinds.Marks.{all}
use Rattle.polynomial.proofs.kinds.mark.Given as goal

abbrev pub invariant-loop-i : goal.invariant-loop-i
invariant-loop-i l = l.kinds ≡ take l.i (all l.near l.roots) ++ drop l.i l.initial.kinds
