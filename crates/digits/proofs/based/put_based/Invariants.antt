-- The digits that are left, before those that stand, are those that are asked.
use Rattle.std.proofs.Common.{◌≡◌, ◌++◌, length, drop}
use Rattle.digits.specs.Promises.Based as Based
use Rattle.digits.proofs.based.put_based.Given as goal

abbrev pub invariant-loop-i : goal.invariant-loop-i
invariant-loop-i g l = Based.digits g.row.BASE l.i l.left ++ drop l.i l.out ≡ Based.digits g.row.BASE (length l.fn.out) l.n
