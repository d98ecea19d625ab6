-- The columns that are left, before those that stand, are those that are asked.
use Rattle.std.proofs.Common.{◌≡◌, ◌++◌, length, drop}
use Rattle.digits.specs.Promises.Columns as Columns
use Rattle.digits.proofs.decimal.put_before.Given as goal

abbrev pub invariant-loop-i : goal.invariant-loop-i
invariant-loop-i l = Columns.before l.i l.minus l.left ++ drop l.i l.out ≡ Columns.before (length l.fn.out) l.neg l.n
