-- `sampling::samples::all_copies` meets its contract. The loop's invariant: where those of the angles that are left come to a slice, all come to it.
use native.Mathlib.Omega.{arith}
use borrow.Author.Rules.{rules}
use Rattle.sampling.proofs.Grown.{leads_next, leads_end}
use Rattle.sampling.proofs.Laws.Samples.{copies_left, copies_none}
use Rattle.sampling.proofs.samples.all_copies.Goals as goal

pub loop-angle-preserved : goal.loop-angle-preserved
loop-angle-preserved c = let a = c.args in
    leads_next c.loop-angle.invariant (copies_left a.interval.lower a.interval.upper a.angles.now c.loop-angle.angle-index (search rules)) c.copies.ensures

pub returns : goal.returns
returns c = let a = c.args in
    leads_end c.loop-angle.invariant (copies_none a.interval.lower a.interval.upper a.angles.now c.loop-angle.angle-index (omega arith))
