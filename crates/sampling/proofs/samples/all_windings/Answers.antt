-- `sampling::samples::all_windings` meets its contract. The loop's invariant: where those of the roots that are left come to a slice, all come to it.
use native.Mathlib.Omega.{arith}
use borrow.Author.Rules.{rules}
use Rattle.sampling.proofs.Grown.{leads_next, leads_end}
use Rattle.sampling.proofs.Laws.Samples.{windings_left, windings_none}
use Rattle.sampling.proofs.samples.all_windings.Goals as goal

pub loop-root-preserved : goal.loop-root-preserved
loop-root-preserved c = let a = c.args in
    leads_next c.loop-root.invariant (windings_left a.interval.lower a.interval.upper a.roots.now c.loop-root.root-index (search rules)) c.windings.ensures

pub returns : goal.returns
returns c = let a = c.args in
    leads_end c.loop-root.invariant (windings_none a.interval.lower a.interval.upper a.roots.now c.loop-root.root-index (omega arith))
