use Rattle.float_bench.proofs.Places.{one_more}
use Rattle.float_bench.proofs.each.each.Goals as goal

pub loop-h-preserved : goal.loop-h-preserved
loop-h-preserved g c =
    let i = c.loop-h.invariant in
    one_more _ _ c.step.result c.loop-h.h-index c.args.hs.now c.loop-h.hs c.loop-h-test.true i.0 i.1 c.step.ensures
