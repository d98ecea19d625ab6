-- `sampling::critical_slices::critical` meets its contract. The invariant: what the first j curves give is in the cuts, and their polynomials are kept.
use Rattle.std.proofs.Common.{arith, ap, ◌∙◌, length}
use Rattle.sampling.specs.Promises.Charts.{plain}
use Rattle.sampling.proofs.Laws.CriticalSlices.{critical_nil}
use Rattle.sampling.proofs.Grown.{none}
use Rattle.sampling.proofs.CriticalSlices.{known_none, known_more, critical_grown}
use Rattle.sampling.proofs.critical_slices.critical.Goals as goal

pub loop-curve-init : goal.loop-curve-init
loop-curve-init c = record {
  long = ap length c.new-known.ensures;
  kept = known_none _ c.new-known.ensures;
  grown = rw (critical_nil (plain c.args.c)) none;
}

pub loop-curve-preserved : goal.loop-curve-preserved
loop-curve-preserved c =
    let a = c.args in
    let j = c.loop-curve.curve-index in
    let i = c.loop-curve.invariant in
    record {
      long = omega arith;
      kept = known_more a.c.origin c.loop-curve.known.items _ a.curves.now j c.polynomials-k.result _ c.loop-curve-test.true c.polynomials-k.ensures
          c.push.ensures.items i.kept;
      grown = critical_grown (plain a.c) a.curves.now c.loop-curve.known.items j _ c.loop-curve-test.true i.kept c.polynomials-k.result
          c.polynomials-k.ensures _ (c.as_slice.ensures.value ∙ c.tangency-own.ensures) i.grown c.chart_roots.ensures
          (rw (← c.as_slice-in-loop-curve.ensures.value) c.meetings.ensures);
    }
