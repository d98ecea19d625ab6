-- `sampling::critical_slices::meetings` meets its contract. The invariant: what the first i give is in the cuts.
use Rattle.std.proofs.Common.{◌∙◌}
use mathlib.Core.List.{flat_map}
use Rattle.sampling.specs.Promises.Charts.{plain}
use Rattle.sampling.proofs.Grown.{none}
use Rattle.sampling.proofs.CriticalSlices.{met_grown}
use Rattle.sampling.proofs.critical_slices.meetings.Goals as goal

pub loop-e-init : goal.loop-e-init
unfolding flat_map
loop-e-init c = none

pub loop-e-preserved : goal.loop-e-preserved
loop-e-preserved c =
    let a = c.args in
    met_grown (plain a.c) a.earlier.now c.loop-e.e-index _ a.k c.loop-e-test.true _ (c.as_slice.ensures.value ∙ c.intersection-both.ensures) c.loop-e.invariant
    c.chart_roots.ensures
