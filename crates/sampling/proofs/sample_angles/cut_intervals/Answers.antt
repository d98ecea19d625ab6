-- `sampling::sample_angles::cut_intervals` meets its contract: one list after the other, by `Laid`.
use mathlib.Core.List.{List}
use lib.Ieee.{Float}
use Rattle.sampling.specs.Samples.{interval_cuts}
use Rattle.sampling.proofs.Laid.{laid_first, laid_next, all_three, laid_three}
use Rattle.sampling.proofs.sample_angles.cut_intervals.Goals as goal
use Rattle.sampling.specs.Intervals.{Range}

pub returns : goal.returns
unfolding interval_cuts
returns c =
    let a = c.args in
    let of : Range → List Float = interval_cuts a.near a.roots.now in
    let one = laid_first _ _ _ _ c.interval_cuts.ensures _ c.in_ok-first.was in
    let two = laid_next _ _ _ _ one _ _ _ c.interval_cuts-2.ensures _ c.in_ok-second.was in
    let three = laid_next _ _ _ _ two _ _ _ c.interval_cuts-3.ensures _ c.in_ok-third.was in
    let j = (c.interval_cuts-2.ensures.held _ c.in_ok-second.was).count in
    let k = (c.interval_cuts-3.ensures.held _ c.in_ok-third.was).count in (
      all_three (of a.three.first) (of a.three.second) (of a.three.third) _ _ _ _ one.count j k three.within,
      laid_three (of a.three.first) (of a.three.second) (of a.three.third) _ _ _ three,
    )
