-- `sampling::sample_angles::cut` meets its contract: at each return, what its definitions say of it.
use borrow.Author.Rules.{rules}
use lib.Ieee.{of_bits}
use Rattle.sampling.specs.SampleAngles.{cut_count, first_cuts, second_cuts, third_cuts, intervals}
use Rattle.sampling.specs.Promises.Plan.{free_plan, free_cuts}
use Rattle.sampling.proofs.Laid.{all_three}
use Rattle.sampling.proofs.sample_angles.cut.Goals as goal

pub returns-then-is_finite : goal.returns-then-is_finite
unfolding cut_count first_cuts second_cuts third_cuts free_plan free_cuts intervals of_bits
returns-then-is_finite c = record {
  value = simp (
    ← c.is_finite.ensures,
    c.if-is_finite.true,
    ← c.all_roots-roots.ensures,
    ← c.deref.ensures.0,
    ← c.wrist_limit_intervals-three.ensures,
  ) c.cut_intervals.ensures.0;
  work_after = simp (
    ← c.is_finite.ensures,
    c.if-is_finite.true,
    ← c.all_roots-roots.ensures,
    ← c.deref.ensures.0,
    ← c.wrist_limit_intervals-three.ensures,
  ) c.cut_intervals.ensures.1;
}

pub returns : goal.returns
unfolding cut_count first_cuts second_cuts third_cuts free_plan free_cuts
returns c = search (all_three, rules)
