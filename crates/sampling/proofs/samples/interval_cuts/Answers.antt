-- `sampling::samples::interval_cuts` meets its contract: at each return, what the calls and the tests on the way to it say.
use Rattle.std.proofs.Common.{rules}
use Rattle.polynomial.specs.Laws.Held.{kept_none}
use Rattle.sampling.proofs.Grown.{then, whole}
use Rattle.sampling.specs.Samples.{interval_values}
use Rattle.sampling.proofs.samples.interval_cuts.Goals as goal

pub returns-in_default : goal.returns-in_default
unfolding interval_values
returns-in_default c = simp c.in_default.is (kept_none _)

pub returns : goal.returns
unfolding interval_values
returns c =
    let g = then (then c.push.ensures c.push-2.ensures) c.all_windings.ensures in
    simp c.in-Some.is (whole g c.new-cuts.ensures.count c.new-cuts.ensures.same (search rules))
