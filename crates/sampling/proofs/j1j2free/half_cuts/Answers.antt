-- `sampling::j1j2free::half_cuts` meets its contract: at each return, what the calls and the tests on the way to it say.
use Rattle.std.proofs.Common.{rules}
use Rattle.sampling.proofs.Grown.{then, whole}
use Rattle.sampling.proofs.j1j2free.half_cuts.Goals as goal

pub returns : goal.returns
returns c =
    let g = then (then (then c.push.ensures c.push-2.ensures) c.critical.ensures) c.all_copies.ensures in
    simp (← c.chart_of-c.ensures) (whole g c.new-cuts.ensures.count c.new-cuts.ensures.same (search rules))
