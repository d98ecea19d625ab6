use lib.ListN.{drop}
use Rattle.sampling.proofs.Grown.{Leads}
use Rattle.sampling.specs.Samples.{all_copies}
use Rattle.sampling.proofs.samples.all_copies.Given as goal

abbrev pub invariant-loop-angle : goal.invariant-loop-angle
invariant-loop-angle l =
    let i = l.interval in
    Leads (all_copies i.lower i.upper l.angles) (all_copies i.lower i.upper (drop l.angle-index l.angles)) l.initial.cuts l.cuts
