use lib.ListN.{drop}
use Rattle.sampling.proofs.Grown.{Leads}
use Rattle.sampling.specs.Samples.{all_windings}
use Rattle.sampling.proofs.samples.all_windings.Given as goal

abbrev pub invariant-loop-root : goal.invariant-loop-root
invariant-loop-root l =
    let i = l.interval in
    Leads (all_windings i.lower i.upper l.roots) (all_windings i.lower i.upper (drop l.root-index l.roots)) l.initial.cuts l.cuts
