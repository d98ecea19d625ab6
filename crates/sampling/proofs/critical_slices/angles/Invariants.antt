use lib.ListN.{drop}
use Rattle.sampling.specs.CriticalSlices as Of
use Rattle.sampling.proofs.Grown.{Leads}
use Rattle.sampling.proofs.critical_slices.angles.Given as goal

abbrev pub invariant-loop-u : goal.invariant-loop-u
invariant-loop-u l =
    Leads (Of.angles l.origin l.roots) (Of.angles l.origin (drop l.u-index l.roots)) l.initial.cuts l.cuts
