use mathlib.Core.List.{flat_map, map}
use lib.ListN.{take}
use Rattle.sampling.specs.Promises.Grown.{Grown}
use Rattle.sampling.specs.Promises.Numerators.{polynomials_of, meetings}
use Rattle.sampling.specs.Promises.Charts.{plain}
use Rattle.sampling.specs.CriticalSlices as Of
use Rattle.sampling.proofs.critical_slices.meetings.Given as goal

abbrev pub invariant-loop-e : goal.invariant-loop-e
invariant-loop-e l =
    Grown (flat_map (Of.chart_roots (plain l.c)) (meetings (map polynomials_of (take l.e-index l.earlier)) (polynomials_of l.k)))
    l.initial.cuts l.cuts
