use Rattle.std.proofs.Common.{◌≡◌, length}
use lib.ListN.{take}
use Rattle.sampling.specs.Promises.Grown.{Grown}
use Rattle.sampling.specs.Promises.Charts.{plain}
use Rattle.sampling.specs.CriticalSlices as Of
use Rattle.sampling.proofs.CriticalSlices.{Known}
use Rattle.sampling.proofs.critical_slices.critical.Given as goal

abbrev pub invariant-loop-curve : goal.invariant-loop-curve
invariant-loop-curve l = record {
  long : length l.known.items ≡ l.curve-index;
  kept : Known l.c.origin l.known.items (take l.curve-index l.curves);
  grown : Grown (Of.critical (plain l.c) (take l.curve-index l.curves)) l.initial.cuts l.cuts;
}
