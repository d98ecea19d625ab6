-- There are no more samples than bytes passed.
use Rattle.std.proofs.Common.{◌≤◌, ◌+◌, length}
use Rattle.vectors.proofs.counted.Given as goal

abbrev pub invariant-loop-m : goal.invariant-loop-m
invariant-loop-m l = record {
  samples : l.samples + length l.rest ≤ length l.s;
  differing : l.differing ≤ l.samples;
}

abbrev pub decreases-loop-m : goal.decreases-loop-m
decreases-loop-m l = length l.rest
