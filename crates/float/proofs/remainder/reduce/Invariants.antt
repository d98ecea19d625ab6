use Rattle.std.proofs.Common.{◌≡◌, ◌*◌, ◌%◌, ◌^◌, ◌<◌}
use Rattle.float.proofs.remainder.reduce.Given as goal

abbrev pub invariant-loop-left : goal.invariant-loop-left
invariant-loop-left l = (l.r < l.q) × (l.r * 2 ^ l.left % l.q ≡ l.p * 2 ^ l.d % l.q)

abbrev pub decreases-loop-left : goal.decreases-loop-left
decreases-loop-left l = l.left
