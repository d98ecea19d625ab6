use Rattle.std.proofs.Common.{◌-◌, ◌*◌, ◌^◌, ◌<◌, ◌≤◌}
use Rattle.float.proofs.sqrt.Operand.seek.Given as goal

abbrev pub invariant-loop-q : goal.invariant-loop-q
invariant-loop-q l = (1 ≤ l.q) × (l.q ≤ 2 ^ 53)

abbrev pub decreases-loop-q : goal.decreases-loop-q
decreases-loop-q l = l.q

abbrev pub invariant-loop-self : goal.invariant-loop-self
invariant-loop-self l = (1 ≤ l.q) × (l.q ≤ 2 ^ 53) × (l.q * (l.q - 1) < l.self.m * 2 ^ 52)

abbrev pub decreases-loop-self : goal.decreases-loop-self
decreases-loop-self l = 2 ^ 53 - l.q
