-- The number of the digits so far.
use Rattle.std.proofs.Common.{◌≡◌}
use Rattle.digits.specs.Hex as Hex
use Rattle.digits.proofs.hex.value.Given as goal

abbrev pub invariant-loop-b : goal.invariant-loop-b
invariant-loop-b l = l.number ≡ Hex.value l.digits 0 l.b-index
