-- What step gives is f's, so h is what f gives of the start as often as there were turns.
use Rattle.std.proofs.Common.{◌≡◌, Float}
use Rattle.float_bench.specs.Steps.{iterate}
use Rattle.float_bench.proofs.chain.repeated.Given as goal

abbrev pub invariant-loop : goal.invariant-loop
invariant-loop g l = (f : Float → Float) → ((h next : Float) → goal.F-post g l.step h next → next ≡ f h) → l.h ≡ iterate f l.counter l.start
