use Prim.Native.Nat.{suc}
use mathlib.Core.Path.{◌≡◌}
use Rattle.sampling.specs.Promises.Stream as Of
use Rattle.sampling.proofs.stream.next.Given as goal

abbrev pub invariant-loop-y : goal.invariant-loop-y
invariant-loop-y l =
    Of.next_of (suc (Of.left l.a l.b l.at)) l.a l.b l.r l.last l.at ≡ Of.next_of (suc (Of.left l.a l.b l.initial.at)) l.a l.b l.r l.last l.initial.at

abbrev pub decreases-loop-y : goal.decreases-loop-y
decreases-loop-y l = Of.left l.a l.b l.at
