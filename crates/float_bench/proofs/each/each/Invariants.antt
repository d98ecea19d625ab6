use Rattle.std.proofs.Common.{◌≡◌, take, drop}
use Rattle.std.specs.List.{AllZip}
use Rattle.float_bench.proofs.each.each.Given as goal

abbrev pub invariant-loop-h : goal.invariant-loop-h
invariant-loop-h g l =
    AllZip (λ h next. goal.F-post g l.step h next) (take l.h-index l.initial.hs) (take l.h-index l.hs)
    × (drop l.h-index l.hs ≡ drop l.h-index l.initial.hs)
