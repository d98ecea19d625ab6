use Prim.Native.Nat.{◌≤◌}
use mathlib.Core.Path.{◌≡◌}
use lib.ListN.{length, drop}
use lib.Seq.{sets}
use Rattle.sheet.specs.Request.{blank_from}
use Rattle.sheet.proofs.request.put_head.Given as goal

abbrev pub invariant-loop-i : goal.invariant-loop-i
invariant-loop-i l =
    let r = l.view.request.now in
    (l.i ≤ 16) × (length l.out ≡ length l.initial.out)
    × (sets l.out l.i (blank_from l.s l.i (drop l.i r)) ≡ sets l.initial.out 0 (blank_from l.s 0 r))
