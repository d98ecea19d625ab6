use Prim.Native.Nat.{◌≤◌}
use mathlib.Core.Path.{◌≡◌}
use lib.ListN.{length, drop}
use Rattle.sheet.specs.Bytes.{same_bytes}
use Rattle.sheet.specs.Request.{blank_from}
use Rattle.sheet.proofs.request.unread_zero.Given as goal

abbrev pub invariant-loop-i : goal.invariant-loop-i
invariant-loop-i l =
    (l.i ≤ length l.view.request.now)
    × (same_bytes (blank_from l.s l.i (drop l.i l.view.request.now)) (drop l.i l.view.request.now)
    ≡ same_bytes (blank_from l.s 0 l.view.request.now) l.view.request.now)
