use Rattle.std.proofs.Common.{◌≡◌, ℕ, ◌<◌, get_or}
use Rattle.sampling.specs.Promises.Stream.{start}
use Rattle.sampling.specs.Promises.Plan.{to_come}
use Rattle.sheet.specs.Bytes.{same_bytes}
use Rattle.sheet.specs.Promises.Floats.{floats_bytes}
use Rattle.sheet.proofs.check.same_angles.Given as goal

abbrev pub invariant-loop-y : goal.invariant-loop-y
invariant-loop-y l =
    let it = l.y-iterator in
    (goal.iterator-loop-y).can_next it × (goal.iterator-loop-y).is_finite it
    × ((i : ℕ) → get_or l.left i 0 < 256)
    × (same_bytes l.left (floats_bytes (to_come it.planned.plan it.planned.work.now it.cursor))
    ≡ same_bytes l.s (floats_bytes (to_come l.planned.plan l.planned.work.now start)))
