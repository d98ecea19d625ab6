use Rattle.std.proofs.Common.{◌≡◌, ◌-◌, ◌%◌, ◌≤◌, length, drop}
use Rattle.std.proofs.lemmas.List.Edits.{sets}
use Rattle.sheet.specs.Request.{blank_from}
use Rattle.sheet.proofs.request.put_fields.Given as goal

abbrev pub decreases-loop-i : goal.decreases-loop-i
decreases-loop-i l = 264 - l.i

abbrev pub invariant-loop-i : goal.invariant-loop-i
invariant-loop-i l =
    let r = l.view.request.now in
    (16 ≤ l.i) × (l.i ≤ 264) × (l.i % 8 ≡ 0) × (length l.out ≡ length l.initial.out)
    × (sets l.out l.i (blank_from l.s l.i (drop l.i r)) ≡ sets l.initial.out 16 (blank_from l.s 16 (drop 16 r)))
