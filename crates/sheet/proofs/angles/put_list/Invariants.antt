use Rattle.std.proofs.Common.{◌≡◌, ◌*◌, ◌≤◌, length, drop}
use Rattle.std.proofs.lemmas.List.Edits.{sets}
use Rattle.sheet.specs.Promises.Floats.{floats_bytes}
use Rattle.sheet.proofs.angles.put_list.Given as goal

abbrev pub invariant-loop-i : goal.invariant-loop-i
invariant-loop-i l =
    (l.i ≤ length l.list) × (length l.output ≡ length l.initial.output)
    × (sets l.output (8 * l.i) (floats_bytes (drop l.i l.list)) ≡ sets l.initial.output 0 (floats_bytes l.list))
