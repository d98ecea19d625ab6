use Rattle.std.proofs.Common.{◌≡◌, ◌+◌, ◌*◌, ◌≤◌, length}
use Rattle.std.proofs.lemmas.List.Edits.{sets}
use Rattle.sampling.specs.Promises.Stream.{start}
use Rattle.sampling.specs.Promises.Plan.{to_come}
use Rattle.sheet.specs.Promises.Floats.{floats_bytes}
use Rattle.sheet.proofs.sample.put_stream.Given as goal

abbrev pub invariant-loop-i : goal.invariant-loop-i
invariant-loop-i l =
    let it = l.i-iterator.iter in
    let n = l.i-iterator.count in
    let left = to_come it.planned.plan it.planned.work.now it.cursor in
    (goal.iterator-loop-i).can_next l.i-iterator × (goal.iterator-loop-i).is_finite l.i-iterator
    × (length l.output ≡ length l.initial.output)
    × (8 * (n + length left) ≤ length l.output)
    × (sets l.output (8 * n) (floats_bytes left) ≡ sets l.initial.output 0 (floats_bytes (to_come l.planned.plan l.planned.work.now start)))
