use Rattle.std.proofs.Common.{◌≡◌, ◌*◌, ◌≤◌, length, drop}
use Rattle.std.proofs.lemmas.List.Edits.{sets}
use Rattle.std.specs.Slice.Iter.{windows_size, windows_rest}
use Rattle.sampling.specs.Samples.{all_between}
use Rattle.sheet.specs.Promises.Floats.{floats_bytes}
use Rattle.sheet.proofs.angles.put_between.Given as goal

abbrev pub invariant-loop-i : goal.invariant-loop-i
invariant-loop-i l =
    let pairs = l.i-iterator.iter in
    let n = l.i-iterator.count in
    (goal.iterator-loop-i).can_next l.i-iterator × (windows_size pairs ≡ 2)
    × (n ≤ length l.list) × (windows_rest pairs ≡ drop n l.list) × (length l.output ≡ length l.initial.output)
    × (sets l.output (24 * n) (floats_bytes (all_between (drop n l.list))) ≡ sets l.initial.output 0 (floats_bytes (all_between l.list)))
