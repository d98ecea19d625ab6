-- The lines that stand, before those of the angles that are left, are those that are asked.
use Rattle.std.proofs.Common.{◌≡◌, ◌+◌, ◌*◌, ◌/◌, ◌++◌, length, take}
use Rattle.sheet.specs.Bytes.{words}
use Rattle.page.specs.Page.{lines}
use Rattle.page.proofs.lines.put_lines.Given as goal

abbrev pub invariant-loop-i : goal.invariant-loop-i
invariant-loop-i l = let k = l.i-iterator.count in
    let rest = l.i-iterator.iter.rest.now in
    record {
      size : l.i-iterator.iter.size ≡ 8;
      left : k + length rest / 8 ≡ length l.angles / 8;
      stands : take (65 * k) l.out ++ lines (l.place + k) (words (length rest / 8) rest) ≡ lines l.place (words (length l.angles / 8) l.angles);
    }
