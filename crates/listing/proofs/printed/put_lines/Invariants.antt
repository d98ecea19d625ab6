-- The lines that stand, before those of the items that are left, are those that are asked.
use Rattle.std.proofs.Common.{◌≡◌, ◌+◌, ◌*◌, ◌/◌, ◌++◌, length, take}
use Rattle.listing.specs.Listing.{lines}
use Rattle.listing.proofs.printed.put_lines.Given as goal

abbrev pub invariant-loop-i : goal.invariant-loop-i
invariant-loop-i l = let k = l.i-iterator.count in
    let rest = l.i-iterator.iter.rest.now in
    record {
      size : l.i-iterator.iter.size ≡ 8;
      left : k + length rest / 8 ≡ length l.items / 8;
      stands : take (17 * k) l.text ++ lines rest 0 (length rest / 8) ≡ lines l.items 0 (length l.items / 8);
    }
