-- The letters so far.
use Rattle.std.proofs.Common.{◌≡◌, map, take}
use Rattle.page.specs.Page.{letter}
use Rattle.page.proofs.lines.put_name.Given as goal

abbrev pub invariant-loop-i : goal.invariant-loop-i
invariant-loop-i l = take l.i l.out ≡ map letter (take l.i l.name)
