-- What is still to be stored, stored now, gives what is asked.
use Rattle.std.proofs.Common.{◌≡◌, ◌-◌, length}
use Rattle.std.proofs.lemmas.List.Edits.{sets}
use Rattle.text.specs.Lines as Lines
use Rattle.text.proofs.lines.spell.Given as goal

abbrev pub invariant-loop-i : goal.invariant-loop-i
invariant-loop-i l =
    sets l.out l.i (Lines.bytes l.line l.at l.i (length l.fn.out - l.i)) ≡ sets l.fn.out 0 (Lines.bytes l.line l.at 0 (length l.fn.out))
