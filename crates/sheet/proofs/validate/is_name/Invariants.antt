use Rattle.std.proofs.Common.{◌≡◌, drop}
use Rattle.sheet.specs.Validate.{is_name}
use Rattle.sheet.proofs.validate.is_name.Given as goal

abbrev pub invariant-loop-i : goal.invariant-loop-i
invariant-loop-i l = is_name (drop l.i l.name) ≡ is_name l.name
