-- The edition, by std's number of two bytes.
use Rattle.std.proofs.Common.{◌∙◌, arith, length, ◌+◌, ◌-◌}
use Rattle.sheet.proofs.bytes.Same.{number_part}
use Rattle.sheet.specs.Laws.Check.{edition_at}
use Rattle.sheet.proofs.check.Sheet.edition.Goals as goal

pub returns : goal.returns
returns c = let s = c.args.self in
    let k = c.from_le_bytes.ensures
    ∙ number_part 1 s.bytes.now (length s.bytes.now - 16 + 8) c.bytes_at.result (omega (arith, s.long)) c.bytes_at.ensures ∙ edition_at s.bytes.now s.long in
    rw k at c.try_from.ensures
