-- std's number of four bytes is that of `Bytes`.
use Rattle.std.proofs.Common.{◌∙◌, arith, length, ◌-◌}
use Rattle.sheet.proofs.bytes.Same.{number_part}
use Rattle.sheet.proofs.check.Sheet.count.Goals as goal

pub returns-clause-value : goal.returns-clause-value
returns-clause-value c = let s = c.args.self in
    c.from_le_bytes.ensures ∙ number_part 3 s.bytes.now (length s.bytes.now - 16) c.bytes_at.result (omega (arith, s.long)) c.bytes_at.ensures
