-- `sheet::bytes::word` meets its contract: std's number of eight bytes is that of `Bytes`.
use Rattle.std.proofs.Common.{◌∙◌}
use Rattle.sheet.proofs.bytes.Same.{number_part}
use Rattle.sheet.proofs.bytes.word.Goals as goal

pub returns : goal.returns
returns c = c.from_le_bytes.ensures ∙ number_part 7 c.args.s.now c.args.at c.bytes_at.result c.requires c.bytes_at.ensures
