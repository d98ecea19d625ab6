-- What the three steps of Check up to a sheet's request go by, refusal by refusal.
use Rattle.sheet.specs.Laws.Check.{formed_no, formed_wide, formed_by, formed_length, request_is}
use Rattle.sheet.specs.Laws.Check.{edition_unformed, edition_formed, left_unformed, left_formed}
use Rattle.sheet.specs.Laws.Check.{answer_short, answer_unknown, answer_known, left_short, left_unknown, left_known}
use Rattle.sheet.specs.Laws.Sheet.{length_trailer}
use Rattle.sheet.proofs.bytes.Same.{same_end}

-- 32, by the trailer
pub ruleset trailer = (formed_no, formed_wide, formed_by, length_trailer, same_end)

-- 32 to 36, by what `formed` says
pub ruleset formed = (edition_unformed, edition_formed, left_unformed, left_formed, formed_length, request_is)

-- 31 and 32, by the length and the edition
pub ruleset edition = (answer_short, answer_unknown, answer_known, left_short, left_unknown, left_known)
