-- The operation Sampling (01; 02, changes 2 and 5): refusals 1 to 8, 41, 10 and 11 in their order, the sheet of each edition, and what the output holds
-- afterwards.
-- Definitions only.
use Rattle.std.specs.Prelude.{ℕ, List, map, ◌++◌, length, drop, leb, Float, Result, Ok, Err}
use Rattle.std.specs.Float.{binary64}
use Rattle.std.specs.Float.Ieee.{to_bits}
use Rattle.sheet.specs.Bytes.{words_bytes}
use Rattle.sheet.specs.Edition.{newest}
use Rattle.sheet.specs.Request.{blank}
use Rattle.sheet.specs.Fields.{job_of}
use Rattle.sheet.specs.Refusals.{Answer, accepted, refused, need, number}
use Rattle.sheet.specs.Validate.{validate}
use Rattle.sheet.specs.Sheet.{trailer, sheet_size}
use Rattle.sheet.specs.declared.edition.Edition.{Edition}
use Rattle.sheet.specs.declared.refusals.Refusal.{Refusal}
use Rattle.sampling.specs.Angles as Angles

-- what the code answers
abbrev pub answer_of : Result ℕ Refusal → Answer
answer_of (Ok n) = accepted n
answer_of (Err k) = refused (number k)

-- The angles of a request: every field as given, none blanked first.
unfoldable pub angles : List ℕ → List Float
angles r = Angles.angles (job_of r)

-- the cuts counted
unfoldable pub cut_count : List ℕ → ℕ
cut_count r = Angles.cut_count (job_of r)

-- what a sheet lists, 64 bits each: the angles; the NaN is 7FF8000000000000
unfoldable pub items : List ℕ → List ℕ
items r = map (to_bits binary64) (angles r)

-- what an edition lays out for a request: the n items, the request with every unread field zero, the trailer
unfoldable pub sheet : Edition → List ℕ → List ℕ
sheet e r = words_bytes (items r) ++ (blank r ++ trailer e (length (items r)))

-- 1 to 8 and 41, which the request alone decides, 10, with so many work places, and then v
unfoldable pub by_work : Edition → List ℕ → ℕ → Answer → Answer
by_work e r places v = validate e r (need (leb (cut_count r) places) 10 v)

-- the same with success, which returns n: what does not depend on an output
abbrev pub before_output : Edition → List ℕ → ℕ → Answer
before_output e r places = by_work e r places (accepted (length (items r)))

-- Sampling, which writes the newest edition: all of these and 11, with an output of so many bytes; success returns n
unfoldable pub answer : List ℕ → ℕ → ℕ → Answer
answer r places room = by_work newest r places (need (leb (sheet_size newest (length (items r))) room) 11 (accepted (length (items r))))

-- Success fills the first 8n + 312 bytes; a refusal leaves the output.
abbrev pub output_after : Answer → List ℕ → List ℕ → List ℕ
output_after (accepted n) r output = sheet newest r ++ drop (sheet_size newest n) output
output_after (refused k) r output = output
