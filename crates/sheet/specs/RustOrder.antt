-- Sampling and Check as they were before 02's change 3, with the pairs of curves in the Rust's order: to compare with. Each definition is that of `Sampling`
-- or `Check` by the angles and the cuts of sampling's `RustOrder`; 9, which never came, is left out. No function promises any of it. Definitions only.
use Rattle.std.specs.Prelude.{ℕ, ◌+◌, List, map, ◌++◌, length, drop, leb, Option, Some, None}
use Rattle.std.specs.Float.{binary64}
use Rattle.std.specs.Float.Ieee.{to_bits}
use Rattle.sheet.specs.Bytes.{words_bytes, same_bytes}
use Rattle.sheet.specs.Edition.{newest, known}
use Rattle.sheet.specs.Request.{core_size, blank}
use Rattle.sheet.specs.Fields.{job_of}
use Rattle.sheet.specs.Refusals.{Answer, accepted, refused, need}
use Rattle.sheet.specs.Validate.{validate}
use Rattle.sheet.specs.Sheet.{trailer, trailer_size, sheet_size}
use Rattle.sheet.specs.Check.{count_of, edition_of, request_of, items_of, formed, meets_none, clean}
use Rattle.sheet.specs.declared.edition.Edition.{Edition}
use Rattle.sampling.specs.RustOrder as RustOrder

-- ---- Sampling

unfoldable pub items : List ℕ → List ℕ
items r = map (to_bits binary64) (RustOrder.angles (job_of r))

unfoldable pub sheet : Edition → List ℕ → List ℕ
sheet e r = words_bytes (items r) ++ (blank r ++ trailer e (length (items r)))

unfoldable pub answer : List ℕ → ℕ → ℕ → Answer
answer r places room =
    validate newest r
    (need (leb (RustOrder.cut_count (job_of r)) places) 10
    (need (leb (sheet_size newest (length (items r))) room) 11
    (accepted (length (items r)))))

abbrev pub output_after : Answer → List ℕ → List ℕ → List ℕ
output_after (accepted n) r output = sheet newest r ++ drop (sheet_size newest n) output
output_after (refused k) r output = output

-- ---- Check

unfoldable pub check_edition : Edition → List ℕ → ℕ → Answer
check_edition e s places =
    need (formed e s) 32
    (need (meets_none e (request_of e s)) 33
    (need (clean (request_of e s)) 34
    (need (leb (RustOrder.cut_count (job_of (request_of e s))) places) 35
    (need (same_bytes (items_of e s) (words_bytes (items (request_of e s)))) 36
    (accepted (count_of s))))))

unfoldable pub check_said : Option Edition → List ℕ → ℕ → Answer
check_said (Some e) s places = check_edition e s places
check_said None s places = refused 32

unfoldable pub check : Edition → List ℕ → ℕ → Answer
check upto s places = need (leb (core_size + trailer_size) (length s)) 31 (check_said (known upto (edition_of s)) s places)
