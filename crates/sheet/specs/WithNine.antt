-- Sampling and Check as they were before 02's change 5, with refusal 9: an inner call of the root finder is refused. To compare with: each definition is that
-- of `Sampling` or `Check` with 9 in its place. No function promises any of it. Definitions only.
-- The list of a refused call was empty then. It is the Rust's here, as its answer is 9 whatever its list.
use Rattle.std.specs.Prelude.{ℕ, ◌+◌, List, length, leb, Option, Some, None}
use Rattle.polynomial.specs.InnerCalls.{all_taken}
use Rattle.sampling.specs.InnerCalls.{inner_calls}
use Rattle.sheet.specs.Bytes.{words_bytes, same_bytes}
use Rattle.sheet.specs.Edition.{newest, known}
use Rattle.sheet.specs.Request.{core_size}
use Rattle.sheet.specs.Fields.{job_of}
use Rattle.sheet.specs.Refusals.{Answer, accepted, refused, need}
use Rattle.sheet.specs.Validate.{validate}
use Rattle.sheet.specs.Sheet.{trailer_size, sheet_size}
use Rattle.sheet.specs.Sampling.{items, cut_count}
use Rattle.sheet.specs.Check.{count_of, edition_of, request_of, items_of, formed, is_accepted, clean}
use Rattle.sheet.specs.declared.edition.Edition.{Edition}

-- 1 to 9 and 41, which the request alone decides, and then v
unfoldable pub by_request : Edition → List ℕ → Answer → Answer
by_request e r v = validate e r (need (all_taken (inner_calls (job_of r))) 9 v)

-- ---- Sampling

unfoldable pub answer : List ℕ → ℕ → ℕ → Answer
answer r places room =
    by_request newest r
    (need (leb (cut_count r) places) 10
    (need (leb (sheet_size newest (length (items r))) room) 11
    (accepted (length (items r)))))

-- ---- Check

unfoldable pub check_edition : Edition → List ℕ → ℕ → Answer
check_edition e s places =
    need (formed e s) 32
    (need (is_accepted (by_request e (request_of e s) (accepted 0))) 33
    (need (clean (request_of e s)) 34
    (need (leb (cut_count (request_of e s)) places) 35
    (need (same_bytes (items_of e s) (words_bytes (items (request_of e s)))) 36
    (accepted (count_of s))))))

unfoldable pub check_said : Option Edition → List ℕ → ℕ → Answer
check_said (Some e) s places = check_edition e s places
check_said None s places = refused 32

unfoldable pub check : Edition → List ℕ → ℕ → Answer
check upto s places = need (leb (core_size + trailer_size) (length s)) 31 (check_said (known upto (edition_of s)) s places)
