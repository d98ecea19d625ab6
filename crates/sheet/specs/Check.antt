-- The operation Check (01; 02, changes 2 and 5): refusals 31 to 36 in their order, for a sheet of any edition that is known. Definitions only.
use Rattle.std.specs.Prelude.{ℕ, ◌+◌, ◌-◌, List, Bool, true, false, ◌&&◌, length, take, eqb, leb, ltb, Option, Some, None, Result, Ok, Err}
use Rattle.sheet.specs.Bytes.{little_endian, part, words_bytes, words, same_bytes}
use Rattle.sheet.specs.Edition.{known}
use Rattle.sheet.specs.Request.{core_size, request_size, blank}
use Rattle.sheet.specs.Refusals.{Answer, accepted, refused, need, fault_number}
use Rattle.sheet.specs.Validate.{validate}
use Rattle.sheet.specs.Sheet.{trailer, trailer_size, frame_size, items_bound, sheet_size}
use Rattle.sheet.specs.Sampling.{items, cut_count}
use Rattle.sheet.specs.declared.edition.Edition.{Edition}
use Rattle.sheet.specs.declared.refusals.Fault.{Fault}

-- what the code answers
abbrev pub answer_of : Result ℕ Fault → Answer
answer_of (Ok n) = accepted n
answer_of (Err f) = refused (fault_number f)

-- the trailer, the n and the edition that it says
abbrev pub trailer_of : List ℕ → List ℕ
trailer_of s = part (length s - trailer_size) trailer_size s

abbrev pub count_of : List ℕ → ℕ
count_of s = little_endian (part (length s - trailer_size) 4 s)

abbrev pub edition_of : List ℕ → ℕ
edition_of s = little_endian (part 8 2 (trailer_of s))

-- the request inside a sheet of an edition, before the trailer, and the items' bytes, before that
abbrev pub request_of : Edition → List ℕ → List ℕ
request_of e s = part (length s - frame_size e) (request_size e) s

abbrev pub items_of : Edition → List ℕ → List ℕ
items_of e s = take (length s - frame_size e) s

-- what a sheet lists, 64 bits each
abbrev pub listed : List ℕ → List ℕ
listed s = words (count_of s) s

-- 32: the length is that of n items in this edition, 8n is a u32, and the trailer is theirs
unfoldable pub formed : Edition → List ℕ → Bool
formed e s = eqb (length s) (sheet_size e (count_of s)) && (ltb (count_of s) items_bound && same_bytes (trailer_of s) (trailer e (count_of s)))

-- 33: the request meets none of 1 to 8 and 41
abbrev pub is_accepted : Answer → Bool
is_accepted (accepted n) = true
is_accepted (refused k) = false

unfoldable pub meets_none : Edition → List ℕ → Bool
meets_none e r = is_accepted (validate e r (accepted 0))

-- 34: every unread field is zero
abbrev pub clean : List ℕ → Bool
clean r = same_bytes (blank r) r

-- 32 to 36 of a sheet that says this edition, with so many work places; success returns n
unfoldable pub by_edition : Edition → List ℕ → ℕ → Answer
by_edition e s places =
    need (formed e s) 32
    (need (meets_none e (request_of e s)) 33
    (need (clean (request_of e s)) 34
    (need (leb (cut_count (request_of e s)) places) 35
    (need (same_bytes (items_of e s) (words_bytes (items (request_of e s)))) 36
    (accepted (count_of s))))))

-- an edition that is not known is 32
unfoldable pub by_said : Option Edition → List ℕ → ℕ → Answer
by_said (Some e) s places = by_edition e s places
by_said None s places = refused 32

-- 31 to 36, for a check that knows the editions up to one; 31 goes by the shortest sheet of all
unfoldable pub answer : Edition → List ℕ → ℕ → Answer
answer upto s places = need (leb (core_size + trailer_size) (length s)) 31 (by_said (known upto (edition_of s)) s places)
