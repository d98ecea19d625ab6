-- The operation Page (02, change 4): the check's refusals, then 43, then 42, and what the page slice holds afterwards. Definitions only.
use Rattle.std.specs.Prelude.{ℕ, Bool, ◌&&◌, List, [], ◌++◌, leb, length, drop, Option, Some, None, Result, Ok, Err}
use Rattle.sheet.specs.Edition.{newest, known}
use Rattle.sheet.specs.Request.{name_at}
use Rattle.sheet.specs.Refusals.{Answer, accepted, refused, need, fault_number}
use Rattle.sheet.specs.Check.{edition_of, request_of, listed}
use Rattle.sheet.specs.Check as Check
use Rattle.sheet.specs.declared.edition.Edition.{Edition}
use Rattle.page.specs.Page.{page, pages}
use Rattle.page.specs.declared.refusals.Refusal.{Refusal}
use Rattle.page.specs.declared.refusals.Refusal.TheVariants.{Sheet, NoPage, Short}

-- the papers' number of each refusal
abbrev pub number : Refusal → ℕ
number (Sheet f) = fault_number f
number NoPage = 43
number Short = 42

-- what the code answers
abbrev pub answer_of : Result ℕ Refusal → Answer
answer_of (Ok n) = accepted n
answer_of (Err k) = refused (number k)

-- the name on a sheet; in edition 1 a request ends before it
abbrev pub name_by : Option Edition → List ℕ → List ℕ
name_by (Some e) s = drop name_at (request_of e s)
name_by None s = []

abbrev pub name_of : List ℕ → List ℕ
name_of s = name_by (known newest (edition_of s)) s

-- page k of a sheet
unfoldable pub text : List ℕ → ℕ → List ℕ
text s k = page (name_of s) (listed s) k

-- 43: the page number is 0 or past the last page
abbrev pub is_page : List ℕ → ℕ → Bool
is_page s k = leb 1 k && leb k (pages (length (listed s)))

-- of a checked sheet, page k and so many bytes: 43, then 42 if they are fewer than the text's; success returns the text's length
unfoldable pub laid : List ℕ → ℕ → ℕ → Answer
laid s k room = need (is_page s k) 43 (need (leb (length (text s k)) room) 42 (accepted (length (text s k))))

-- the check's refusals come first
abbrev pub by_check : Answer → Answer → Answer
by_check (accepted n) v = v
by_check (refused f) v = refused f

unfoldable pub answer : List ℕ → ℕ → ℕ → ℕ → Answer
answer s k places room = by_check (Check.answer newest s places) (laid s k room)

-- Success fills the first bytes of the page slice with the text; the rest, and all of it on refusal, is left.
abbrev pub text_after : Answer → List ℕ → List ℕ → List ℕ
text_after (accepted n) t lent = t ++ drop n lent
text_after (refused k) t lent = lent

-- columns 27 to 42 of a float by themselves: 42 if fewer than 16 bytes are lent
abbrev pub decimal_answer : ℕ → Answer
decimal_answer room = need (leb 16 room) 42 (accepted 16)
