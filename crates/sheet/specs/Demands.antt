-- The three demands, what the editions promise, that the order of pairs changed no answer and that refusal 9 never came, as statements about the definitions
-- that the contracts of Sampling and Check cite; `Laws.Demands`, `Laws.Editions`, `Laws.RustOrder` and `proofs/InnerCalls` prove each. What stays with the
-- contracts: that the code's answer, output and work are these definitions' (`sample::sample`, `check::check`).
use Rattle.std.specs.Prelude.{ℕ, ◌+◌, ◌*◌, ◌≤◌, ◌<◌, ◌≡◌, List, Bool, true, ◌&&◌, ◌||◌, ◌↔◌, T, eqb, leb, length, take, drop, get_or}
use Rattle.sampling.specs.declared.job.Job.{Job}
use Rattle.float.specs.Number.{zero_float}
use Rattle.sheet.specs.Bytes.{float_at}
use Rattle.sheet.specs.Edition.{number, newest}
use Rattle.sheet.specs.Request.{core_size, name_at, request_size, Agree}
use Rattle.sheet.specs.Validate.{head_right, name_right}
use Rattle.sheet.specs.Refusals.{Answer, accepted, refused}
use Rattle.sheet.specs.Sampling.{angles, before_output, answer, sheet, output_after}
use Rattle.sheet.specs.Sheet.{trailer_size, items_bound, sheet_size}
use Rattle.sheet.specs.Fields.{job_of}
use Rattle.sheet.specs.Check.{request_of, edition_of, meets_none}
use Rattle.sheet.specs.declared.edition.Edition.{Edition}
use Rattle.sheet.specs.declared.edition.Edition.TheVariants.{One}
use Rattle.polynomial.specs.InnerCalls.{Fair}
use Rattle.polynomial.specs.Promises.Lists.{All}
use Rattle.sampling.specs.InnerCalls.{inner_calls}
use Rattle.sampling.specs.Angles as Angles
use Rattle.sheet.specs.Check as Check
use Rattle.sheet.specs.RustOrder as RustOrder
use Rattle.sheet.specs.WithNine as WithNine

-- Demand 1. Every answer is a count, or a number of the papers: Sampling's are 1 to 8, 10, 11 and 41, Check's 31 to 36.
abbrev pub of_sampling : ℕ → Bool
of_sampling k = (leb 1 k && leb k 8) || ((leb 10 k && leb k 11) || eqb k 41)

abbrev pub of_check : ℕ → Bool
of_check k = leb 31 k && leb k 36

abbrev pub Among : (ℕ → Bool) → Answer → Type 0
Among p (accepted n) = Unit {0}
Among p (refused k) = T (p k)

pub record Answers : Type 0 where
  pub sampling : (r : List ℕ) (places room : ℕ) → Among of_sampling (answer r places room)
  pub check : (upto : Edition) (s : List ℕ) (places : ℕ) → Among of_check (Check.answer upto s places)

-- A refusal leaves the output; success fills the sheet's bytes and leaves the rest.
abbrev pub Leaves : Type 0
Leaves = (r output : List ℕ) (k : ℕ) → output_after (refused k) r output ≡ output

-- Demand 2. What is accepted has n angles, those of the definition, and its sheet has 8n + 312 bytes.
abbrev pub Counted : Type 0
Counted =
    (r : List ℕ) (places room n : ℕ) → answer r places room ≡ accepted n → (n ≡ length (angles r)) × (length (sheet newest r) ≡ sheet_size newest n)

-- The i-th eight bytes of its sheet, read back as a float, are the i-th angle.
abbrev pub Faithful : Type 0
Faithful =
    (r : List ℕ) (places room n : ℕ) → answer r places room ≡ accepted n → (i : ℕ) → i < n
    → float_at (sheet newest r) (8 * i) ≡ get_or (angles r) i zero_float

-- A sheet that names an edition that is not known, by the u16 at byte 8 of its trailer, is refused as 32.
abbrev pub OtherEdition : Type 0
OtherEdition =
    (upto : Edition) (s : List ℕ) (places : ℕ) → core_size + trailer_size ≤ length s → ((e : Edition) → number e ≤ number upto → edition_of s ≡ number e → ⊥)
    → Check.answer upto s places ≡ refused 32

-- the sheet that an edition, known to a check, lays out for the request inside; with so many work places that request gives n angles
pub record Written (upto : Edition) (s : List ℕ) (places n : ℕ) : Type 0 where
  pub edition : Edition
  pub is_known : number edition ≤ number upto
  pub whole : s ≡ sheet edition (request_of edition s)
  pub accepts : before_output edition (request_of edition s) places ≡ accepted n

-- Check accepts exactly these, given the work places that 01 counts.
abbrev pub Sound : Type 0
Sound = (upto : Edition) (s : List ℕ) (places n : ℕ) → Check.answer upto s places ≡ accepted n → Written upto s places n

abbrev pub Complete : Type 0
Complete =
    (upto e : Edition) (r : List ℕ) (places n : ℕ) → number e ≤ number upto → before_output e r places ≡ accepted n
    → Check.answer upto (sheet e r) places ≡ accepted n

-- both in one
abbrev pub Exact : Type 0
Exact = (upto : Edition) (s : List ℕ) (places n : ℕ) → (Check.answer upto s places ≡ accepted n) ↔ Written upto s places n

-- what the trailer's u32 fields ask: 8n is below 2^32
abbrev pub Few : Type 0
Few = (job : Job) → length (Angles.angles job) < items_bound

-- Demand 3. Requests that agree in what is read, the name too, get the same answer, with equally long work and output.
abbrev pub SameAnswer : Type 0
SameAnswer = (r s : List ℕ) → Agree newest r s → (places room : ℕ) → answer r places room ≡ answer s places room

-- Agreeing requests have the same angles, if kind and flags are right; with a wrong one there is no answer but 2, and nothing says which fields are read.
abbrev pub SameAngles : Type 0
SameAngles = (r s : List ℕ) → Agree newest r s → head_right r ≡ true → angles r ≡ angles s

-- Two accepted requests give equal sheets exactly when they agree in what is read.
abbrev pub SameSheet : Type 0
SameSheet =
    (r s : List ℕ) (places room n places' room' n' : ℕ) → answer r places room ≡ accepted n → answer s places' room' ≡ accepted n'
    → (sheet newest r ≡ sheet newest s) ↔ Agree newest r s

-- Demand 3 of two calls, with requests r and s and so many work places each: their answers a and b, and their outputs x and y afterwards, of which a sheet is
-- the first 8n + 312 bytes.
pub record Together (r s : List ℕ) (places places' : ℕ) (a b : Answer) (x y : List ℕ) : Type 0 where
  pub answers : places ≡ places' → length x ≡ length y → Agree newest r s → a ≡ b
  pub sheets : (n m : ℕ) → a ≡ accepted n → b ≡ accepted m → (take (sheet_size newest n) x ≡ take (sheet_size newest m) y) ↔ Agree newest r s

-- Editions. A check that knows only edition 1 answers 32 to every sheet that Sampling writes, whatever the work.
abbrev pub EarlierRefuses : Type 0
EarlierRefuses =
    (r : List ℕ) (places room n : ℕ) → answer r places room ≡ accepted n → (places' : ℕ) → Check.answer One (sheet newest r) places' ≡ refused 32

-- Where the trailer says edition 1, Check answers what the one that knows only edition 1 does; and it accepts all that that one accepts.
pub record OlderAsBefore : Type 0 where
  pub answers : (s : List ℕ) (places : ℕ) → edition_of s ≡ number One → Check.answer newest s places ≡ Check.answer One s places
  pub accepts : (s : List ℕ) (places n : ℕ) → Check.answer One s places ≡ accepted n → Check.answer newest s places ≡ accepted n

-- two requests that differ in the name alone
pub record NameAlone (r s : List ℕ) : Type 0 where
  pub whole : length r ≡ request_size newest
  pub whole' : length s ≡ request_size newest
  pub core : take core_size r ≡ take core_size s
  pub names : drop name_at r ≡ drop name_at s → ⊥

-- They have the same angles; with equally long work and output the same answer, if both names are right or both wrong; and different sheets.
abbrev pub ByNameAlone : Type 0
ByNameAlone =
    (r s : List ℕ) → NameAlone r s
    → (angles r ≡ angles s)
    × (name_right r ≡ name_right s → (places room : ℕ) → answer r places room ≡ answer s places room)
    × (sheet newest r ≡ sheet newest s → ⊥)

-- One job in both editions: the first 264 bytes of a request have its angles, and with a right name edition 1 answers for them what the newest answers for it.
abbrev pub Unnamed : Type 0
Unnamed =
    (r : List ℕ) → length r ≡ request_size newest
    → (angles (take core_size r) ≡ angles r)
    × (name_right r ≡ true → (places : ℕ) → before_output One (take core_size r) places ≡ before_output newest r places)

-- Pairs of curves (02, change 3). Every answer of Sampling and Check, and what the output holds afterwards, is what it was with the pairs in the Rust's order.
pub record PairsAsBefore : Type 0 where
  pub sampling : (r : List ℕ) (places room : ℕ) → RustOrder.answer r places room ≡ answer r places room
  pub output : (a : Answer) (r output : List ℕ) → RustOrder.output_after a r output ≡ output_after a r output
  pub check : (upto : Edition) (s : List ℕ) (places : ℕ) → RustOrder.check upto s places ≡ Check.answer upto s places

-- Refusal 9 (02, change 5). Every inner call of the root finder for a request that meets none of 1 to 8 and 41 has bounds within ±4 in order, at most nine
-- coefficients under 2^400, and a list that 509 places hold.
abbrev pub InnerCallsFair : Type 0
InnerCallsFair = (e : Edition) (r : List ℕ) → meets_none e r ≡ true → All Fair (inner_calls (job_of r))

-- So every answer of Sampling and Check is what it was with 9, which none of Sampling's was.
pub record NineAsBefore : Type 0 where
  pub sampling : (r : List ℕ) (places room : ℕ) → WithNine.answer r places room ≡ answer r places room
  pub check : (upto : Edition) (s : List ℕ) (places : ℕ) → WithNine.check upto s places ≡ Check.answer upto s places
