-- What the two programs print (01: "A program reads a sheet from standard input .."), byte by byte. Definitions only.
use Rattle.std.specs.Prelude.{ℕ, zero, suc, ◌*◌, cond, List, [], ◌∷◌, ◌++◌, leb, ltb, length, drop, Some, None}
use Rattle.std.specs.declared.option.Option.{Option}
use Rattle.sheet.specs.Bytes.{little_endian, part}
use Rattle.sheet.specs.Edition.{newest}
use Rattle.sheet.specs.Refusals.{Answer, accepted, refused}
use Rattle.sheet.specs.Sampling.{sheet}
use Rattle.sheet.specs.Sampling as Sampling
use Rattle.sheet.specs.Check as Check
use Rattle.digits.specs.Hex.{spelled}
use Rattle.text.specs.Numbered.{numbered}

-- the work places lent, and the most bytes that are looked at
abbrev pub places : ℕ
places = 4096

abbrev pub most : ℕ
most = 65536

-- `accepted `, `refused ` and the line `too long`, in ASCII
abbrev pub accepted_word : List ℕ
accepted_word = 97 ∷ 99 ∷ 99 ∷ 101 ∷ 112 ∷ 116 ∷ 101 ∷ 100 ∷ 32 ∷ []

abbrev pub refused_word : List ℕ
refused_word = 114 ∷ 101 ∷ 102 ∷ 117 ∷ 115 ∷ 101 ∷ 100 ∷ 32 ∷ []

abbrev pub too_long : List ℕ
too_long = 116 ∷ 111 ∷ 111 ∷ 32 ∷ 108 ∷ 111 ∷ 110 ∷ 103 ∷ 10 ∷ []

-- the first line: `accepted n` or `refused k`
abbrev pub head : Answer → List ℕ
head (accepted n) = numbered accepted_word n
head (refused k) = numbered refused_word k

abbrev pub count : Answer → ℕ
count (accepted n) = n
count (refused k) = 0

-- item i of a sheet: the number whose eight bytes stand at 8i
abbrev pub item : List ℕ → ℕ → ℕ
item s i = little_endian (part (8 * i) 8 s)

-- lines of n items from item i on: 16 capital hexadecimal digits, the bits from the highest down
unfoldable pub lines : List ℕ → ℕ → ℕ → List ℕ
lines s i zero = []
lines s i (suc n) = spelled 16 (item s i) ++ (10 ∷ []) ++ lines s (suc i) n

-- the first line and one for each item
abbrev pub report : Answer → List ℕ → List ℕ
report a s = head a ++ lines s 0 (count a)

-- what `check_sheet` prints of its input
unfoldable pub check_text : List ℕ → List ℕ
check_text s = cond (ltb most (length s)) too_long (report (Check.answer newest s places) s)

-- What `make_sheet` writes of a request to standard output, the sheet or nothing, and to standard error, nothing or the refusal.
-- There is room for so many bytes of a sheet.
abbrev pub output_by : Answer → List ℕ → List ℕ
output_by (accepted n) r = sheet newest r
output_by (refused k) r = []

abbrev pub error_by : Answer → List ℕ
error_by (accepted n) = []
error_by (refused k) = head (refused k)

abbrev pub make_output : List ℕ → ℕ → List ℕ
make_output r room = output_by (Sampling.answer r places room) r

abbrev pub make_error : List ℕ → ℕ → List ℕ
make_error r room = error_by (Sampling.answer r places room)

-- a text in the first bytes of what is lent
abbrev pub filled : List ℕ → List ℕ → List ℕ
filled t lent = t ++ drop (length t) lent

-- `check_text`: how many bytes the text has; where fewer are lent, none is written
abbrev pub printed : List ℕ → ℕ → Option ℕ
printed t room = cond (leb (length t) room) (Some (length t)) None

abbrev pub after : List ℕ → List ℕ → List ℕ
after t lent = cond (leb (length t) (length lent)) (filled t lent) lent
