-- The angle page (02, change 4): lines of exactly 64 characters and a line feed. An angle is given by its 64 bits. Definitions only.
use Rattle.std.specs.Prelude.{ℕ, suc, ◌+◌, ◌*◌, ◌-◌, ◌/◌, max, cond, List, [], ◌∷◌, ◌++◌, map, eqb, length, take, drop}
use Rattle.std.specs.Float.{binary64}
use Rattle.std.specs.Float.Ieee.{of_bits}
use Rattle.digits.specs.Hex.{spelled}
use Rattle.digits.specs.Decimal.{whole, blanks, columns}
use Rattle.page.specs.Decimal.{decimal}

-- Place in columns 1 to 6, right-aligned; the 16 hexadecimal digits in 9 to 24; the angle in radians in 27 to 42; blanks elsewhere.
unfoldable pub line : ℕ → ℕ → List ℕ
line place angle =
    columns 6 (whole place)
    ++ blanks 2
    ++ spelled 16 angle
    ++ blanks 2
    ++ decimal (of_bits binary64 angle)
    ++ blanks 22
    ++ (10 ∷ [])

-- the name's bytes in the first columns, zeros as blanks, and blanks to the end; without a name all is blank
abbrev pub letter : ℕ → ℕ
letter b = cond (eqb b 0) 32 b

unfoldable pub name_line : List ℕ → List ℕ
name_line name = map letter name ++ blanks (64 - length name) ++ (10 ∷ [])

-- angles on lines one after the other, the first of them at a place
unfoldable pub lines : ℕ → List ℕ → List ℕ
lines place [] = []
lines place (angle ∷ angles) = line place angle ++ lines (suc place) angles

-- Pages count from 1 and hold 60 angles each, the last those that remain.
abbrev pub per_page : ℕ
per_page = 60

abbrev pub before_page : ℕ → ℕ
before_page k = per_page * (k - 1)

unfoldable pub on_page : ℕ → List ℕ → List ℕ
on_page k angles = take per_page (drop (before_page k) angles)

-- A page: the name on its first line, then its angles. The place counts through the whole sheet.
unfoldable pub page : List ℕ → List ℕ → ℕ → List ℕ
page name angles k = name_line name ++ lines (suc (before_page k)) (on_page k angles)

-- how many pages n angles take; without angles there is one
abbrev pub pages : ℕ → ℕ
pages n = max 1 ((n + (per_page - 1)) / per_page)
