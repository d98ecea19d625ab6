-- How long lines and pages are.
use Rattle.std.specs.Prelude.{ℕ, suc, ◌+◌, ◌*◌, ◌-◌, ◌≤◌, ◌<◌, ◌≡◌, refl, false, List, [], ◌∷◌, ◌++◌, map, length, drop}
use Rattle.std.proofs.Common.{arith, ◌∙◌, length-append, length-take, length-drop, le-leb}
use Rattle.std.proofs.lemmas.List.{length-replicate, length-map}
use Rattle.std.specs.Float.{binary64}
use Rattle.std.specs.Float.Ieee.{of_bits}
use Rattle.digits.specs.Decimal.{whole, blanks, columns}
use Rattle.digits.specs.Promises.Columns.{number}
use Rattle.digits.specs.Laws.Lengths.{length_spelled, whole_short}
use Rattle.digits.specs.Laws.Columns.{number_is, length_columns}
use Rattle.page.specs.Page.{line, letter, name_line, lines, per_page, before_page, on_page, page}
use Rattle.page.specs.Promises.Sheets.{angles_on}
use Rattle.page.specs.Laws.Decimal.{length_decimal}

-- ---- the place

pub place_is : (n : ℕ) → n < 1000000 → number 5 false n ≡ columns 6 (whole n)
place_is n h =
    let l : length (whole n) ≤ 6 = whole_short n 5 h in
    number_is n n 5 false (omega arith) l ∙ rw (le-leb (length (whole n)) 6 l)

-- ---- a line

pub length_line : (place angle : ℕ) → length (line place angle) ≡ 65
unfolding line
length_line place angle = simp (length-append, length_columns 6 (whole place), length_spelled 16 angle, length_decimal (of_bits binary64 angle))

-- the columns of a name and the blanks behind it
pub length_named : (name : List ℕ) → length name ≤ 64 → length (map letter name ++ blanks (64 - length name)) ≡ 64
length_named name h = simp (length-append, length-map, length-replicate) (omega arith)

pub length_name_line : (name : List ℕ) → length name ≤ 64 → length (name_line name) ≡ 65
unfolding name_line
length_name_line name h = rw (length-append, length_named name h)

-- ---- lines and pages

pub length_lines : (place : ℕ) (angles : List ℕ) → length (lines place angles) ≡ 65 * length angles
unfolding lines
length_lines place [] = refl
length_lines place (x ∷ xs) = rw (length-append, length_line place x, length_lines (suc place) xs) (omega arith)

length_on_page : (k : ℕ) (angles : List ℕ) → length (on_page k angles) ≡ angles_on (length angles) k
unfolding on_page
length_on_page k angles = length-take per_page (drop (before_page k) angles) ∙ rw (length-drop (before_page k) angles)

pub length_page : (name angles : List ℕ) (k : ℕ) → length name ≤ 64 → length (page name angles k) ≡ 65 + 65 * angles_on (length angles) k
unfolding page
length_page name angles k h = rw (length-append, length_name_line name h, length_lines (suc (before_page k)) (on_page k angles), length_on_page k angles)
