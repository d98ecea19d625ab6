-- Each line of a page is 64 characters, 32 to 126, and a line feed.
use Rattle.std.specs.Prelude.{ℕ, zero, suc, ◌+◌, ◌-◌, ◌/◌, ◌%◌, ◌≤◌, ◌<◌, ◌≡◌, refl, Bool, true, false, cond, List, [], ◌∷◌, ◌++◌, map, leb, ltb}
use Rattle.std.specs.Prelude.{Float, replicate}
use Rattle.std.proofs.Common.{arith, sym, append_assoc, lit≤, length-append, ltb-true, ltb-false}
use Rattle.std.specs.Float.{nan, inf, fin, binary64}
use Rattle.std.specs.Float.Ieee.{of_bits}
use Rattle.std.proofs.Math.ListN.{length}
use Rattle.polynomial.specs.Promises.Lists.{All}
use Rattle.polynomial.specs.Laws.Lists.{all_append}
use Rattle.digits.specs.Hex.{spelled}
use Rattle.digits.specs.Hex as Hex
use Rattle.digits.specs.Decimal.{figure, digits, figures, whole, signed, blanks, columns}
use Rattle.digits.specs.Laws.Lengths.{length_spelled}
use Rattle.digits.specs.Laws.Columns.{length_columns}
use Rattle.page.specs.Decimal.{billion, pointed, billionths, decimal}
use Rattle.page.specs.Page.{line, letter, name_line, lines, before_page, on_page, page}
use Rattle.page.specs.Laws.Decimal.{length_decimal}
use Rattle.page.specs.Laws.Lines.{length_named}

-- a character, blanks among them
pub record Printed (b : ℕ) : Type 0 where
  pub low : 32 ≤ b
  pub high : b ≤ 126

-- n lines, each of 64 characters and a line feed
pub data InLines : ℕ → List ℕ → Type 0 where
  none : InLines 0 []
  more : {n : ℕ} (l t : List ℕ) → length l ≡ 64 → All Printed l → InLines n t → InLines (suc n) (l ++ (10 ∷ t))

-- ---- runs

run : (k : ℕ) {b : ℕ} → Printed b → All Printed (replicate k b)
run zero p = tt
run (suc k) p = (p, run k p)

blank : Printed 32
blank = record { low = lit≤ tt; high = lit≤ tt }

asterisk : Printed 42
asterisk = record { low = lit≤ tt; high = lit≤ tt }

in_columns : (k : ℕ) (t : List ℕ) → All Printed t → All Printed (columns k t)
in_columns k t h = go (leb (length t) k)
  where
    go : (b : Bool) → All Printed (cond b (blanks (k - length t) ++ t) (replicate k 42))
    go true = all_append Printed (blanks (k - length t)) t (run (k - length t) blank) h
    go false = run k asterisk

-- ---- numbers

figure_printed : (d : ℕ) → d < 10 → Printed (figure d)
figure_printed d h = record { low = omega arith; high = omega arith }

digits_printed : (k n : ℕ) → All Printed (digits k n)
unfolding digits
digits_printed zero n = tt
digits_printed (suc k) n =
    all_append Printed (digits k (n / 10)) (figure (n % 10) ∷ []) (digits_printed k (n / 10)) (figure_printed (n % 10) (omega arith), tt)

figures_printed : (most n : ℕ) → n ≤ most → All Printed (figures most n)
unfolding figures
figures_printed zero n h = (figure_printed n (omega arith), tt)
figures_printed (suc most) n h = go (ltb n 10) refl (figures_printed most (n / 10))
  where
    go : (b : Bool) → b ≡ ltb n 10 → (n / 10 ≤ most → All Printed (figures most (n / 10)))
        → All Printed (cond b (figure n ∷ []) (figures most (n / 10) ++ (figure (n % 10) ∷ [])))
    go true e f = (figure_printed n (ltb-true n 10 (sym e)), tt)
    go false e f =
        let g : 10 ≤ n = ltb-false n 10 (sym e) in
        all_append Printed (figures most (n / 10)) (figure (n % 10) ∷ []) (f (omega arith)) (figure_printed (n % 10) (omega arith), tt)

whole_printed : (n : ℕ) → All Printed (whole n)
whole_printed n = figures_printed n n (omega arith)

hex_printed : (d : ℕ) → d < 16 → Printed (Hex.letter d)
hex_printed d h = go (ltb d 10)
  where
    go : (b : Bool) → Printed (cond b (48 + d) (55 + d))
    go true = record { low = omega arith; high = omega arith }
    go false = record { low = omega arith; high = omega arith }

spelled_printed : (k n : ℕ) → All Printed (spelled k n)
unfolding spelled
spelled_printed zero n = tt
spelled_printed (suc k) n =
    all_append Printed (spelled k (n / 16)) (Hex.letter (n % 16) ∷ []) (spelled_printed k (n / 16)) (hex_printed (n % 16) (omega arith), tt)

-- ---- a float

pointed_printed : (n : ℕ) → All Printed (pointed n)
pointed_printed n =
    all_append Printed (whole (n / billion)) (46 ∷ digits 9 (n % billion)) (whole_printed (n / billion))
    (record { low = lit≤ tt; high = lit≤ tt }, digits_printed 9 (n % billion))

signed_printed : (s : Bool) (t : List ℕ) → All Printed t → All Printed (signed s t)
signed_printed true t h = (record { low = lit≤ tt; high = lit≤ tt }, h)
signed_printed false t h = h

decimal_printed : (x : Float) → All Printed (decimal x)
unfolding decimal
decimal_printed nan = run 16 asterisk
decimal_printed (inf s) = run 16 asterisk
decimal_printed (fin s m e) =
    let n = billionths m e in
    in_columns 16 (signed s (pointed n)) (signed_printed s (pointed n) (pointed_printed n))

-- ---- lines

module _ (place angle : ℕ) where
  -- a line before its line feed, column by column
  abbrev c6 : List ℕ
  c6 = columns 6 (whole place)

  abbrev c24 : List ℕ
  c24 = c6 ++ blanks 2 ++ spelled 16 angle

  abbrev c42 : List ℕ
  c42 = c24 ++ blanks 2 ++ decimal (of_bits binary64 angle)

  abbrev c64 : List ℕ
  c64 = c42 ++ blanks 22

  c24_printed : All Printed c24
  c24_printed =
      all_append Printed (c6 ++ blanks 2) (spelled 16 angle) (all_append Printed c6 (blanks 2) (in_columns 6 (whole place) (whole_printed place)) (run 2 blank))
      (spelled_printed 16 angle)

  c42_printed : All Printed c42
  c42_printed =
      all_append Printed (c24 ++ blanks 2) (decimal (of_bits binary64 angle)) (all_append Printed c24 (blanks 2) c24_printed (run 2 blank))
      (decimal_printed (of_bits binary64 angle))

  length_c64 : length c64 ≡ 64
  length_c64 = simp (length-append, length_columns 6 (whole place), length_spelled 16 angle, length_decimal (of_bits binary64 angle))

  line_then : {n : ℕ} (t : List ℕ) → InLines n t → InLines (suc n) (line place angle ++ t)
  unfolding line
  line_then t h = rw (append_assoc c64 (10 ∷ []) t) (more c64 t length_c64 (all_append Printed c42 (blanks 22) c42_printed (run 22 blank)) h)

lines_in : (place : ℕ) (angles : List ℕ) → InLines (length angles) (lines place angles)
unfolding lines
lines_in place [] = none
lines_in place (x ∷ xs) = line_then place x (lines (suc place) xs) (lines_in (suc place) xs)

module _ (name : List ℕ) (short : length name ≤ 64) (right : All Printed (map letter name)) where
  abbrev first : List ℕ
  first = map letter name ++ blanks (64 - length name)

  -- THEOREM: a page is its name's line and one for each of its angles, each of 64 characters and a line feed.
  pub page_in : (angles : List ℕ) (k : ℕ) → InLines (suc (length (on_page k angles))) (page name angles k)
  unfolding page name_line
  page_in angles k =
      let t = lines (suc (before_page k)) (on_page k angles) in
      rw (append_assoc first (10 ∷ []) t)
      (more first t (length_named name short) (all_append Printed (map letter name) (blanks (64 - length name)) right (run (64 - length name) blank))
      (lines_in (suc (before_page k)) (on_page k angles)))
