-- The 16 columns of a float: what is laid out below the limit and from it on, their number, and which floats show their digits.
use Rattle.std.specs.Prelude.{ℕ, ◌*◌, ◌-◌, ◌/◌, ◌%◌, ◌≤◌, ◌<◌, ◌≡◌, refl, Bool, true, false, List, ◌∷◌, ◌++◌, pos, Float, length, replicate}
use Rattle.std.proofs.Common.{arith, append_assoc, lit<, length-append, le-leb}
use Rattle.std.specs.Float.{nan, inf, fin}
use Rattle.std.specs.Float.Ieee.{up, down}
use Rattle.std.specs.Float.Ieee.Nearest.{closest_mono}
use Rattle.std.specs.Float.Ieee.Fits.{down_pos}
use Rattle.std.proofs.lemmas.Bool.{lt-leb}
use Rattle.float.specs.Promises.Order.{Within}
use Rattle.digits.specs.Decimal.{digits, whole, signed, columns}
use Rattle.digits.specs.Laws.Lengths.{length_digits, whole_short, whole_long}
use Rattle.digits.specs.Laws.Columns.{signed_append, number_is, length_columns}
use Rattle.page.specs.Decimal.{billion, pointed, billionths, decimal}
use Rattle.page.specs.Promises.Decimal.{laid, limit}

-- ---- 16 columns, of which the last 10 are the point and nine digits
columns_fit : (t u : List ℕ) → length u ≡ 10 → length t ≤ 6 → (replicate (6 - length t) 32 ++ t) ++ u ≡ columns 16 (t ++ u)
columns_fit t u e h =
    let l : length (t ++ u) ≤ 16 = rw (length-append, e) (omega arith) in
    let m : 16 - length (t ++ u) ≡ 6 - length t = rw (length-append, e) (omega arith) in
    rw (le-leb (length (t ++ u)) 16 l, m) (append_assoc (replicate (6 - length t) 32) t u)

columns_over : (t u : List ℕ) → length u ≡ 10 → 6 < length t → replicate 16 42 ≡ columns 16 (t ++ u)
columns_over t u e h =
    let l : 16 < length (t ++ u) = rw (length-append, e) (omega arith) in
    rw (lt-leb (length (t ++ u)) 16 l)

-- the point and nine digits
abbrev after : ℕ → List ℕ
after n = 46 ∷ digits 9 (n % billion)

length_after : (n : ℕ) → length (after n) ≡ 10
length_after n = rw (length_digits 9 (n % billion))

fits : (s : Bool) (n : ℕ) → n < limit s → length (signed s (whole (n / billion))) ≤ 6
fits true n h = let w : length (whole (n / billion)) ≤ 5 = whole_short (n / billion) 4 (omega arith) in omega arith
fits false n h = whole_short (n / billion) 5 (omega arith)

over : (s : Bool) (n : ℕ) → limit s ≤ n → 6 < length (signed s (whole (n / billion)))
over true n h = let w : 5 < length (whole (n / billion)) = whole_long (n / billion) 5 (omega arith) in omega arith
over false n h = whole_long (n / billion) 6 (omega arith)

-- what is laid out, below the limit
pub laid_is : (s : Bool) (n : ℕ) → n < limit s → laid s n ≡ columns 16 (signed s (pointed n))
laid_is s n h =
    rw (number_is (n / billion) (n / billion) 5 s (omega arith) (fits s n h), signed_append s (whole (n / billion)) (after n))
    (columns_fit (signed s (whole (n / billion))) (after n) (length_after n) (fits s n h))

-- and from it on
pub too_long : (s : Bool) (n : ℕ) → limit s ≤ n → replicate 16 42 ≡ columns 16 (signed s (pointed n))
too_long s n h =
    rw (signed_append s (whole (n / billion)) (after n))
    (columns_over (signed s (whole (n / billion))) (after n) (length_after n) (over s n h))

-- ---- so many they always are
pub length_decimal : (x : Float) → length (decimal x) ≡ 16
unfolding decimal
length_decimal nan = refl
length_decimal (inf s) = refl
length_decimal (fin s m e) = length_columns 16 (signed s (pointed (billionths m e)))

-- ---- no asterisks
-- a float whose digits are shown
abbrev pub Shown : Float → Type 0
Shown nan = ⊥
Shown (inf s) = ⊥
Shown (fin s m e) = let t = signed s (pointed (billionths m e)) in decimal (fin s m e) ≡ replicate (16 - length t) 32 ++ t

-- so is every one up to 99,999 in magnitude, of either sign
pub within_shown : (x : Float) → Within (fin false 99999 (pos 0)) x → Shown x
unfolding decimal
within_shown nan w = absurd w.real
within_shown (inf s) w = absurd w.real
within_shown (fin s m e) w =
    let n = billionths m e in
    let most : n ≤ 99999000000000 = closest_mono (m * up e * 1000000000) (down e) 99999000000000 1 (down_pos e) (lit< tt) (omega (arith, w.size)) in
    let l : length (signed s (pointed n)) ≤ 16 =
    rw (signed_append s (whole (n / billion)) (after n), length-append, length_after n) (omega (arith, fits s n (below s n most))) in
    rw (le-leb (length (signed s (pointed n))) 16 l)
  where
    below : (s : Bool) (n : ℕ) → n ≤ 99999000000000 → n < limit s
    below true n h = omega arith
    below false n h = omega arith
