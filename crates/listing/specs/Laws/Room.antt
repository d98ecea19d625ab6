-- What `check_sheet` prints has at most 147,456 bytes, which the program lends.
use Rattle.std.specs.Prelude.{ℕ, zero, suc, ◌*◌, ◌≤◌, ◌≡◌, refl, Bool, true, false, cond, List, T, Some, None, leb, ltb, length}
use Rattle.std.proofs.Common.{arith, sym, lit≤, length-append, leb-true, ltb-false}
use Rattle.std.specs.Float.Ieee.Bits.{is_true}
use Rattle.std.specs.Float.Ieee.Fits.{and_r}
use Rattle.sheet.specs.Edition.{newest}
use Rattle.sheet.specs.Refusals.{Answer, accepted, refused}
use Rattle.sheet.specs.Demands.{of_check, Among}
use Rattle.sheet.specs.Laws.Demands.{answers, checked_length}
use Rattle.sheet.specs.Check as Check
use Rattle.digits.specs.Laws.Lengths.{length_spelled, whole_short}
use Rattle.listing.specs.Listing.{places, most, too_long, head, item, lines, report, check_text, printed}

pub length_lines : (s : List ℕ) (i n : ℕ) → length (lines s i n) ≡ 17 * n
unfolding lines
length_lines s i zero = refl
length_lines s i (suc n) = simp (length-append, length_spelled 16 (item s i), length_lines s (suc i) n) (omega arith)

-- ---- the text
-- a refusal's line
pub length_refusal : (k : ℕ) → T (of_check k) → length (head (refused k)) ≤ 11
length_refusal k g =
    let l = leb-true k 36 (is_true (leb k 36) (and_r (leb 31 k) (leb k 36) g)) in
    simp length-append (omega (arith, whole_short k 1 (omega arith)))

length_report : (s : List ℕ) (a : Answer) → length s ≤ most → a ≡ Check.answer newest s places → Among of_check a → length (report a s) ≤ 147456
length_report s (accepted n) h e g =
    let l = checked_length newest s places n (sym e) in
    simp length-append (omega (arith, whole_short n 3 (omega arith), length_lines s 0 n))
length_report s (refused k) h e g = rw length-append (omega (arith, length_refusal k g, length_lines s 0 0))

pub room_suffices : (s : List ℕ) → length (check_text s) ≤ 147456
unfolding check_text
room_suffices s = go (ltb most (length s)) refl
  where
    go : (b : Bool) → b ≡ ltb most (length s) → length (cond b too_long (report (Check.answer newest s places) s)) ≤ 147456
    go true e = lit≤ tt
    go false e = length_report s (Check.answer newest s places) (ltb-false most (length s) (sym e)) refl (answers.check newest s places)

-- what is counted was lent
pub printed_within : (t : List ℕ) (room n : ℕ) → Some n ≡ printed t room → n ≤ room
printed_within t room n e = go (leb (length t) room) refl e
  where
    go : (b : Bool) → b ≡ leb (length t) room → Some n ≡ cond b (Some (length t)) None → n ≤ room
    go true f g =
        let h : n ≡ length t = cc in
        omega (arith, leb-true (length t) room (sym f))
    go false f g = let z : ◌≡◌ {A = ℕ} 0 1 = cc in omega arith
