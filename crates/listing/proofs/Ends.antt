-- What each way through the two programs' functions gives is the definition's text.
use Rattle.std.proofs.Common.{ℕ, ◌*◌, ◌/◌, ◌≤◌, ◌<◌, arith, ◌≡◌, sym, List, [], ◌++◌, length}
use Rattle.std.proofs.Common.{length-take-le, take, lt-ltb, le-ltb, refl, drop, leb, cond, Bool, true, false, Some, None}
use Rattle.std.proofs.lemmas.List.{take_at}
use Rattle.sheet.specs.Refusals.{accepted, refused}
use Rattle.sheet.specs.Sampling.{answer, sheet}
use Rattle.sheet.specs.Sheet.{sheet_size}
use Rattle.std.proofs.lemmas.List.Edits.{sets}
use Rattle.sheet.specs.Edition.{newest}
use Rattle.sheet.specs.Laws.Sampling.{length_sheet}
use Rattle.sheet.specs.Laws.Accepted.{answer_passed, answer_count}
use Rattle.sheet.specs.Laws.Demands.{checked_length}
use Rattle.sheet.specs.Check as Check
use Rattle.text.specs.Numbered.{numbered}
use Rattle.listing.specs.Listing.{places, most, accepted_word, refused_word, too_long, head, lines, check_text, make_error, filled, printed, after}
use Rattle.listing.proofs.Lines.{alone, lines_front, sets_filled}

-- ---- check_text
pub long_is : (s : List ℕ) → most < length s → check_text s ≡ too_long ++ lines [] 0 0
unfolding check_text lines
long_is s h = rw (lt-ltb most (length s) h)

-- the items that are listed stand in the sheet
pub count_fits : (s : List ℕ) (n : ℕ) → length s ≤ most → accepted n ≡ Check.answer newest s places → 8 * n ≤ length s
count_fits s n h e = omega (arith, checked_length newest s places n (sym e))

pub items_whole : (s : List ℕ) (n : ℕ) → length s ≤ most → accepted n ≡ Check.answer newest s places → 8 * n ≡ length (take (8 * n) s)
items_whole s n h e = sym (length-take-le (8 * n) s (count_fits s n h e))

pub accepted_is : (s : List ℕ) (n : ℕ) → length s ≤ most → accepted n ≡ Check.answer newest s places
    → check_text s ≡ numbered accepted_word n ++ lines (take (8 * n) s) 0 (length (take (8 * n) s) / 8)
unfolding check_text
accepted_is s n h e =
    let l : length (take (8 * n) s) / 8 ≡ n = omega (arith, items_whole s n h e) in
    rw (le-ltb most (length s) h, ← e, l, lines_front s n)

pub refused_is : (s : List ℕ) (k : ℕ) → length s ≤ most → refused k ≡ Check.answer newest s places → check_text s ≡ head (refused k)
unfolding check_text
refused_is s k h e = rw (le-ltb most (length s) h, ← e) (alone (head (refused k)) s)

-- what each of the three answers prints
pub ruleset checked_texts = (long_is, count_fits, items_whole, accepted_is, refused_is)

-- ---- make_text
pub sheet_whole : (r : List ℕ) (room n : ℕ) → answer r places room ≡ accepted n → length (sheet newest r) ≡ sheet_size newest n
sheet_whole r room n e = omega (arith, length_sheet newest r (answer_passed r places room n e).whole, answer_count r places room n e)

pub refused_filled : (r error : List ℕ) (room k : ℕ) → answer r places room ≡ refused k → length (numbered refused_word k) ≤ length error
    → filled (make_error r room) error ≡ sets error 0 (numbered refused_word k)
refused_filled r error room k e h = rw e (sym (sets_filled (numbered refused_word k) error h))

-- what was printed stands in front of what was lent
pub written_whole : (t old : List ℕ) (n : ℕ) → Some n ≡ printed t (length old) → take n (after t old) ≡ t
written_whole t old n e = go (leb (length t) (length old)) refl e
  where
    go : (b : Bool) → b ≡ leb (length t) (length old) → Some n ≡ cond b (Some (length t)) None → take n (cond b (t ++ drop (length t) old) old) ≡ t
    go true f g =
        let h : n ≡ length t = cc in
        rw h (take_at t (drop (length t) old) (length t) refl)
    go false f g = cc
