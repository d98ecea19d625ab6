-- What the operation answers at each return.
use Rattle.std.proofs.Common.{ℕ, ◌+◌, ◌*◌, ◌-◌, ◌≤◌, ◌<◌, ◌≡◌, ◌&&◌, ap, arith, ◌∙◌, Bool, true, false, List, length, leb, le-leb}
use Rattle.std.proofs.lemmas.Bool.{lt-leb}
use Rattle.std.proofs.lemmas.List.Edits.{sets}
use borrow.Rule.Slice.PartMut.{put_mid}
use Rattle.digits.specs.Laws.Stores.{overwritten}
use Rattle.sheet.specs.Edition.{newest}
use Rattle.sheet.specs.Refusals.{accepted, refused, need}
use Rattle.sheet.specs.Check as Check
use Rattle.page.specs.Page.{pages}
use Rattle.page.specs.Operation.{is_page, laid, text, answer}
use Rattle.page.specs.Promises.Sheets.{Paged, angles_on}
use Rattle.page.specs.Laws.Sheets.{listed_count, length_text}

module _ (s : List ℕ) (n k room : ℕ) (p : Paged s n) where
  -- whether there is such a page, of the sheet's own number of angles
  told : (b : Bool) → (leb 1 k && leb k (pages n)) ≡ b → is_page s k ≡ b
  told b e = ap (λ (m : ℕ). leb 1 k && leb k (pages m)) (listed_count s n p) ∙ e

  pub laid_none : (leb 1 k && leb k (pages n)) ≡ false → refused 43 ≡ laid s k room
  unfolding laid need
  laid_none e = rw (told false e)

  pub laid_short : (leb 1 k && leb k (pages n)) ≡ true → room < 65 + 65 * angles_on n k → refused 42 ≡ laid s k room
  unfolding laid need
  laid_short e h = rw (told true e, length_text s n p k, lt-leb (65 + 65 * angles_on n k) room h)

  pub laid_text : (leb 1 k && leb k (pages n)) ≡ true → 65 + 65 * angles_on n k ≤ room → accepted (65 + 65 * angles_on n k) ≡ laid s k room
  unfolding laid need
  laid_text e h = rw (told true e, length_text s n p k, le-leb (65 + 65 * angles_on n k) room h)

-- a page written over its own room
pub text_placed : (s : List ℕ) (n k : ℕ) → Paged s n → (l new : List ℕ) (at e : ℕ) → new ≡ text s k → e ≡ at + (65 + 65 * angles_on n k)
    → at + (65 + 65 * angles_on n k) ≤ length l → put_mid at (e - at) l new ≡ sets l at (text s k)
text_placed s n k p l new at e f g h =
    let d = length_text s n p k in
    overwritten (text s k) l new at (e - at) f (omega (arith, d, g)) (omega (arith, d, h))

module _ (s : List ℕ) (k room places : ℕ) where
  pub answer_checked : (n : ℕ) → accepted n ≡ Check.answer newest s places → laid s k room ≡ answer s k places room
  unfolding answer
  answer_checked n e = rw (← e)

  pub answer_refused : (f : ℕ) → refused f ≡ Check.answer newest s places → refused f ≡ answer s k places room
  unfolding answer
  answer_refused f e = rw (← e)
