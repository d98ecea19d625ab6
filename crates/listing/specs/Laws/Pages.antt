-- How long the pages of a checked sheet are, and that what `show_pages` prints has at most 540,672 bytes, which the program lends.
use Rattle.std.proofs.Common.{add-zero, sym, ap, ◌∙◌, lit≤, length-append, ltb-false, ℕ, zero, suc, ◌+◌, ◌*◌, ◌-◌, ◌≤◌, ◌<◌, arith}
use Rattle.std.specs.Prelude.{◌≡◌, refl, Bool, true, false, cond, List, ltb, length}
use Rattle.sheet.specs.Edition.{newest}
use Rattle.sheet.specs.Refusals.{Answer, accepted, refused}
use Rattle.sheet.specs.Demands.{of_check, Among}
use Rattle.sheet.specs.Laws.Demands.{answers, checked_length}
use Rattle.sheet.specs.Check.{listed}
use Rattle.sheet.specs.Check as Check
use Rattle.page.specs.Page.{pages}
use Rattle.page.specs.Operation.{text}
use Rattle.page.specs.Promises.Sheets.{Paged}
use Rattle.page.specs.Laws.Sheets.{listed_count, length_text, paged}
use Rattle.listing.specs.Listing.{places, most, too_long}
use Rattle.listing.specs.Pages.{pages_from, all_pages, shown, pages_text}
use Rattle.listing.specs.Laws.Room.{length_refusal}

module _ (s : List ℕ) (n : ℕ) (p : Paged s n) where
  -- a page that is not the last is full
  pub full_page : (k : ℕ) → 1 ≤ k → k < pages n → length (text s k) ≡ 3965
  full_page k l h = length_text s n p k ∙ omega arith

  length_from : (m k : ℕ) → 1 ≤ k → k + m ≡ pages n → length (pages_from s k (suc m)) ≡ 3966 * m + length (text s (k + m))
  unfolding pages_from
  length_from zero k l e = rw (add-zero k) (omega arith)
  length_from (suc m) k l e =
      let f : suc k + m ≡ k + suc m = omega arith in
      rw (length-append, full_page k l (omega arith), length_from m (suc k) (omega arith) (f ∙ e), f) (omega arith)

  -- all pages, with a form feed between two
  pub length_all : length (all_pages s) ≡ 65 * (n + pages n) + (pages n - 1)
  length_all =
      let e : pages n ≡ suc (pages n - 1) = omega arith in
      let f : 1 + (pages n - 1) ≡ pages n = omega arith in
      let c : pages (length (listed s)) ≡ pages n = ap pages (listed_count s n p) in
      ap (λ (k : ℕ). length (pages_from s 1 k)) (c ∙ e) ∙ length_from (pages n - 1) 1 (lit≤ tt) f
      ∙ rw (f, length_text s n p (pages n)) (omega arith)

length_shown : (s : List ℕ) (a : Answer) → length s ≤ most → a ≡ Check.answer newest s places → Among of_check a → length (shown a s) ≤ 540672
length_shown s (accepted n) h e g =
    let p = paged s places n (sym e) in
    let l = checked_length newest s places n (sym e) in
    rw (length_all s n p) (omega arith)
length_shown s (refused k) h e g = omega (arith, length_refusal k g)

pub pages_suffice : (s : List ℕ) → length (pages_text s) ≤ 540672
unfolding pages_text
pages_suffice s = go (ltb most (length s)) refl
  where
    go : (b : Bool) → b ≡ ltb most (length s) → length (cond b too_long (shown (Check.answer newest s places) s)) ≤ 540672
    go true e = lit≤ tt
    go false e = length_shown s (Check.answer newest s places) (ltb-false most (length s) (sym e)) refl (answers.check newest s places)
