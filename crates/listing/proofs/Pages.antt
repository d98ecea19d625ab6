-- Pages stored one after the other, a form feed between, are those of the definition; what each way through `pages_text` gives is the definition's text.
use Rattle.std.proofs.Common.{ℕ, suc, ◌+◌, ◌*◌, ◌-◌, ◌≤◌, ◌<◌, arith, ◌≡◌, sym, ap, ◌∙◌, List, [], ◌∷◌, ◌++◌, length, set, take, drop, lt-ltb, le-ltb}
use Rattle.std.proofs.Common.{append_assoc, length-append, length-drop}
use Rattle.std.proofs.lemmas.List.{append-nil, drop_all, length-take}
use Rattle.std.proofs.Math.Seq.{take-suc-set}
use Rattle.std.proofs.lemmas.Slice.{take-put_mid}
use borrow.Rule.Slice.PartMut.{put_mid}
use Rattle.sheet.specs.Edition.{newest}
use Rattle.sheet.specs.Refusals.{accepted, refused}
use Rattle.sheet.specs.Check as Check
use Rattle.page.specs.Page.{pages}
use Rattle.page.specs.Operation.{text}
use Rattle.page.specs.Promises.Sheets.{Paged}
use Rattle.page.specs.Laws.Sheets.{listed_count}
use Rattle.listing.specs.Listing.{places, most, too_long, head, lines}
use Rattle.listing.specs.Pages.{pages_from, all_pages, pages_text}
use Rattle.listing.specs.Laws.Pages.{full_page}

module _ (s : List ℕ) (n : ℕ) (p : Paged s n) where
  -- a turn writes the first of the pages that are left, and the form feed behind it
  pub pages_turn : (out page : List ℕ) (k last : ℕ) → 1 ≤ k → k < last → last ≡ pages n → 3966 * k ≤ length out → page ≡ text s k
      → take (3966 * (k + 1 - 1)) (set (put_mid (3966 * (k - 1)) (3966 * (k - 1) + 3965 - 3966 * (k - 1)) out page) (3966 * (k - 1) + 3965) 12)
      ++ pages_from s (k + 1) (suc (last - (k + 1)))
      ≡ take (3966 * (k - 1)) out ++ pages_from s k (suc (last - k))
  unfolding pages_from
  pages_turn out page k last l h e r g =
      let at = 3966 * (k - 1) in
      let rest = pages_from s (suc k) (suc (last - suc k)) in
      let with_page = put_mid at (at + 3965 - at) out page in
      let f : last - k ≡ suc (last - suc k) = omega arith in
      let z : k + 1 ≡ suc k = omega arith in
      let y : 3966 * (suc k - 1) ≡ suc (at + 3965) = omega arith in
      let long : length page ≡ 3965 = rw g (full_page s n p k l (omega arith)) in
      let w : at + 3965 < length with_page = simp (length-append, length-take, length-drop) (omega arith) in
      rw (
        z,
        y,
        take-suc-set with_page (at + 3965) 12 w,
        take-put_mid at (at + 3965 - at) out page (at + 3965) (omega arith) (omega arith),
        f,
        g,
      )
      (append_assoc (take at out ++ text s k) (12 ∷ []) rest ∙ append_assoc (take at out) (text s k) (12 ∷ rest))

  -- the last one
  pub pages_done : (out page : List ℕ) (k last : ℕ) → last ≡ pages n → length out ≡ 65 * (n + pages n) + (pages n - 1) → page ≡ text s last
      → last ≤ k → k ≤ last
      → put_mid (3966 * (last - 1)) (length out - 3966 * (last - 1)) out page ≡ take (3966 * (k - 1)) out ++ pages_from s k (suc (last - k))
  unfolding pages_from
  pages_done out page k last d o g h l =
      let b = 3966 * (last - 1) in
      let e : k ≡ last = omega arith in
      let f : last - last ≡ 0 = omega arith in
      rw (e, f, drop_all (length out - b) (drop b out) (simp length-drop (omega arith)), append-nil page, g)

  pub pages_all : (last : ℕ) → last ≡ pages n → pages_from s 1 (suc (last - 1)) ≡ all_pages s
  pages_all last e =
      let f : suc (last - 1) ≡ pages n = omega arith in
      ap (λ (k : ℕ). pages_from s 1 k) (f ∙ ap pages (sym (listed_count s n p)))

-- ---- pages_text

pub too_long_is : (s : List ℕ) → most < length s → pages_text s ≡ too_long ++ lines [] 0 0
unfolding pages_text lines
too_long_is s h = rw (lt-ltb most (length s) h)

pub shown_is : (s : List ℕ) (n : ℕ) → length s ≤ most → accepted n ≡ Check.answer newest s places → pages_text s ≡ all_pages s
unfolding pages_text
shown_is s n h e = rw (le-ltb most (length s) h, ← e)

pub refused_is : (s : List ℕ) (k : ℕ) → length s ≤ most → refused k ≡ Check.answer newest s places → pages_text s ≡ head (refused k)
unfolding pages_text
refused_is s k h e = rw (le-ltb most (length s) h, ← e)
