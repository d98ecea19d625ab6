-- What `show_pages` prints (02, change 4), byte by byte: all pages of a sheet, a form feed between, or what `check_sheet` says of one that is refused.
-- Definitions only.
use Rattle.std.specs.Prelude.{ℕ, zero, suc, cond, List, [], ◌∷◌, ◌++◌, ltb, length}
use Rattle.sheet.specs.Edition.{newest}
use Rattle.sheet.specs.Refusals.{Answer, accepted, refused}
use Rattle.sheet.specs.Check.{listed}
use Rattle.sheet.specs.Check as Check
use Rattle.page.specs.Page.{pages}
use Rattle.page.specs.Operation.{text}
use Rattle.listing.specs.Listing.{places, most, too_long, head}

-- n pages from page k on, a form feed between
unfoldable pub pages_from : List ℕ → ℕ → ℕ → List ℕ
pages_from s k zero = []
pages_from s k (suc zero) = text s k
pages_from s k (suc (suc n)) = text s k ++ (12 ∷ pages_from s (suc k) (suc n))

abbrev pub all_pages : List ℕ → List ℕ
all_pages s = pages_from s 1 (pages (length (listed s)))

abbrev pub shown : Answer → List ℕ → List ℕ
shown (accepted n) s = all_pages s
shown (refused k) s = head (refused k)

unfoldable pub pages_text : List ℕ → List ℕ
pages_text s = cond (ltb most (length s)) too_long (shown (Check.answer newest s places) s)
