-- What is known of a checked sheet.
use Rattle.std.specs.Prelude.{ℕ, ◌+◌, ◌*◌, ◌-◌, ◌≤◌, ◌<◌, min, ◌≡◌, List, length}
use Rattle.sheet.specs.Bytes.{part}
use Rattle.sheet.specs.Request.{core_size, name_at, name_size}
use Rattle.sheet.specs.Sheet.{trailer_size}
use Rattle.sheet.specs.Check.{count_of}
use Rattle.page.specs.Page.{per_page, before_page}
use Rattle.page.specs.Operation.{name_of}

-- the sheet's own n, its places in six columns, and where its name stands
pub record Paged (s : List ℕ) (n : ℕ) : Type 0 where
  pub count : n ≡ count_of s
  pub few : n < 1000000
  pub least : 8 * n + (core_size + trailer_size) ≤ length s
  pub name : part (8 * n + name_at) (length s - trailer_size - (8 * n + name_at)) s ≡ name_of s
  pub short : length s - trailer_size - (8 * n + name_at) ≤ name_size

-- how many of n angles stand on page k
abbrev pub angles_on : ℕ → ℕ → ℕ
angles_on n k = min per_page (n - before_page k)
