-- What `insert` answers and what it leaves, for a list of cuts that stands in the first n places of w.
use Rattle.std.specs.Prelude.{Option, Some, None, Bool, true, false, not, ◌||◌, cond, List, ◌++◌, ℕ, ◌<◌, ◌≤◌, ◌≡◌, leb, length, take, drop, get_or, Float}
use Rattle.std.specs.Float.{nan}
use Rattle.std.specs.Float.Ieee.{eq}
use Rattle.float.specs.Number.{total_le}
use Rattle.polynomial.specs.Cuts.{put}

-- in a list of cuts, v goes past w: `put` keeps w, and looks on behind it
unfoldable pub passed : Float → Float → Bool
passed v w = not (total_le v w || eq v w)

-- the list with v in it
abbrev pub grown : List Float → ℕ → Float → List Float
grown w n v = put v (take n w)

-- the list's new length, or None where w has too few places for it
abbrev pub put_answer : List Float → ℕ → Float → Option ℕ
put_answer w n v = cond (leb (length (grown w n v)) (length w)) (Some (length (grown w n v))) None

-- w with the new list in front, or w itself
abbrev pub put_room : List Float → ℕ → Float → List Float
put_room w n v = cond (leb (length (grown w n v)) (length w)) (grown w n v ++ drop (length (grown w n v)) w) w

-- the same for a list that may have found too few places before: it stays None, and w as it is
abbrev pub push_answer : List Float → Option ℕ → Float → Option ℕ
push_answer w (Some n) v = put_answer w n v
push_answer w None v = None

abbrev pub push_room : List Float → Option ℕ → Float → List Float
push_room w (Some n) v = put_room w n v
push_room w None v = w

-- the list's length is within the room
abbrev pub Within : List Float → Option ℕ → Type 0
Within w (Some n) = n ≤ length w
Within w None = Unit {0}

-- r is the first place that v does not go past, or the length of l
pub record Found (l : List Float) (v : Float) (r : ℕ) : Type 0 where
  pub within : r ≤ length l
  pub before : (k : ℕ) → k < r → passed v (get_or l k nan) ≡ true
  pub stops : r < length l → passed v (get_or l r nan) ≡ false
