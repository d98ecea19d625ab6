-- The slices of kind 3 one at a time: what is still to come at a cursor, and what a step is. Nothing that a public contract says;
-- `Laws.Slices` has that all of it is `slices`, and `Laws.Step` that a step gives the first of what is to come.
use Rattle.std.specs.Prelude.{Option, Some, None, ◌≡◌, ℕ, zero, suc, ◌+◌, ◌-◌, Bool, true, false}
use Rattle.std.specs.Prelude.{not, ◌&&◌, cond, List, [], ◌∷◌, ◌++◌, length, get_or, drop, T, Float}
use Rattle.std.specs.Float.{nan}
use Rattle.std.specs.Float.Ieee.{is_nan, ne}
use Rattle.float.specs.Number.{middle, total_le}
use Rattle.polynomial.specs.Cuts.{sort, rest}
use Rattle.polynomial.specs.Promises.Lists.{Sorted, Fit, All}
use Rattle.sampling.specs.declared.stream.Cursor.{Cursor}

-- a value and the cursor behind it, or the end
abbrev pub Step : Type 0
Step = Option (Float × Cursor)

-- a list with the middle of each two neighbours between them
unfoldable pub weave : List Float → List Float
weave [] = []
weave (x ∷ []) = x ∷ []
weave (x ∷ (y ∷ l)) = x ∷ middle x y ∷ weave (y ∷ l)

-- the reference, while it is still to come
abbrev pub pending : Bool → Float → List Float
pending true r = []
pending false r = r ∷ []

-- what is still to come at a cursor, in order: of both lists with their middles, and the reference
unfoldable pub stream : List Float → List Float → Float → Cursor → List Float
stream a b r c = sort (drop c.i (weave a) ++ (drop c.j (weave b) ++ pending c.used r))

-- the same with no value twice, and none that equals the last one that came
unfoldable pub distinct : List Float → List Float → Float → Cursor → List Float
distinct a b r c = rest c.last (stream a b r c)

-- where it starts: nothing equals a NaN
abbrev pub start : Cursor
start = record { i = 0; j = 0; used = false; last = nan }

-- a step from what was to come, s: its first value, which is a number, with what is to come at the cursor behind it; or the end
abbrev pub Steps : List Float → (Cursor → List Float) → Step → Type 0
Steps s f None = s ≡ []
Steps s f (Some (y, c)) = (s ≡ y ∷ f c) × T (not (is_nan y))

-- what is asked of a list: it fits, with its middles it is in order, and all are numbers
pub record Woven (l : List Float) : Type 0 where
  pub fit : Fit l
  pub order : Sorted (weave l)
  pub numbers : All (λ x. T (not (is_nan x))) (weave l)

-- ---- a step

-- a value, or the end where it is a NaN
abbrev pub yielded : Float → Cursor → Step
yielded y c = cond (is_nan y) None (Some (y, c))

-- the least of x, y and z, which the lists and the reference have next; a NaN comes last
unfoldable pub least : Float → Float → Float → Cursor → Step
least x y z c =
    cond (total_le x y && total_le x z) (yielded x (record { i = c.i + 1; j = c.j; used = c.used; last = c.last }))
    (cond (total_le y z) (yielded y (record { i = c.i; j = c.j + 1; used = c.used; last = c.last }))
    (yielded z (record { i = c.i; j = c.j; used = true; last = c.last })))

unfoldable pub advance : List Float → List Float → Float → Cursor → Step
advance a b r c = least (get_or (weave a) c.i nan) (get_or (weave b) c.j nan) (cond c.used nan r) c

abbrev pub on_step : Step → (Float → Cursor → Step) → Step
on_step None f = None
on_step (Some (y, c)) f = f y c

-- the first of at most n values that does not equal the last one
unfoldable pub next_of : ℕ → List Float → List Float → Float → Float → Cursor → Step
next_of zero a b r last c = None
next_of (suc n) a b r last c =
    on_step (advance a b r c) (λ y d. cond (ne y last) (Some (y, record { i = d.i; j = d.j; used = d.used; last = y })) (next_of n a b r last d))

-- how many values are still to come, each as often as it comes
unfoldable pub left : List Float → List Float → Cursor → ℕ
left a b c = (length (weave a) - c.i) + (length (weave b) - c.j) + cond c.used 0 1

unfoldable pub next : List Float → List Float → Float → Cursor → Step
next a b r c = next_of (suc (left a b c)) a b r c.last c
