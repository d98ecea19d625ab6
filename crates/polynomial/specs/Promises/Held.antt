-- A list of cuts that grows in a lent slice: what stands there, whether or not there are
-- places. Definitions only; `Laws.Held` has what a loop around `insert` keeps.
use Rattle.std.specs.Prelude.{Option, Some, None, ◌≡◌, cond, List, ◌++◌, ℕ, ◌≤◌, leb, length, drop, Float}
use Rattle.polynomial.specs.Cuts.{cuts}

-- the number of cuts of l, or None where there are fewer places
abbrev pub cut_answer : List Float → ℕ → Option ℕ
cut_answer l places = cond (leb (length (cuts l)) places) (Some (length (cuts l))) None

-- the first n places of r hold the cuts of l, and the others are as in r₀
pub record Held (l r₀ r : List Float) (n : ℕ) : Type 0 where
  pub count : n ≡ length (cuts l)
  pub within : n ≤ length r₀
  pub list : r ≡ cuts l ++ drop n r₀

-- p is the number of cuts of l, or None where r₀ has fewer places; in the first case r holds them
pub record Kept (l r₀ r : List Float) (p : Option ℕ) : Type 0 where
  pub answer_is : p ≡ cut_answer l (length r₀)
  pub same : length r ≡ length r₀
  pub held : (n : ℕ) → p ≡ Some n → Held l r₀ r n
