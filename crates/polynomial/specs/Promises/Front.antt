-- A list in the first places of a lent slice. Definitions only.
use Rattle.std.specs.Prelude.{◌≡◌, ℕ, List, ◌++◌, length, drop, Float}

-- `count` values, those of l, stand in the first places of what was `before`, and behind them what stood there
abbrev pub Front : List Float → List Float → ℕ → List Float → Type 0
Front l before count after = (count ≡ length l) × (after ≡ l ++ drop count before)
