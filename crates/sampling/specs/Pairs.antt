-- The order in which the boundary curves are taken, by their places 0, 1, .. in the list (02, change 3): by the later curve first, then the earlier.
-- (i, j) with i < j is a pair of curves, the earlier always the first operand; (j, j) is curve j's own tangency. Definitions only.
-- A curve more at the list's end only adds at the order's end.
use Rattle.std.specs.Prelude.{ℕ, zero, suc, List, [], ◌∷◌, ◌++◌}

-- (0, j), (1, j), .., (i - 1, j)
unfoldable pub earlier : ℕ → ℕ → List (ℕ × ℕ)
earlier zero j = []
earlier (suc i) j = earlier i j ++ ((i, j) ∷ [])

-- of n curves: for each curve j its own tangency, then (0, j) .. (j - 1, j)
unfoldable pub order : ℕ → List (ℕ × ℕ)
order zero = []
order (suc j) = order j ++ ((j, j) ∷ earlier j j)
