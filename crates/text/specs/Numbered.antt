-- Lines with a number in decimal. Definitions only.
use Rattle.std.specs.Prelude.{ℕ, List, [], ◌∷◌, ◌++◌}
use Rattle.digits.specs.Decimal.{whole}

-- a word, a number and the line's end
abbrev pub numbered : List ℕ → ℕ → List ℕ
numbered word n = word ++ whole n ++ (10 ∷ [])
