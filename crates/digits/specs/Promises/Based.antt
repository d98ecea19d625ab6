-- What the code writes of a number in any base up to 16: its digits in that base.
use Rattle.std.specs.Prelude.{ℕ, zero, suc, ◌/◌, ◌%◌, List, [], ◌∷◌, ◌++◌}
use Rattle.digits.specs.Hex.{letter}

-- the k lowest digits, the highest first
unfoldable pub digits : ℕ → ℕ → ℕ → List ℕ
digits base zero n = []
digits base (suc k) n = digits base k (n / base) ++ (letter (n % base) ∷ [])
