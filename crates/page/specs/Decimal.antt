-- An angle in radians with nine decimals (02, change 4), over whole numbers. Definitions only.
use Rattle.std.specs.Prelude.{ℕ, ◌*◌, ◌/◌, ◌%◌, List, ◌∷◌, ◌++◌, replicate, ℤ, Float}
use Rattle.std.specs.Float.{nan, inf, fin}
use Rattle.std.specs.Float.Ieee.{up, down}
use Rattle.std.specs.Float.Ieee.Nearest.{closest}
use Rattle.digits.specs.Decimal.{digits, whole, signed, columns}

-- a billion
abbrev pub billion : ℕ
billion = 1000000000

-- n billionths: the digits before the point, at least one, the point, and nine after it
abbrev pub pointed : ℕ → List ℕ
pointed n = whole (n / billion) ++ (46 ∷ digits 9 (n % billion))

-- The billionths of a finite float's magnitude, which is m · up e / down e: the nearest whole number, of two as near the even one.
abbrev pub billionths : ℕ → ℤ → ℕ
billionths m e = closest (m * up e * billion) (down e)

-- Nine decimals, right-aligned in 16 columns. A float whose sign bit is set keeps its minus, also where it rounds to zero. One that is not finite, or too long
-- for its columns, shows 16 asterisks.
unfoldable pub decimal : Float → List ℕ
decimal nan = replicate 16 42
decimal (inf s) = replicate 16 42
decimal (fin s m e) = columns 16 (signed s (pointed (billionths m e)))
