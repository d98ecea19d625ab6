-- A float in billionths, as the code works it out and writes it.
use Rattle.std.specs.Prelude.{ℕ, ◌/◌, ◌%◌, ◌≤◌, ◌≡◌, Bool, true, false, List, ◌∷◌, ◌++◌, Float}
use Rattle.std.specs.Float.{nan, inf, fin}
use Rattle.digits.specs.Decimal.{digits}
use Rattle.digits.specs.Promises.Columns.{number}
use Rattle.page.specs.Decimal.{billion, billionths}

-- |x| has n billionths, rounded, and x is negative where s is true
abbrev pub Billionths : Float → Bool → ℕ → Type 0
Billionths nan s n = ⊥
Billionths (inf t) s n = ⊥
Billionths (fin t m e) s n = (s ≡ t) × (n ≡ billionths m e)

-- |x| has 10 ^ 15 billionths or more, which are too many whatever the sign
abbrev pub Beyond : Float → Type 0
Beyond nan = ⊥
Beyond (inf t) = ⊥
Beyond (fin t m e) = 1000000000000000 ≤ billionths m e

-- n billionths in 16 columns, if they fit
abbrev pub laid : Bool → ℕ → List ℕ
laid s n = number 5 s (n / billion) ++ (46 ∷ digits 9 (n % billion))

-- how many billionths do not fit
abbrev pub limit : Bool → ℕ
limit true = 100000000000000
limit false = 1000000000000000
