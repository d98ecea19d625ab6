-- Words of contracts about lists of floats: in the order of `total_cmp`, of the format, and what holds of every element. Definitions only.
use Rattle.std.specs.Prelude.{List, [], ◌∷◌, T, Float}
use Rattle.std.specs.Float.{binary64}
use Rattle.std.specs.Float.Ieee.{fits}
use Rattle.float.specs.Number.{total_le}

-- P holds of every element
abbrev pub All : {A : Type 0} → (A → Type 0) → List A → Type 0
All P [] = Unit {0}
All P (x ∷ l) = P x × All P l

-- l goes on in order from p
abbrev pub From : Float → List Float → Type 0
From p [] = Unit {0}
From p (y ∷ l) = T (total_le p y) × From y l

abbrev pub Sorted : List Float → Type 0
Sorted [] = Unit {0}
Sorted (x ∷ l) = From x l

-- every element is of the format
abbrev pub Fits : Float → Type 0
Fits x = T (fits binary64 x)

abbrev pub Fit : List Float → Type 0
Fit = All Fits
