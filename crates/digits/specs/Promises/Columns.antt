-- What the code writes from the right: digits, a minus, blanks.
use Rattle.std.specs.Prelude.{ℕ, zero, suc, ◌/◌, ◌%◌, Bool, cond, ◌&&◌, List, [], ◌∷◌, ◌++◌, ltb}
use Rattle.digits.specs.Decimal.{figure}

-- the byte before digits that are left, and none: a digit, else a minus, else a blank
unfoldable pub mark : Bool → ℕ → ℕ
mark s n = cond (ltb 0 n) (figure (n % 10)) (cond s 45 32)

-- k columns, from the right: the digits of n, a minus if s is true, blanks
unfoldable pub before : ℕ → Bool → ℕ → List ℕ
before zero s n = []
before (suc k) s n = before k (s && ltb 0 n) (n / 10) ++ (mark s n ∷ [])

-- the same with at least one digit
abbrev pub number : ℕ → Bool → ℕ → List ℕ
number k s n = before k s (n / 10) ++ (figure (n % 10) ∷ [])
