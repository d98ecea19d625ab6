-- Whole numbers in decimal, in ASCII, and text in columns. Definitions only.
use Rattle.std.specs.Prelude.{ℕ, zero, suc, ◌+◌, ◌-◌, ◌/◌, ◌%◌, Bool, true, false, cond, List, [], ◌∷◌, ◌++◌, leb, ltb, length, replicate}

-- 0 to 9 are 48 to 57
abbrev pub figure : ℕ → ℕ
figure d = 48 + d

-- the k lowest digits of a number, the highest first
unfoldable pub digits : ℕ → ℕ → List ℕ
digits zero n = []
digits (suc k) n = digits k (n / 10) ++ (figure (n % 10) ∷ [])

-- the digits of a number, the highest first, no zero in front; `most` is how often the lowest is split off at most, and n times is enough for n
unfoldable pub figures : ℕ → ℕ → List ℕ
figures zero n = figure n ∷ []
figures (suc most) n = let more = figures most (n / 10) ++ (figure (n % 10) ∷ []) in cond (ltb n 10) (figure n ∷ []) more

abbrev pub whole : ℕ → List ℕ
whole n = figures n n

-- a minus in front
abbrev pub signed : Bool → List ℕ → List ℕ
signed true t = 45 ∷ t
signed false t = t

abbrev pub blanks : ℕ → List ℕ
blanks k = replicate k 32

-- right-aligned in k columns, blanks before it; k asterisks where it is too long
abbrev pub columns : ℕ → List ℕ → List ℕ
columns k t = cond (leb (length t) k) (blanks (k - length t) ++ t) (replicate k 42)
