-- Capital hexadecimal digits in ASCII, and the numbers that they spell. Definitions only.
use Rattle.std.specs.Prelude.{ℕ, zero, suc, ◌+◌, ◌*◌, ◌-◌, ◌/◌, ◌%◌, Bool, true, cond, ◌&&◌, ◌||◌, List, [], ◌∷◌, ◌++◌, leb, ltb, get_or}

-- 0 to 9 are 48 to 57, and A to F are 65 to 70.
abbrev pub is_digit : ℕ → Bool
is_digit b = (leb 48 b && leb b 57) || (leb 65 b && leb b 70)

-- The value of a digit, and 0 for any other byte.
unfoldable pub digit : ℕ → ℕ
digit b = cond (ltb b 48) 0 (cond (leb b 57) (b - 48) (cond (ltb b 65) 0 (cond (leb b 70) (b - 55) 0)))

-- Whether the n bytes of s at `at` are digits.
unfoldable pub digits : List ℕ → ℕ → ℕ → Bool
digits s at zero = true
digits s at (suc n) = digits s at n && is_digit (get_or s (at + n) 0)

-- The number that they stand for, the highest first.
unfoldable pub value : List ℕ → ℕ → ℕ → ℕ
value s at zero = 0
value s at (suc n) = value s at n * 16 + digit (get_or s (at + n) 0)

-- The digit of a value below 16.
abbrev pub letter : ℕ → ℕ
letter d = cond (ltb d 10) (48 + d) (55 + d)

-- The k lowest digits of a number, the highest first.
unfoldable pub spelled : ℕ → ℕ → List ℕ
spelled zero n = []
spelled (suc k) n = spelled k (n / 16) ++ (letter (n % 16) ∷ [])
