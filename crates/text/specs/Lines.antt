-- Lines of words: a mark, k times a space (32) and 16 digits, and a line's end (10). Definitions only.
use Rattle.std.specs.Prelude.{ℕ, zero, suc, ◌+◌, ◌-◌, ◌*◌, ◌/◌, ◌%◌, Bool, true, ◌&&◌, List, [], ◌∷◌, leb, eqb, length, get_or}
use Rattle.digits.specs.Hex.{digits, value}

-- Whether k words stand at `at`, a space before each.
unfoldable pub are_words : List ℕ → ℕ → ℕ → Bool
are_words s at zero = true
are_words s at (suc k) = are_words s at k && (eqb (get_or s (at + 17 * k) 0) 32 && digits s (at + 17 * k + 1) 16)

-- Whether a line of k words begins at `at`.
unfoldable pub is_line : List ℕ → ℕ → ℕ → Bool
is_line s at k =
    leb (at + 17 * k + 2) (length s) && (eqb (get_or s (at + 17 * k + 1) 0) 10 && are_words s (at + 1) k)

-- The n bytes from byte i on of words, eight to a word, whose digits stand 17 bytes apart from `at` on.
unfoldable pub bytes : List ℕ → ℕ → ℕ → ℕ → List ℕ
bytes s at i zero = []
bytes s at i (suc n) = value s (at + 17 * (i / 8) + 2 * (i % 8)) 2 ∷ bytes s at (suc i) n

-- How many words a line of its length has.
unfoldable pub count : List ℕ → ℕ
count line = (length line - 2) / 17

-- Whether the words of a line from number `first` on hold n bytes.
unfoldable pub fit : List ℕ → ℕ → ℕ → Bool
fit line first n = leb first (count line) && leb n (8 * (count line - first))
