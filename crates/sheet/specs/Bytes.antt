-- Bytes and the numbers that they stand for, low byte first, and the floats of their bits. Definitions only.
use Rattle.std.specs.Prelude.{ℕ, zero, suc, ◌+◌, ◌*◌, ◌/◌, ◌%◌, List, [], ◌∷◌, ◌++◌, Bool, true, false, ◌&&◌, take, drop, replicate, eqb, Float}
use Rattle.std.specs.Float.{binary64}
use Rattle.std.specs.Float.Ieee.{of_bits}
use Rattle.float.specs.Number.{zero_float}

-- the number that bytes stand for
unfoldable pub little_endian : List ℕ → ℕ
little_endian [] = 0
little_endian (b ∷ bs) = b + 256 * little_endian bs

-- the k lowest bytes of a number
unfoldable pub bytes : ℕ → ℕ → List ℕ
bytes zero v = []
bytes (suc k) v = v % 256 ∷ bytes k (v / 256)

-- the k bytes from a position
abbrev pub part : ℕ → ℕ → List ℕ → List ℕ
part at k s = take k (drop at s)

-- the float whose eight bytes start at a position; every NaN pattern is the one NaN
abbrev pub float_at : List ℕ → ℕ → Float
float_at s at = of_bits binary64 (little_endian (part at 8 s))

-- the bytes of several 64-bit numbers, one after the other
unfoldable pub words_bytes : List ℕ → List ℕ
words_bytes [] = []
words_bytes (w ∷ ws) = bytes 8 w ++ words_bytes ws

-- the first n 64-bit numbers of bytes
unfoldable pub words : ℕ → List ℕ → List ℕ
words zero s = []
words (suc n) s = little_endian (take 8 s) ∷ words n (drop 8 s)

-- n times +0.0
abbrev pub zeros : ℕ → List Float
zeros n = replicate n zero_float

-- whether two runs of bytes are the same
unfoldable pub same_bytes : List ℕ → List ℕ → Bool
same_bytes [] [] = true
same_bytes [] (b ∷ bs) = false
same_bytes (a ∷ as') [] = false
same_bytes (a ∷ as') (b ∷ bs) = eqb a b && same_bytes as' bs
