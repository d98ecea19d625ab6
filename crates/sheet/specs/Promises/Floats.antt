-- The bytes of floats, as they are written and compared one after the other. Definitions only; `floats-words` of Laws/Bytes joins them to `words-bytes`.
use Rattle.std.specs.Prelude.{ℕ, List, [], ◌∷◌, ◌++◌, Float}
use Rattle.std.specs.Float.{binary64}
use Rattle.std.specs.Float.Ieee.{to_bits}
use Rattle.sheet.specs.Bytes.{bytes}

-- the eight bytes of a float; the NaN is 7FF8000000000000
abbrev pub float_bytes : Float → List ℕ
float_bytes x = bytes 8 (to_bits binary64 x)

unfoldable pub floats_bytes : List Float → List ℕ
floats_bytes [] = []
floats_bytes (x ∷ xs) = float_bytes x ++ floats_bytes xs
