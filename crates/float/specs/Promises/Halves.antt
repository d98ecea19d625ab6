-- Dekker's halves of an operand, and the range in which they serve it. Definitions only.
use Rattle.std.specs.Prelude.{◌≡◌, Bool, true, false, cond, pos, negsuc, Float}
use Rattle.std.specs.Float.{fin}
use Rattle.std.specs.Float.Ieee.{neg, lt, le, eq}
use Rattle.float.specs.Number.{◌⊖◌, ◌⊗◌, zero_float}
use Rattle.float.specs.declared.product_error.HalvedOperand.{HalvedOperand}

-- 2 ^ 400, and the least magnitudes, 2 ^ -200 and 2 ^ -768: of an operand, and of one in its halves
abbrev pub most : Float
most = fin false 1 (pos 400)

abbrev pub least : Float
least = fin false 1 (negsuc 199)

abbrev pub least_halved : Float
least_halved = fin false 1 (negsuc 767)

-- Whether Dekker's halves serve an operand: it is zero, or from `low` to 2 ^ 400 in magnitude. `sized` tests a magnitude.
unfoldable pub sized : Float → Float → Bool
sized low m = cond (le m most) (cond (le low m) true (eq m zero_float)) false

unfoldable pub in_range : Float → Float → Bool
unfolding sized
in_range low x = cond (lt x zero_float) (sized low (neg x)) (sized low x)

-- The halves of an operand, by Dekker's split at 2 ^ 27 + 1.
abbrev pub splitter : Float
splitter = fin false 134217729 (pos 0)

abbrev pub high_half : Float → Float
high_half x = splitter ⊗ x ⊖ (splitter ⊗ x ⊖ x)

abbrev pub low_half : Float → Float
low_half x = x ⊖ high_half x

-- the halves of any operand, and whether they serve it: for one that meets many others
unfoldable pub halves : Float → HalvedOperand
halves x = record { whole = x; high = high_half x; low = low_half x; fine = in_range least_halved x }

-- these are the halves of `whole`, and they serve it
pub record Halved (whole high low : Float) : Type 0 where
  pub high_is : high ≡ high_half whole
  pub low_is : low ≡ low_half whole
  pub serve : in_range least_halved whole ≡ true
