-- `float::product_error::dekker_split` meets its contract: the code's constant is 2 ^ 27 + 1.
use Rattle.std.proofs.Common.{refl}
use lib.Ieee.{of_bits}
use Rattle.float.proofs.product_error.dekker_split.Goals as goal

pub returns : goal.returns
unfolding of_bits
returns c = (refl, refl)
