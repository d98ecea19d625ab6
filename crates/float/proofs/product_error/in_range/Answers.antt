-- `float::product_error::in_range` meets its contract: the code's constant is 2 ^ -200.
use lib.Ieee.{of_bits}
use Rattle.float.proofs.product_error.in_range.Goals as goal

pub returns : goal.returns
unfolding of_bits
returns c = c.within.ensures
