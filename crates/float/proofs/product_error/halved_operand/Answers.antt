-- `float::product_error::halved_operand` meets its contract: the code's constants are 2 ^ 27 + 1 and 2 ^ -768.
use lib.Ieee.{of_bits}
use Rattle.float.specs.Promises.Halves.{halves}
use Rattle.float.proofs.product_error.halved_operand.Goals as goal

pub returns : goal.returns
unfolding halves of_bits
returns c = let d = c.dekker_split-high.ensures in λ i. record { whole = c.args.x; high = d.0 i; low = d.1 i; fine = c.within-fine.ensures i }
