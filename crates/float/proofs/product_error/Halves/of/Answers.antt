-- `float::product_error::Halves::of` meets its contract: the code's constants are 2 ^ 27 + 1 and 2 ^ -768.
use Rattle.std.proofs.Common.{sym, ◌∙◌}
use lib.Ieee.{of_bits}
use Rattle.float.proofs.product_error.Halves.of.Goals as goal

pub returns-then-not-within-clause-served : goal.returns-then-not-within-clause-served
unfolding of_bits
returns-then-not-within-clause-served c = sym c.if-not-within.true ∙ c.within.ensures

pub returns-clause-served : goal.returns-clause-served
unfolding of_bits
returns-clause-served c = sym c.if-not-within.false ∙ c.within.ensures

pub invariant_of-result : goal.invariant_of-result
unfolding of_bits
invariant_of-result c =
    let d = c.dekker_split-high.ensures in
    record { halved = record { high_is = d.0; low_is = d.1; serve = sym c.within.ensures ∙ c.if-not-within.false } }
