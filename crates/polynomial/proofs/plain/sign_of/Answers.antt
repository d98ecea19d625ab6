-- `polynomial::plain::sign_of` meets its contract: at each return, what the tests on the way to it say.
use lib.Ieee.{of_bits}
use Rattle.polynomial.specs.Promises.Plain.{sign_if_sure}
use Rattle.polynomial.proofs.plain.sign_of.Goals as goal

pub returns-then-v-margin : goal.returns-then-v-margin
unfolding sign_if_sure of_bits
returns-then-v-margin c = simp (c.if-size.true, c.if-scale.true, c.if-v-margin.true)

pub returns-then-v-margin-2 : goal.returns-then-v-margin-2
unfolding sign_if_sure of_bits
returns-then-v-margin-2 c = simp (c.if-size.true, c.if-scale.true, c.if-v-margin.false, c.if-v-margin-2.true)

pub returns-else-v-margin-2 : goal.returns-else-v-margin-2
unfolding sign_if_sure of_bits
returns-else-v-margin-2 c = simp (c.if-size.true, c.if-scale.true, c.if-v-margin.false, c.if-v-margin-2.false)

pub returns-else-scale : goal.returns-else-scale
unfolding sign_if_sure of_bits
returns-else-scale c = simp (c.if-size.true, c.if-scale.false)

pub returns-else-size : goal.returns-else-size
unfolding sign_if_sure of_bits
returns-else-size c = simp c.if-size.false
