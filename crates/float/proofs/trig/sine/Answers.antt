-- `float::trig::sine` meets its contract: each constant of the code is the rounded quotient that the definition names.
use Rattle.std.proofs.Common.{ap}
use lib.Ieee.{neg, round, of_bits}
use Rattle.float.specs.Number.{◌⊕◌, ◌⊗◌}
use Rattle.float.specs.Trig.{sine, sine_series}
use Rattle.float.proofs.trig.sine.Goals as goal

pub returns : goal.returns
unfolding sine sine_series neg round of_bits
returns c = ap (λ p. c.args.r ⊕ (c.args.r ⊗ (c.args.r ⊗ c.args.r)) ⊗ p) c.horner-p.ensures
