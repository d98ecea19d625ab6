-- `float::arc::atan_value` meets its contract: each constant of the code is the rounded quotient that the definition names.
use Rattle.std.proofs.Common.{ap}
use lib.Ieee.{neg, round, of_bits}
use Rattle.float.specs.Number.{◌⊕◌, ◌⊗◌}
use Rattle.float.specs.Trig.{atan_value, atan_series, four_float}
use Rattle.float.proofs.arc.atan_value.Goals as goal

pub returns : goal.returns
unfolding atan_value atan_series neg round of_bits
returns c = ap (λ p. four_float ⊗ (c.args.a ⊕ (c.args.a ⊗ (c.args.a ⊗ c.args.a)) ⊗ p)) c.horner-p.ensures
