-- `float::trig::cosine` meets its contract: each constant of the code is the rounded quotient that the definition names.
use Rattle.std.proofs.Common.{ap}
use lib.Ieee.{neg, round, of_bits}
use Rattle.float.specs.Number.{◌⊕◌, ◌⊗◌, one_float}
use Rattle.float.specs.Trig.{cosine, cosine_series}
use Rattle.float.proofs.trig.cosine.Goals as goal

pub returns : goal.returns
unfolding cosine cosine_series neg round of_bits
returns c = ap (λ u. one_float ⊕ (c.args.r ⊗ c.args.r) ⊗ u) c.horner-u.ensures
