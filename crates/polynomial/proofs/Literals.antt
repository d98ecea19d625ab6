-- The code's literals, by their bits, are the floats of the definitions.
use Rattle.std.proofs.Common.{◌≡◌, refl}
use lib.Ieee.{binary64, of_bits, mul, round}
use Rattle.float.specs.Trig.{four_float}
use Rattle.float.specs.Laws.Zero.{zero_bits}
use Rattle.float.specs.Laws.Literals.{one_bits, two_bits, P-bits}
use Rattle.polynomial.specs.Angle.{two_pi}
use Rattle.polynomial.specs.Operation.{largest_part}
use Rattle.polynomial.specs.Polynomial.{roundoff}

pub two_pi_is : of_bits binary64 0x4019_21fb_5444_2d18 ≡ two_pi
unfolding of_bits
two_pi_is = refl

pub four_is : of_bits binary64 0x4010_0000_0000_0000 ≡ four_float
unfolding of_bits
four_is = refl

pub largest_part_is : of_bits binary64 0x58f0_0000_0000_0000 ≡ largest_part
unfolding of_bits
largest_part_is = refl

pub roundoff_is : of_bits binary64 0x39e0_0000_0000_0000 ≡ roundoff
unfolding of_bits mul round
roundoff_is = refl

pub ruleset literals = (zero_bits, one_bits, two_bits, P-bits, two_pi_is, four_is, largest_part_is, roundoff_is)
