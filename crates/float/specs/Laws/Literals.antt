-- The code's literals, by their bits, are the floats of the definitions; 0.0 / 0.0 is the NaN.
use Rattle.std.specs.Prelude.{◌≡◌, refl}
use Rattle.std.specs.Float.{nan, binary64}
use Rattle.std.specs.Float.Ieee.{div, of_bits}
use Rattle.float.specs.Number.{one_float, two_float}
use Rattle.float.specs.Trig.{P}

pub one_bits : of_bits binary64 0x3ff0_0000_0000_0000 ≡ one_float
unfolding of_bits
one_bits = refl

pub two_bits : of_bits binary64 0x4000_0000_0000_0000 ≡ two_float
unfolding of_bits
two_bits = refl

pub P-bits : of_bits binary64 0x4009_21fb_5444_2d18 ≡ P
unfolding of_bits
P-bits = refl

pub nan_bits : div binary64 (of_bits binary64 0) (of_bits binary64 0) ≡ nan
unfolding div of_bits
nan_bits = refl
