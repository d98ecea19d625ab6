-- The bits of the constants that 01 gives by them.
use Rattle.std.specs.Prelude.{◌≡◌, refl}
use Rattle.std.specs.Float.{binary64}
use Rattle.std.specs.Float.Ieee.{to_bits}
use Rattle.float.specs.Trig.{I, H, L, P}

I-bits : to_bits binary64 I ≡ 0x3FE4_5F30_6DC9_C883
unfolding to_bits
I-bits = refl

H-bits : to_bits binary64 H ≡ 0x3FF9_21FB_5440_0000
unfolding to_bits
H-bits = refl

L-bits : to_bits binary64 L ≡ 0x3DD0_B461_1A62_6331
unfolding to_bits
L-bits = refl

P-bits : to_bits binary64 P ≡ 0x4009_21FB_5444_2D18
unfolding to_bits
P-bits = refl
