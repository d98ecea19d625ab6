-- Worked examples of `mul-add` and `sqrt`, by bit pattern, each of them computed by antt.
use Rattle.std.specs.Prelude.{◌≡◌, ℕ, true, false, refl}
use Rattle.std.specs.Float.{nan, inf, binary64}
use Rattle.std.specs.Float.Ieee.{of_bits, to_bits}
use Rattle.float.specs.MulAdd.{mul_add}
use Rattle.float.specs.Sqrt.{sqrt}

-- the fused product from bits to bits
mul_add_of : ℕ → ℕ → ℕ → ℕ
mul_add_of a b c = to_bits binary64 (mul_add binary64 (of_bits binary64 a) (of_bits binary64 b) (of_bits binary64 c))

sqrt_of : ℕ → ℕ
sqrt_of a = to_bits binary64 (sqrt binary64 (of_bits binary64 a))

-- 2 * 3 + 1
seven : mul_add_of 0x4000_0000_0000_0000 0x4008_0000_0000_0000 0x3ff0_0000_0000_0000 ≡ 0x401c_0000_0000_0000
unfolding mul_add_of mul_add to_bits of_bits
seven = refl

-- 0.1 * 10 - 1: the product and the sum apart give 0, and rounded once they give 2 ^ -54
tenth : mul_add_of 0x3fb9_9999_9999_999a 0x4024_0000_0000_0000 0xbff0_0000_0000_0000 ≡ 0x3c90_0000_0000_0000
unfolding mul_add_of mul_add to_bits of_bits
tenth = refl

-- (1 + 2 ^ -52) ^ 2 - (1 + 2 ^ -51) is 2 ^ -104
tiny : mul_add_of 0x3ff0_0000_0000_0001 0x3ff0_0000_0000_0001 0xbff0_0000_0000_0002 ≡ 0x3970_0000_0000_0000
unfolding mul_add_of mul_add to_bits of_bits
tiny = refl

-- the largest value times 2 less itself is itself: the product does not overflow
large : mul_add_of 0x7fef_ffff_ffff_ffff 0x4000_0000_0000_0000 0xffef_ffff_ffff_ffff ≡ 0x7fef_ffff_ffff_ffff
unfolding mul_add_of mul_add to_bits of_bits
large = refl

-- 1 * -1 + 1 is +0, and -1 * 0 - 0 is -0
plus_zero : mul_add_of 0x3ff0_0000_0000_0000 0xbff0_0000_0000_0000 0x3ff0_0000_0000_0000 ≡ 0
unfolding mul_add_of mul_add to_bits of_bits
plus_zero = refl

minus_zero : mul_add_of 0xbff0_0000_0000_0000 0 0x8000_0000_0000_0000 ≡ 0x8000_0000_0000_0000
unfolding mul_add_of mul_add to_bits of_bits
minus_zero = refl

-- the largest value squared, with -∞ added, is -∞; and ∞ * 0 + 1 is a NaN
below_all : mul_add binary64 (of_bits binary64 0x7fef_ffff_ffff_ffff) (of_bits binary64 0x7fef_ffff_ffff_ffff) (inf true) ≡ inf true
unfolding mul_add of_bits
below_all = refl

no_product : mul_add binary64 (inf false) (of_bits binary64 0) (of_bits binary64 0x3ff0_0000_0000_0000) ≡ nan
unfolding mul_add of_bits
no_product = refl

-- the roots of 2, of 4, of the smallest value, and of the largest one
root_two : sqrt_of 0x4000_0000_0000_0000 ≡ 0x3ff6_a09e_667f_3bcd
unfolding sqrt_of sqrt to_bits of_bits
root_two = refl

root_four : sqrt_of 0x4010_0000_0000_0000 ≡ 0x4000_0000_0000_0000
unfolding sqrt_of sqrt to_bits of_bits
root_four = refl

root_smallest : sqrt_of 1 ≡ 0x1e60_0000_0000_0000
unfolding sqrt_of sqrt to_bits of_bits
root_smallest = refl

root_largest : sqrt_of 0x7fef_ffff_ffff_ffff ≡ 0x5fef_ffff_ffff_ffff
unfolding sqrt_of sqrt to_bits of_bits
root_largest = refl

-- of -0, and of -1
root_minus_zero : sqrt_of 0x8000_0000_0000_0000 ≡ 0x8000_0000_0000_0000
unfolding sqrt_of sqrt to_bits of_bits
root_minus_zero = refl

root_minus_one : sqrt binary64 (of_bits binary64 0xbff0_0000_0000_0000) ≡ nan
unfolding sqrt of_bits
root_minus_one = refl
