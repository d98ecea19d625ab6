-- The fused product x * y + z, rounded once, in the style of `lib.Ieee`.
use Rattle.std.specs.Prelude.{◌*◌, Float}
use Rattle.std.specs.Float.{nan, inf, fin, Format}
use Rattle.std.specs.Float.Ieee.{unlike, up, down, sum, add, mul}

-- Of three finite values, the product and z are brought to one denominator, and `sum` adds them and rounds.
-- Where x or y is not finite, `mul` is exact, and where only z is not, the result is z.
unfoldable pub mul_add : Format → Float → Float → Float → Float
unfolding add mul sum
mul_add f nan y z = nan
mul_add f (inf s) y z = add f (mul f (inf s) y) z
mul_add f (fin s m e) nan z = nan
mul_add f (fin s m e) (inf t) z = add f (mul f (fin s m e) (inf t)) z
mul_add f (fin s m e) (fin t n d) nan = nan
mul_add f (fin s m e) (fin t n d) (inf u) = inf u
mul_add f (fin s m e) (fin t n d) (fin u p g) =
    sum f (unlike s t) (m * up e * (n * up d) * down g) u (p * up g * (down e * down d)) (down e * down d * down g)
