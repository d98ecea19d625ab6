-- The error of a rounded product, which compensated arithmetic lives on. One definition.
use Rattle.std.specs.Prelude.{Float}
use Rattle.std.specs.Float.{binary64}
use Rattle.std.specs.Float.Ieee.{neg, mul}
use Rattle.float.specs.MulAdd.{mul_add}

-- The fused product of a, b and minus their rounded product.
abbrev pub product_error : Float → Float → Float
product_error a b = mul_add binary64 a b (neg (mul binary64 a b))
