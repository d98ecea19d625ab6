-- What the loops of `float_bench` do at each step. Definitions only.
use Rattle.std.specs.Prelude.{ℕ, zero, suc, Float}
use Rattle.std.specs.Float.{binary64}
use Rattle.std.specs.Float.Ieee.{add, mul}
use Rattle.float.specs.MulAdd.{mul_add}
use Rattle.float.specs.Sqrt as Sqrt
use Rattle.float.specs.ProductError.{product_error}

abbrev pub plain : Float → Float → Float → Float
plain x c h = add binary64 (mul binary64 h x) c

abbrev pub fused : Float → Float → Float → Float
fused x c h = mul_add binary64 h x c

abbrev pub root : Float → Float → Float
root c h = Sqrt.sqrt binary64 (add binary64 h c)

abbrev pub error : Float → Float → Float → Float
error x c h = add binary64 (product_error h x) c

-- n steps
unfoldable pub iterate : (Float → Float) → ℕ → Float → Float
iterate f zero h = h
iterate f (suc n) h = f (iterate f n h)
