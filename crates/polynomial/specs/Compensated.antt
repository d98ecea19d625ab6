-- A number represented by a rounded value and its residual rounding error: `Compensated` of the Rust, step by step. Definitions only.
-- The residual is kept because the products of two curves that lie near one another nearly cancel: without it a small interval between them would be lost.
use Rattle.std.specs.Prelude.{Bool, ◌&&◌, Float}
use Rattle.std.specs.Float.Ieee.{eq}
use Rattle.float.specs.Number.{◌⊕◌, ◌⊖◌, ◌⊗◌, zero_float}
use Rattle.float.specs.ProductError.{product_error}
use Rattle.polynomial.specs.declared.compensated.Compensated.{Compensated}

-- a float with a residual of zero
abbrev pub from : Float → Compensated
from x = record { high = x; low = zero_float }

-- `sum` and its `error`, as a rounded value and what is left of the error
abbrev pub rounded : Float → Float → Compensated
rounded sum error = let high = sum ⊕ error in record { high = high; low = error ⊖ (high ⊖ sum) }

-- adds both components and retains the rounding error
unfoldable pub plus : Compensated → Compensated → Compensated
plus a b =
    let sum = a.high ⊕ b.high in
    let virtual-other = sum ⊖ a.high in
    rounded sum ((a.high ⊖ (sum ⊖ virtual-other)) ⊕ (b.high ⊖ virtual-other) ⊕ a.low ⊕ b.low)

-- multiplies both components and retains the rounding error; the error of the product of the high parts is fused
unfoldable pub times : Compensated → Compensated → Compensated
times a b =
    let product = a.high ⊗ b.high in
    rounded product (product_error a.high b.high ⊕ a.high ⊗ b.low ⊕ a.low ⊗ b.high ⊕ a.low ⊗ b.low)

-- both components rounded to one float
abbrev pub value : Compensated → Float
value a = a.high ⊕ a.low

-- both components are zero
abbrev pub is_zero : Compensated → Bool
is_zero a = eq a.high zero_float && eq a.low zero_float
