-- The float floor (01, module 1) up to the fused product and the square root, which stand in
-- `MulAdd` and `Sqrt`. Definitions only, over `lib.Ieee` at binary64.
use Rattle.std.specs.Prelude.{ℕ, ◌-◌, ◌*◌, ◌/◌, ◌%◌, ◌^◌, Bool, true, false, cond, not, ◌||◌, ℤ, pos, negsuc, neg_ℤ, ◌==◌, is_nan, Float}
use Rattle.std.specs.Float.{nan, inf, fin, binary64}
use Rattle.std.specs.Float.Ieee.{up, down, neg, add, sub, mul, div, rem, lt, le, eq}

-- Rust's operators on `f64`: each works out the exact value and rounds it once.
infixl 6 ◌⊕◌
abbrev pub ◌⊕◌ : Float → Float → Float
x ⊕ y = add binary64 x y

infixl 6 ◌⊖◌
abbrev pub ◌⊖◌ : Float → Float → Float
x ⊖ y = sub binary64 x y

infixl 7 ◌⊗◌
abbrev pub ◌⊗◌ : Float → Float → Float
x ⊗ y = mul binary64 x y

infixl 7 ◌⊘◌
abbrev pub ◌⊘◌ : Float → Float → Float
x ⊘ y = div binary64 x y

-- 0, 1, 2 and 2 ^ 63 as floats
abbrev pub zero_float : Float
zero_float = fin false 0 (pos 0)

abbrev pub one_float : Float
one_float = fin false 1 (pos 0)

abbrev pub two_float : Float
two_float = fin false 1 (pos 1)

abbrev pub end_float : Float
end_float = fin false 1 (pos 63)

-- The magnitude: of -0.0 it is +0.0, and a NaN stays one.
unfoldable pub abs : Float → Float
abs nan = nan
abs (inf s) = inf false
abs (fin s m e) = fin false m e

-- Sign: whether the sign's bit is set. The one NaN has it clear.
abbrev pub negative : Float → Bool
negative nan = false
negative (inf s) = s
negative (fin s m e) = s

-- `total_cmp` order, as "x does not come after y": by value, of equals by the sign, so that all -0.0 stand before +0.0, and the one NaN last.
unfoldable pub total_le : Float → Float → Bool
total_le x y = cond (eq x y) (negative x || not (negative y)) (lt x y || is_nan y)

-- The remainder x % m, plus |m| if it is below zero.
unfoldable pub rem_euclid : Float → Float → Float
rem_euclid x m = let r = rem binary64 x m in cond (lt r zero_float) (r ⊕ abs m) r

-- Minimum and maximum: beside a NaN, the other operand; of equals, the first.
unfoldable pub minimum : Float → Float → Float
minimum x y = cond (is_nan x) y (cond (lt y x) y x)

unfoldable pub maximum : Float → Float → Float
maximum x y = cond (is_nan x) y (cond (lt x y) y x)

-- Clamp to -1 and 1: below gives -1, above 1, else the operand itself.
unfoldable pub clamp : Float → Float
clamp x = cond (lt x (neg one_float)) (neg one_float) (cond (lt one_float x) one_float x)

-- The middle of an interval, as the Rust works it out: lo + (hi - lo) / 2.
unfoldable pub middle : Float → Float → Float
middle lo hi = lo ⊕ (hi ⊖ lo) ⊘ two_float

-- Minus q and a remainder, rounded down: -q where the remainder is zero, one less otherwise.
abbrev pub minus : Bool → ℕ → ℤ
minus true q = neg_ℤ (pos q)
minus false q = negsuc q

-- The greatest whole number not above a finite x.
abbrev pub floor : Float → ℤ
floor nan = pos 0
floor (inf s) = pos 0
floor (fin false m e) = pos (m * up e / down e)
floor (fin true m e) = minus (m * up e % down e == 0) (m * up e / down e)

-- The same as 64 bits with a sign hold it, for every x, as Rust's `x.floor() as i64`: out of range the nearest end, and 0 for a NaN.
unfoldable pub floor_i64 : Float → ℤ
floor_i64 x = cond (le (neg end_float) x) (cond (lt x end_float) (floor x) (pos (2 ^ 63 - 1))) (cond (lt x zero_float) (neg_ℤ (pos (2 ^ 63))) (pos 0))
