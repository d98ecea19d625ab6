-- Polynomials with compensated coefficients, a list from the constant term up (01, module 3). Definitions only, named as in the Rust.
use Rattle.std.specs.Prelude.{ℕ, zero, suc, ◌+◌, ◌-◌, min, Bool, true, false, ◌&&◌, cond, List, [], ◌∷◌, ◌++◌, length, get_or, replicate, pos, negsuc, Float}
use Rattle.std.specs.Float.{fin, binary64}
use Rattle.std.specs.Float.Ieee.{le, neg, of_int}
use Rattle.std.specs.Float.Ieee.Scale.{finite}
use Rattle.float.specs.Number.{◌⊕◌, ◌⊗◌, abs, zero_float, one_float}
use Rattle.polynomial.specs.Compensated.{from, plus, times, value, is_zero}
use Rattle.polynomial.specs.declared.compensated.Compensated.{Compensated}

abbrev pub zero_pair : Compensated
zero_pair = from zero_float

-- the coefficients in the first of nine places, and zeros behind them
unfoldable pub nine : List Compensated → List Compensated
nine l = l ++ replicate (9 - length l) zero_pair

-- a + scale * b. Each coefficient of the result starts at zero; the coefficients of a are added, then those of b times the scale
abbrev pub scaled_on : Compensated → Compensated → Float → Compensated
scaled_on r b scale = plus r (times b (from scale))

unfoldable pub add : List Compensated → List Compensated → Float → List Compensated
add [] [] scale = []
add [] (b ∷ bs) scale = scaled_on zero_pair b scale ∷ add [] bs scale
add (a ∷ cs) [] scale = plus zero_pair a ∷ add cs [] scale
add (a ∷ cs) (b ∷ bs) scale = scaled_on (plus zero_pair a) b scale ∷ add cs bs scale

-- a_i * b_(k - i) for `count` places i, one after the other, added to r
unfoldable pub column : List Compensated → List Compensated → ℕ → ℕ → ℕ → Compensated → Compensated
column a b k i zero r = r
column a b k i (suc count) r = column a b k (suc i) count (plus r (times (get_or a i zero_pair) (get_or b (k - i) zero_pair)))

-- the coefficient k of a * b: from zero, the sum over each place i of a that has a partner k - i in b
abbrev pub first_place : ℕ → ℕ → ℕ
first_place m k = k + 1 - m

abbrev pub places : ℕ → ℕ → ℕ → ℕ
places n m k = min (k + 1) n - first_place m k

abbrev pub coefficient : List Compensated → List Compensated → ℕ → Compensated
coefficient a b k = column a b k (first_place (length b) k) (places (length a) (length b) k) zero_pair

-- `count` coefficients of a * b, from k on
unfoldable pub coefficients : List Compensated → List Compensated → ℕ → ℕ → List Compensated
coefficients a b k zero = []
coefficients a b k (suc count) = coefficient a b k ∷ coefficients a b (suc k) count

unfoldable pub multiply : List Compensated → List Compensated → List Compensated
multiply a b = coefficients a b 0 (length a + length b - 1)

-- a * b - c * d
unfoldable pub determinant : List Compensated → List Compensated → List Compensated → List Compensated → List Compensated
determinant a b c d = add (multiply a b) (multiply c d) (neg one_float)

-- compensated Horner arithmetic from the highest coefficient down, then rounded
unfoldable pub horner : List Compensated → Float → Compensated
horner [] x = zero_pair
horner (c ∷ cs) x = plus (times (horner cs x) (from x)) c

unfoldable pub evaluate : List Compensated → Float → Float
evaluate p x = value (horner p x)

-- the coefficients' magnitudes, added up as the value is
unfoldable pub magnitudes : List Compensated → Float → Float
magnitudes [] x = zero_float
magnitudes (c ∷ cs) x = magnitudes cs x ⊗ abs x ⊕ abs c.high ⊕ abs c.low

-- 128 ε ε, with ε = 2 ^ -52
abbrev pub epsilon : Float
epsilon = fin false 1 (negsuc 51)

abbrev pub roundoff : Float
roundoff = fin false 1 (pos 7) ⊗ epsilon ⊗ epsilon

-- the value at x fits a coefficient-scaled roundoff bound; `value-near` tests a value that is at hand
unfoldable pub value_near : List Compensated → Float → Float → Bool
value_near p x v = le (abs v) (roundoff ⊗ magnitudes p x)

unfoldable pub near_zero : List Compensated → Float → Bool
near_zero p x = value_near p x (evaluate p x)

-- The coefficients up to the last that is not zero. Only exact zeros go: a leading coefficient
-- that is merely small can still shape the curve enough to be told from none.
unfoldable pub kept : Compensated → List Compensated → List Compensated
kept c [] = cond (is_zero c) [] (c ∷ [])
kept c (d ∷ ds) = c ∷ d ∷ ds

unfoldable pub trim : List Compensated → List Compensated
trim [] = []
trim (c ∷ cs) = kept c (trim cs)

-- no part is a NaN or an infinity
unfoldable pub all_finite : List Compensated → Bool
all_finite [] = true
all_finite (c ∷ cs) = finite c.high && finite c.low && all_finite cs

-- each coefficient times its power, from the power i on
unfoldable pub powered : ℕ → List Compensated → List Compensated
powered i [] = []
powered i (c ∷ cs) = times c (from (of_int binary64 (pos i))) ∷ powered (suc i) cs

unfoldable pub derivative : List Compensated → List Compensated
derivative [] = []
derivative (c ∷ cs) = powered 1 cs
