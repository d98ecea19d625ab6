-- How the roots of 01's curves arose (02, change 1), and of one whose root 1 arises both ways, each computed by antt.
use Rattle.std.specs.Prelude.{ℕ, ◌≡◌, refl, false, List, [], ◌∷◌, length, Float}
use Rattle.std.specs.Float.{binary64}
use Rattle.std.specs.Float.Ieee.{of_bits, of_int, add, sub, mul, div, neg, eq, le, lt}
use Rattle.float.specs.Number.{abs, middle, total_le}
use Rattle.float.specs.MulAdd.{mul_add}
use Rattle.polynomial.specs.Compensated.{plus, times}
use Rattle.polynomial.specs.Cuts.{cuts}
use Rattle.polynomial.specs.Polynomial.{horner, evaluate, magnitudes, value_near, near_zero, kept, trim, all_finite, powered, derivative}
use Rattle.polynomial.specs.Roots.{bisect_steps, bisected, partitions, touches, crossings, quotient, by_count, roots_at, roots}
use Rattle.polynomial.specs.Kinds.{among, marked, near_points, marked_roots}
use Rattle.polynomial.specs.declared.kinds.Root.{Root}
use Rattle.polynomial.specs.declared.kinds.Root.TheVariants.{Touch, Crossing}
use Rattle.lemongully.specs.Examples.Tried.{coefficients, minus_zero, one, minus_one, four, minus_four}

-- what is found between two bounds
found : List ℕ → ℕ → ℕ → List Root
unfolding marked_roots near_points among roots roots_at by_count quotient crossings touches bisected bisect_steps derivative powered all_finite trim kept
    near_zero value_near magnitudes evaluate horner cuts times plus mul_add total_le middle abs of_bits of_int add sub mul div neg eq le lt
found p lower upper = marked_roots (coefficients p) (of_bits binary64 lower) (of_bits binary64 upper)

-- the partition points
points : List ℕ → ℕ → ℕ → List Float
unfolding roots roots_at by_count quotient crossings touches bisected bisect_steps derivative powered all_finite trim kept
    near_zero value_near magnitudes evaluate horner cuts times plus mul_add total_le middle abs of_bits of_int add sub mul div neg eq le lt
points p lower upper =
    let l = of_bits binary64 lower in
    let u = of_bits binary64 upper in
    partitions l u (roots (derivative (coefficients p)) l u)

-- those near zero
near : List ℕ → ℕ → ℕ → List Float
unfolding near_points roots roots_at by_count quotient crossings touches bisected bisect_steps derivative powered all_finite trim kept
    near_zero value_near magnitudes evaluate horner cuts times plus mul_add total_le middle abs of_bits of_int add sub mul div neg eq le lt
near p lower upper = near_points (length p) (coefficients p) (of_bits binary64 lower) (of_bits binary64 upper)

-- the end of a bisection between two neighbours, the first of which has a value below zero
end : List ℕ → ℕ → ℕ → Float
unfolding bisected bisect_steps evaluate horner times plus mul_add middle abs of_bits add sub mul div neg eq le lt
end p lower upper = bisected (evaluate (coefficients p)) false (of_bits binary64 lower) (of_bits binary64 upper)

abbrev touch : ℕ → Root
touch b = Touch (of_bits binary64 b)

abbrev crossing : ℕ → Root
crossing b = Crossing (of_bits binary64 b)

-- -1, 0, 1 on ±4 crosses at -1 and 1
two_crossings : found (minus_one ∷ 0 ∷ one ∷ []) minus_four four ≡ crossing minus_one ∷ crossing one ∷ []
unfolding found
two_crossings = refl

-- 0, 0, 1 on ±1 touches at -0.0
a_touch : found (0 ∷ 0 ∷ one ∷ []) minus_one one ≡ touch minus_zero ∷ []
unfolding found
a_touch = refl

-- -1, 0, 1 on [1, 1] touches at the bound
at_a_bound : found (minus_one ∷ 0 ∷ one ∷ []) one one ≡ touch one ∷ []
unfolding found
at_a_bound = refl

-- -4, 1 on ±4: the quotient 4 counts as a crossing, though it is a bound
a_quotient : found (minus_four ∷ one ∷ []) minus_four four ≡ crossing four ∷ []
unfolding found
a_quotient = refl

-- 1e-323, 0, -1, 1 on [0, 1], whose root 1 arises both ways: the bisection from the partition point 2/3 to the bound ends in it, and it is the one
-- partition point near zero. So it is a touch.
abbrev steep : List ℕ
steep = 2 ∷ 0 ∷ minus_one ∷ one ∷ []

points_there : points steep 0 one ≡ of_bits binary64 0 ∷ of_bits binary64 0x3fe5_5555_5555_5556 ∷ of_bits binary64 one ∷ []
unfolding points
points_there = refl

ends_there : end steep 0x3fe5_5555_5555_5556 one ≡ of_bits binary64 one
unfolding end
ends_there = refl

near_there : near steep 0 one ≡ of_bits binary64 one ∷ []
unfolding near
near_there = refl

both_ways : marked (near steep 0 one) (of_bits binary64 one) ≡ touch one
unfolding near among eq of_bits
both_ways = refl
