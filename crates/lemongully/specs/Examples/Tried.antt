-- The cases that 01 marks P, about the definitions of modules 3 and 4, each of them computed by antt.
use Rattle.std.specs.Prelude.{Some, ℕ, ◌≡◌, refl, List, [], ◌∷◌, Float, true, false}
use Rattle.std.specs.Float.{binary64, inf}
use Rattle.std.specs.Float.Ieee.{of_bits, of_int, add, sub, mul, div, rem, neg, eq, le, lt, is_nan}
use Rattle.float.specs.Number.{abs, middle, total_le, rem_euclid, minimum, maximum, zero_float, one_float}
use Rattle.float.specs.MulAdd.{mul_add}
use Rattle.polynomial.specs.Compensated.{from, plus, times}
use Rattle.polynomial.specs.Cuts.{cuts}
use Rattle.polynomial.specs.Polynomial.{horner, evaluate, magnitudes, value_near, near_zero, kept, trim, all_finite, powered, derivative}
use Rattle.polynomial.specs.Roots.{bisect_steps, bisected, touches, crossings, quotient, by_count, roots_at, roots}
use Rattle.polynomial.specs.Angle.{wrapped_angle, two_pi}
use Rattle.polynomial.specs.declared.compensated.Compensated.{Compensated}
use Rattle.float.specs.Trig.{P}
use Rattle.sampling.specs.Constraints.{compute_center}
use Rattle.sampling.specs.Intervals.{seen, interval, wrist_limit_intervals}
use Rattle.sampling.specs.declared.constraints.Center.{Center}
use Rattle.sampling.specs.declared.intervals.Intervals.{Intervals}

-- ---- roots and wrapping, by bit pattern

-- the floats of patterns, and the coefficients with these as high parts, low parts zero
abbrev floats : List ℕ → List Float
floats [] = []
floats (b ∷ bs) = of_bits binary64 b ∷ floats bs

abbrev pub coefficients : List ℕ → List Compensated
coefficients [] = []
coefficients (b ∷ bs) = from (of_bits binary64 b) ∷ coefficients bs

-- what is found between two bounds
found : List ℕ → ℕ → ℕ → List Float
unfolding roots roots_at by_count quotient crossings touches bisected bisect_steps derivative powered all_finite trim kept near_zero value_near
    magnitudes evaluate horner cuts times plus mul_add total_le middle abs of_bits of_int add sub mul div neg eq le lt
found p lower upper = roots (coefficients p) (of_bits binary64 lower) (of_bits binary64 upper)

wrapped : ℕ → Float
unfolding wrapped_angle rem_euclid abs of_bits add sub rem lt
wrapped angle = wrapped_angle (of_bits binary64 angle)

abbrev pub minus_zero : ℕ
minus_zero = 0x8000_0000_0000_0000

abbrev pub one : ℕ
one = 0x3ff0_0000_0000_0000

abbrev pub minus_one : ℕ
minus_one = 0xbff0_0000_0000_0000

abbrev pub four : ℕ
four = 0x4010_0000_0000_0000

abbrev pub minus_four : ℕ
minus_four = 0xc010_0000_0000_0000

abbrev minus_five : ℕ
minus_five = 0xc014_0000_0000_0000

abbrev seven : ℕ
seven = 0x401c_0000_0000_0000

-- -1, 0, 1 on ±4 gives -1, 1
two_roots : found (minus_one ∷ 0 ∷ one ∷ []) minus_four four ≡ floats (minus_one ∷ one ∷ [])
unfolding found
two_roots = refl

-- 0, 0, 1 on ±1 gives -0.0 alone
double_root : found (0 ∷ 0 ∷ one ∷ []) minus_one one ≡ floats (minus_zero ∷ [])
unfolding found
double_root = refl

-- -4, 1 on ±4 gives 4
at_the_end : found (minus_four ∷ one ∷ []) minus_four four ≡ floats (four ∷ [])
unfolding found
at_the_end = refl

-- -5, 1 none
beyond : found (minus_five ∷ one ∷ []) minus_four four ≡ []
unfolding found
beyond = refl

-- -1, 0, 1 on [1, 1] gives 1
no_width : found (minus_one ∷ 0 ∷ one ∷ []) one one ≡ floats (one ∷ [])
unfolding found
no_width = refl

-- -1, 1, 0, 0 on ±4 gives 1
trimmed : found (minus_one ∷ one ∷ 0 ∷ 0 ∷ []) minus_four four ≡ floats (one ∷ [])
unfolding found
trimmed = refl

-- 7 gives none, as does no coefficient
constant : found (seven ∷ []) minus_four four ≡ []
unfolding found
constant = refl

no_coefficient : found [] minus_four four ≡ []
unfolding found
no_coefficient = refl

-- P gives -P
half_turn : wrapped 0x4009_21fb_5444_2d18 ≡ of_bits binary64 0xc009_21fb_5444_2d18
unfolding wrapped
half_turn = refl

-- the next float after P, negated, gives P
past_half_turn : wrapped 0xc009_21fb_5444_2d19 ≡ of_bits binary64 0x4009_21fb_5444_2d18
unfolding wrapped
past_half_turn = refl

-- ---- limits

-- from 1 to 1 is no constraint
one_to_one : compute_center one_float one_float ≡ record { center = zero_float; tolerance = inf false }
unfolding compute_center eq
one_to_one = refl

-- ---- a tolerance of P or more: (−P, −P), (−P, P), (P, P)
abbrev whole : Center
whole = record { center = zero_float; tolerance = P }

abbrev whole_turn : Intervals
whole_turn = record { first = Some (neg P, neg P); second = Some (neg P, P); third = Some (P, P) }

seen_whole : (c : Center) (reference sign : Float) → le P c.tolerance ≡ true → seen c reference sign ≡ whole
unfolding seen
seen_whole c reference sign h = rw h

first_is : interval whole (neg two_pi) ≡ Some (neg P, neg P)
unfolding interval minimum maximum is_nan sub le
first_is = refl

second_is : interval whole zero_float ≡ Some (neg P, P)
unfolding interval minimum maximum is_nan sub le
second_is = refl

third_is : interval whole two_pi ≡ Some (P, P)
unfolding interval minimum maximum is_nan sub le
third_is = refl

wide : (c : Center) (reference sign : Float) → le P c.tolerance ≡ true → wrist_limit_intervals c reference sign ≡ whole_turn
unfolding wrist_limit_intervals
wide c reference sign h = rw (seen_whole c reference sign h, first_is, second_is, third_is)

-- a tolerance of P, and the infinite one of limits that are equal
tolerance_P : (center reference sign : Float) → wrist_limit_intervals (record { center = center; tolerance = P }) reference sign ≡ whole_turn
unfolding le
tolerance_P center reference sign = wide (record { center = center; tolerance = P }) reference sign refl

one_to_one_wide : (reference sign : Float) → wrist_limit_intervals (compute_center one_float one_float) reference sign ≡ whole_turn
unfolding compute_center le
one_to_one_wide reference sign = wide (compute_center one_float one_float) reference sign refl

tolerance_infinite : (center reference sign : Float) → wrist_limit_intervals (record { center = center; tolerance = inf false }) reference sign ≡ whole_turn
unfolding le
tolerance_infinite center reference sign = wide (record { center = center; tolerance = inf false }) reference sign refl
