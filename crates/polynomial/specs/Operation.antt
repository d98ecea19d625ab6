-- The operation Roots (01; 02, change 1): its refusals in order, its answer, and both lent slices afterwards. Definitions only.
use Rattle.std.specs.Prelude.{ℕ, ◌%◌, Bool, true, false, ◌&&◌, ◌||◌, cond, List, [], ◌∷◌, ◌++◌, ℤ, pos, neg_ℤ, ltb, leb, eqb, length, drop, Float}
use Rattle.std.specs.Prelude.{Result, Ok, Err}
use Rattle.std.specs.Float.{fin}
use Rattle.std.specs.Float.Ieee.{le}
use Rattle.float.specs.Number.{abs}
use Rattle.float.specs.Trig.{four_float}
use Rattle.polynomial.specs.Roots.{roots}
use Rattle.polynomial.specs.declared.compensated.Compensated.{Compensated}
use Rattle.polynomial.specs.declared.refusals.Refusal.{Refusal}
use Rattle.polynomial.specs.declared.refusals.Refusal.TheVariants.{BadLength, BadBounds, BadPart, ShortResult}

-- coefficients as f64 pairs (high, low), constant first
unfoldable pub pairs : List Float → List Compensated
pairs [] = []
pairs (h ∷ []) = []
pairs (h ∷ (l ∷ r)) = record { high = h; low = l } ∷ pairs r

-- 21, an odd number of floats or more than 18
abbrev pub bad_length : List Float → Bool
bad_length s = eqb (length s % 2) 1 || ltb 18 (length s)

-- 22, a bound is NaN or outside ±4, or lower > upper
abbrev pub bounds_hold : Float → Float → Bool
bounds_hold lower upper = le (abs lower) four_float && le (abs upper) four_float && le lower upper

-- 2^400
abbrev pub largest_part : Float
largest_part = fin false 1 (pos 400)

-- 23, a part is not finite or exceeds 2^400 in magnitude
abbrev pub part_holds : Float → Bool
part_holds x = le (abs x) largest_part

unfoldable pub parts_hold : List Float → Bool
parts_hold [] = true
parts_hold (x ∷ xs) = part_holds x && parts_hold xs

-- 24, the result slice, or that of the kinds, is shorter than the list
abbrev pub fitted : ℕ → ℕ → ℕ → Result ℕ Refusal
fitted count room bytes = cond (leb count room && leb count bytes) (Ok count) (Err ShortResult)

-- the answer for a result slice of `room` places and a slice of `bytes` for the kinds
unfoldable pub answer : List Float → Float → Float → ℕ → ℕ → Result ℕ Refusal
answer s lower upper room bytes =
    cond (bad_length s) (Err BadLength)
    (cond (bounds_hold lower upper)
    (cond (parts_hold s) (fitted (length (roots (pairs s) lower upper)) room bytes) (Err BadPart))
    (Err BadBounds))

-- the papers' number of each refusal
abbrev pub refusal_number : Refusal → ℕ
refusal_number BadLength = 21
refusal_number BadBounds = 22
refusal_number BadPart = 23
refusal_number ShortResult = 24

-- this paper's number for each case: the count, or minus the refusal's number
abbrev pub number : Result ℕ Refusal → ℤ
number (Ok n) = pos n
number (Err k) = neg_ℤ (pos (refusal_number k))

-- success fills that many first places of a slice with what was found; its rest, and all of it on refusal, is left
abbrev pub filled : {A : Type 0} → Result ℕ Refusal → List A → List A → List A
filled (Ok n) found before = found ++ drop n before
filled (Err k) found before = before
