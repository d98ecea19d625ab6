-- Trigonometry (01, module 2): exact sequences of f64 steps, each rounding once, in 01's order. Definitions only. `Constants` shows the bits of I, H, L and P.
use Rattle.std.specs.Prelude.{ℕ, zero, suc, ◌-◌, ◌*◌, ◌%◌, true, false, cond, ◌||◌, List, [], ◌∷◌, ℤ, pos, negsuc, is_nan, Float}
use Rattle.std.specs.Float.{nan, fin, binary64}
use Rattle.std.specs.Float.Ieee.{round, neg, lt, le, of_int}
use Rattle.float.specs.Number.{◌⊕◌, ◌⊖◌, ◌⊗◌, ◌⊘◌, abs, negative, floor, zero_float, one_float, two_float}
use Rattle.float.specs.Sqrt.{sqrt}
use Rattle.float.specs.declared.trig.SinCos.{SinCos}

abbrev pub I : Float
I = fin false 5734161139222659 (negsuc 52)

abbrev pub H : Float
H = fin false 1686629713 (negsuc 29)

abbrev pub L : Float
L = fin false 4701928774853425 (negsuc 85)

abbrev pub P : Float
P = fin false 884279719003555 (negsuc 47)

-- 1/2, 4 and 32
abbrev pub half : Float
half = fin false 1 (negsuc 0)

abbrev pub four_float : Float
four_float = fin false 1 (pos 2)

abbrev pub widest : Float
widest = fin false 1 (pos 5)

-- k is the greatest whole number not above x·I + 0.5
abbrev pub quarters : Float → ℤ
quarters x = floor (x ⊗ I ⊕ half)

-- r = (x − k·H) − k·L
abbrev pub reduced : ℤ → Float → Float
reduced k x = (x ⊖ of_int binary64 k ⊗ H) ⊖ of_int binary64 k ⊗ L

-- each constant is the rounded quotient of its whole numbers: 1 / n and −1 / n
abbrev pub over : ℕ → Float
over n = round binary64 false 1 n

abbrev pub minus_over : ℕ → Float
minus_over n = round binary64 true 1 n

abbrev pub factorial : ℕ → ℕ
factorial zero = 1
factorial (suc n) = suc n * factorial n

-- start p at the first constant, then p·z + c for each c that follows
abbrev pub series : Float → Float → List Float → Float
series z p [] = p
series z p (c ∷ cs) = series z (p ⊗ z ⊕ c) cs

-- start p at 1/17!, then −1/15!, 1/13!, alternating to −1/3!
unfoldable pub sine_series : Float → Float
sine_series z =
    series z (over (factorial 17))
    (minus_over (factorial 15) ∷ over (factorial 13) ∷ minus_over (factorial 11) ∷ over (factorial 9) ∷ minus_over (factorial 7) ∷ over
    (factorial 5) ∷ minus_over (factorial 3) ∷ [])

-- start u at 1/16!, then −1/14!, alternating to −1/2!
unfoldable pub cosine_series : Float → Float
cosine_series z =
    series z (over (factorial 16))
    (minus_over (factorial 14) ∷ over (factorial 12) ∷ minus_over (factorial 10) ∷ over (factorial 8) ∷ minus_over (factorial 6) ∷ over
    (factorial 4) ∷ minus_over (factorial 2) ∷ [])

-- z = r·r; s = r + (r·z)·p
unfoldable pub sine : Float → Float
sine r = let z = r ⊗ r in r ⊕ (r ⊗ z) ⊗ sine_series z

-- w = 1 + z·u
unfoldable pub cosine : Float → Float
cosine r = let z = r ⊗ r in one_float ⊕ z ⊗ cosine_series z

-- k modulo 4, from 0 to 3
abbrev pub quadrant : ℤ → ℕ
quadrant (pos n) = n % 4
quadrant (negsuc n) = 3 - n % 4

-- by k modulo 4, sine and cosine are (s, w), (w, −s), (−s, −w), (−w, s)
abbrev pub by_quadrant : ℕ → Float → Float → SinCos
by_quadrant zero s w = record { sine = s; cosine = w }
by_quadrant (suc zero) s w = record { sine = w; cosine = neg s }
by_quadrant (suc (suc zero)) s w = record { sine = neg s; cosine = neg w }
by_quadrant (suc (suc (suc n))) s w = record { sine = neg w; cosine = s }

-- sin_cos(x), |x| ≤ 32; other x give NaN twice
unfoldable pub sin_cos : Float → SinCos
sin_cos x =
    let k = quarters x in
    let r = reduced k x in
    cond (le (abs x) widest) (by_quadrant (quadrant k) (sine r) (cosine r)) (record { sine = nan; cosine = nan })

-- sin and cos alone are its two parts
abbrev pub sin : Float → Float
sin x = (sin_cos x).sine

abbrev pub cos : Float → Float
cos x = (sin_cos x).cosine

-- tan is sine over cosine
unfoldable pub tan : Float → Float
tan x = sin x ⊘ cos x

unfoldable pub hypot : Float → Float → Float
hypot x y = sqrt binary64 (x ⊗ x ⊕ y ⊗ y)

-- atan(x): a is |x|, or 1/|x| if |x| > 1
abbrev pub atan_start : Float → Float
atan_start x = cond (lt one_float (abs x)) (one_float ⊘ abs x) (abs x)

-- twice, a becomes a/(1 + sqrt(1 + a·a))
unfoldable pub half_angle : Float → Float
half_angle a = a ⊘ (one_float ⊕ sqrt binary64 (one_float ⊕ a ⊗ a))

-- p from −1/23, then 1/21, alternating to −1/3
unfoldable pub atan_series : Float → Float
atan_series z =
    series z (minus_over 23)
    (over 21 ∷ minus_over 19 ∷ over 17 ∷ minus_over 15 ∷ over 13 ∷ minus_over 11 ∷ over 9 ∷ minus_over 7 ∷ over 5 ∷ minus_over 3 ∷ [])

-- z = a·a; v = 4·(a + (a·z)·p)
unfoldable pub atan_value : Float → Float
atan_value a = let z = a ⊗ a in four_float ⊗ (a ⊕ (a ⊗ z) ⊗ atan_series z)

-- the sign of x is put on v
abbrev pub copysign : Float → Float → Float
copysign v x = cond (negative x) (neg (abs v)) (abs v)

-- v, or P/2 − v if |x| > 1
unfoldable pub atan : Float → Float
atan x =
    let v = atan_value (half_angle (half_angle (atan_start x))) in
    copysign (cond (lt one_float (abs x)) (P ⊘ two_float ⊖ v) v) x

-- atan2(y, x): NaN if either is; x > 0, atan(y/x); x < 0, that plus P if y ≥ 0, else minus P; x = 0, P/2, −P/2 or +0.0 as y is above, below or equal to 0
unfoldable pub atan2 : Float → Float → Float
atan2 y x =
    cond (is_nan y || is_nan x) nan
    (cond (lt zero_float x) (atan (y ⊘ x))
    (cond (lt x zero_float) (cond (le zero_float y) (atan (y ⊘ x) ⊕ P) (atan (y ⊘ x) ⊖ P))
    (cond (lt zero_float y) (P ⊘ two_float) (cond (lt y zero_float) (neg (P ⊘ two_float)) zero_float))))

-- acos(x) = atan2(sqrt((1 − x)·(1 + x)), x); asin swaps the arguments
abbrev pub other_side : Float → Float
other_side x = sqrt binary64 ((one_float ⊖ x) ⊗ (one_float ⊕ x))

unfoldable pub acos : Float → Float
acos x = atan2 (other_side x) x

unfoldable pub asin : Float → Float
asin x = atan2 x (other_side x)
