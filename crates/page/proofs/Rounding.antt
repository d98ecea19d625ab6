-- An angle in billionths, as the program works it out.
use Prim.Native.Nat.{ℕ, suc, ◌+◌, ◌*◌, ◌-◌, ◌/◌, ◌%◌, ◌^◌, ◌≤◌, ◌<◌, compare, Ordering}
use native.Mathlib.Omega.{arith}
use native.Mathlib.Nat.{le_trans, pow-suc, mul-le-mul, mul-le-mul_right, le_of_mul-le-mul_right, le-div_iff_mul-le}
use native.Mathlib.Nat.{eq_of_mul-eq-mul_right, lt_of_lt_of_le, zero-lt-suc}
use mathlib.Core.Path.{◌≡◌, sym, ap, ◌∙◌}
use mathlib.Core.Bool.{Bool}
use lib.Pow.{pow-add, pow_pos, pow_mono, shr_lt}
use lib.Ieee.{Float, nan, inf, fin, up, down, nearest}
use lib.Ieee.Nearest.{closest, closest_same, nearest-ge}
use lib.Ieee.Exact.{HasValue}
use lib.Ieee.Fits.{down_pos}
use Rattle.float.specs.Promises.Jam.{jam}
use Rattle.float.specs.Laws.Near.{Cmp, cmp}
use Rattle.float.specs.Laws.Cut.{closest_jam}
use Rattle.page.specs.Decimal.{billion, billionths}
use Rattle.page.specs.Promises.Decimal.{Billionths, Beyond}

-- ---- rounding
-- to the nearest fourth part, as the program rounds
pub quarter : (w : ℕ) → (w + w / 4 % 2 + 1) / 4 ≡ closest w 4
quarter w = go (compare (w % 4 * 2) 4) (cmp (w % 4 * 2) 4)
  where
    go : (o : Ordering) → Cmp o (w % 4 * 2) 4 → (w + w / 4 % 2 + 1) / 4 ≡ nearest (w / 4) o
    go Ordering.lt h = omega arith
    go Ordering.eq h = omega arith
    go Ordering.gt h = omega arith

-- cut two digits below the point
pub cut : (n s : ℕ) → 2 ≤ s → closest (jam n (s - 2)) 4 ≡ closest n (2 ^ s)
cut n s h =
    let d = s - 2 in
    let p : 2 ^ suc (suc d) ≡ 2 ^ suc d * 2 = pow-suc 2 (suc d) in
    let e : suc (suc d) ≡ s = omega arith in
    sym (closest_jam n d 1 (zero-lt-suc 0)) ∙ ap (λ (u : ℕ). closest n u) (sym p ∙ ap (λ (k : ℕ). 2 ^ k) e)

-- what is left fits a word
cut_below : (n s : ℕ) → n < 2 ^ 83 → 33 ≤ s → jam n (s - 2) < 2 ^ 53
cut_below n s h l =
    let d = s - 2 in
    let r : n / 2 ^ suc d < 2 ^ 51 = shr_lt 51 (suc d) (lt_of_lt_of_le h (pow_mono (wide d (omega arith)))) in
    omega arith
  where
    wide : (d : ℕ) → 31 ≤ d → 83 ≤ 51 + suc d
    wide d h = omega arith

-- ---- the float
-- below the limit the place says how far to cut
pub below : (x : Float) (s : Bool) (q k : ℕ) → k ≤ 1041 → HasValue x s (q * 2 ^ k) (2 ^ 1074)
    → Billionths x s (closest (q * billion) (2 ^ (1074 - k)))
below nan s q k h v = v
below (inf t) s q k h v = v
below (fin t m e) s q k h v =
    (sym v.0, closest_same (q * billion) (2 ^ (1074 - k)) (m * up e * billion) (down e) (pow_pos (1074 - k)) (down_pos e) same)
  where
    one : 2 ^ (1074 - k) * 2 ^ k ≡ 2 ^ 1074
    one = sym (pow-add 2 (1074 - k) k) ∙ ap (λ (j : ℕ). 2 ^ j) (whole k h)
      where
        whole : (k : ℕ) → k ≤ 1041 → 1074 - k + k ≡ 1074
        whole k h = omega arith

    scale : (a p k b q c : ℕ) → a * (p * k) ≡ q * k * c → q * b * c * k ≡ a * b * p * k
    scale a p k b q c e = let w : a * (p * k) * b ≡ q * k * c * b = ap (λ (y : ℕ). y * b) e in omega arith

    same : q * billion * down e ≡ m * up e * billion * 2 ^ (1074 - k)
    same =
        eq_of_mul-eq-mul_right (2 ^ k) (pow_pos k) (q * billion * down e) (m * up e * billion * 2 ^ (1074 - k))
        (scale (m * up e) (2 ^ (1074 - k)) (2 ^ k) billion q (down e) (ap (λ (y : ℕ). m * up e * y) one ∙ v.1))

-- from 2 ^ 20 on there are too many
pub beyond : (x : Float) (s : Bool) (q k : ℕ) → 1042 ≤ k → 2 ^ 52 ≤ q → HasValue x s (q * 2 ^ k) (2 ^ 1074) → Beyond x
beyond nan s q k h f v = v
beyond (inf t) s q k h f v = v
beyond (fin t m e) s q k h f v = large
  where
    -- P is as many units as there are in 1
    big : (P w d a : ℕ) → 0 < P → 2 ^ 20 * P * d ≤ w * d → a * P ≡ w * d → 1000000000000000 * d ≤ a * billion
    big P w d a l h e =
        let x : 2 ^ 20 * d * P ≤ a * P = omega arith in
        let y : 2 ^ 20 * d ≤ a = le_of_mul-le-mul_right x l in
        omega arith

    large : 1000000000000000 ≤ billionths m e
    large =
        let p : 2 ^ 52 * 2 ^ 1042 ≤ q * 2 ^ k = mul-le-mul f (pow_mono h) in
        let g : 2 ^ 20 * 2 ^ 1074 * down e ≤ q * 2 ^ k * down e = mul-le-mul_right (down e) p in
        le_trans ((le-div_iff_mul-le (down_pos e)).1 (big (2 ^ 1074) (q * 2 ^ k) (down e) (m * up e) (pow_pos 1074) g v.1))
        (nearest-ge (m * up e * billion / down e) (compare (m * up e * billion % down e * 2) (down e)))

-- ---- as the program has it
-- what is left of the product, by the factors that the program multiplies
pub left : (q s a b w : ℕ) → q < 2 ^ 53 → 33 ≤ s → a ≡ q → b ≡ billion → w ≡ jam (a * b) (s - 2)
    → (w ≡ jam (q * billion) (s - 2)) × (w < 2 ^ 53)
left q s a b w h l e f g =
    let p : a * b ≡ q * billion = λ i. e i * f i in
    let j : w ≡ jam (q * billion) (s - 2) = g ∙ ap (λ (n : ℕ). jam n (s - 2)) p in
    (j, omega (arith, j, cut_below (q * billion) s (omega arith) l))

pub scaled_is : (q s lo : ℕ) → 33 ≤ s → lo ≡ jam (q * billion) (s - 2) → (lo + lo / 4 % 2 + 1) / 4 ≡ closest (q * billion) (2 ^ s)
scaled_is q s lo l e = quarter lo ∙ ap (λ (w : ℕ). closest w 4) e ∙ cut (q * billion) s (omega arith)

-- 10 ^ 15 of them and more
pub many : (x : Float) (s : Bool) (n : ℕ) → Billionths x s n → 1000000000000000 ≤ n → Beyond x
many nan s n b h = b
many (inf t) s n b h = b
many (fin t m e) s n b h = omega (arith, b.1)
