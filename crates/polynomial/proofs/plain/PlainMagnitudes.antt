-- The sum of both parts' magnitudes, in units: about 2 ^ 52 * h at most, with the h of `PlainStep`, so that the bound of `near-zero` is at most 2 * h + 1.
use Prim.Native.Nat.{ℕ, ◌+◌, ◌-◌, ◌*◌, ◌^◌, ◌≤◌}
use native.Mathlib.Nat.{le_trans, le_of_eq, mul-le-mul_left, mul-le-mul_right}
use native.Mathlib.Omega.{arith}
use mathlib.Core.Path.{◌≡◌, refl, sym, ap, ◌∙◌}
use mathlib.Core.Logic.{◌⊎◌, inl, inr}
use lib.Ieee.{Float, binary64, fits, mul}
use Rattle.float.specs.Number.{◌⊕◌, ◌⊗◌, abs}
use Rattle.float.specs.Laws.Units.{Is}
use Rattle.float.specs.Laws.Whole.{whole_is}
use Rattle.float.specs.Laws.Close.{Close, Room, W, abs_units}
use Rattle.polynomial.specs.Polynomial.{roundoff}
use Rattle.polynomial.proofs.plain.PlainSteps.{Small, close_to, add_to}
use Rattle.polynomial.proofs.plain.PlainProducts.{multiplied}

pub abs_close : (x : Float) (e : ℕ) → Close x 0 0 e → Close (abs x) 0 0 e
abs_close x e c = let a = abs_units c.r c.s c.is in record { r = a.0; s = 0; is = a.1; over = go a.0 a.4; under = omega arith }
  where
    go : (k : ℕ) → (k + c.r ≡ c.s) ⊎ (k + c.s ≡ c.r) → k + 0 ≤ 0 + 0 + e
    go k (inl h) = let u = c.under in omega arith
    go k (inr h) = let o = c.over in omega arith

close_small : (x : Float) (e : ℕ) (c : Close x 0 0 e) → Small c.r c.s e
close_small x e c = let o = c.over in let u = c.under in (omega arith, omega arith)

-- a product by z units, where e of z units are at most U
times_close : (y x : Float) (e z U g : ℕ) → Room g → e * z ≤ U * W → U ≤ 2 ^ 53 * g → Close y 0 0 e → Is binary64 x z 0 0 → Close (y ⊗ x) 0 0 (U + g)
times_close y x e z U g k a b c i = (multiplied c.r c.s z 0 e z U g k (close_small y e c) (omega arith, omega arith) a b c.is i).size

-- what the product and the sums of a step come to
fits_all : (a Q D g : ℕ) → a * Q ≤ 300 * Q → Q + D ≤ g → ((2 ^ 52 + a) * Q ≤ 2 ^ 53 * g) × ((2 ^ 52 + a) * Q + 2 * g + 2 ^ 52 * D ≤ 2 ^ 53 * g)
fits_all a Q D g h l = (omega arith, omega arith)

all_of : (a Q D g : ℕ) → a * Q ≤ a * g → Q + D ≤ g → (2 ^ 52 + a) * Q + 2 ^ 52 * D + 3 * g ≤ (2 ^ 52 + (a + 3)) * g
all_of a Q D g h l = omega arith

-- one step: the h units of before, times x, are at most Q
pub magnitudes_step : (y x b c : Float) (z D Q a h g : ℕ) → Room g → a ≤ 300 → Q + D ≤ g → z * h ≤ Q * W → Is binary64 x z 0 0
    → Close b 0 0 ((2 ^ 52 - 1) * D) → Close c 0 0 D → Close y 0 0 ((2 ^ 52 + a) * h) → Close (y ⊗ x ⊕ b ⊕ c) 0 0 ((2 ^ 52 + (a + 3)) * g)
magnitudes_step y x b c z D Q a h g k small l f i ub uc uy =
    sum (fits_all a Q D g (mul-le-mul_right Q small) l) (all_of a Q D g (mul-le-mul_left a (let q : Q ≤ g = omega arith in q)) l)
  where
    over : (2 ^ 52 + a) * h * z ≤ (2 ^ 52 + a) * Q * W
    over = let e = mul-le-mul_left (2 ^ 52 + a) f in omega arith

    sum : ((2 ^ 52 + a) * Q ≤ 2 ^ 53 * g) × ((2 ^ 52 + a) * Q + 2 * g + 2 ^ 52 * D ≤ 2 ^ 53 * g)
        → (2 ^ 52 + a) * Q + 2 ^ 52 * D + 3 * g ≤ (2 ^ 52 + (a + 3)) * g
        → Close (y ⊗ x ⊕ b ⊕ c) 0 0 ((2 ^ 52 + (a + 3)) * g)
    sum e d =
        let t = times_close y x ((2 ^ 52 + a) * h) z ((2 ^ 52 + a) * Q) g k over e.0 uy i in
        let u = add_to g 0 0 ((2 ^ 52 + a) * Q + (2 ^ 52 - 1) * D + 2 * g) k t ub (omega arith) in
        add_to g 0 0 ((2 ^ 52 + (a + 3)) * g) k u uc (omega arith)

-- ---- the bound of `near-zero`
-- the units of 2 ^ -97
unfoldable tiny : ℕ
tiny = 2 ^ 977

tiny_is : W ≡ 2 ^ 97 * tiny
unfolding W tiny
tiny_is = refl

roundoff_is : Is binary64 roundoff tiny 0 0
unfolding tiny fits mul
roundoff_is = whole_is binary64 roundoff tt tt

tiny_part : (a h t w : ℕ) → a ≤ 300 → w ≡ 2 ^ 97 * t → t * ((2 ^ 52 + a) * h) ≤ h * w
tiny_part a h t w l e = le_trans (mul-le-mul_left t (mul-le-mul_right h (let m : 2 ^ 52 + a ≤ 2 ^ 97 = omega arith in m)))
    (le_of_eq (rearranged h t ∙ sym (ap (λ (y : ℕ). h * y) e)))
  where
    rearranged : (h t : ℕ) → t * (2 ^ 97 * h) ≡ h * (2 ^ 97 * t)
    rearranged h t = omega arith

pub bound_close : (y : Float) (a h : ℕ) → a ≤ 300 → Room (h + 1) → Close y 0 0 ((2 ^ 52 + a) * h) → Close (roundoff ⊗ y) 0 0 (2 * h + 1)
bound_close y a h l k c =
    close_to 0 0 (2 * h + 1)
    (multiplied tiny 0 c.r c.s tiny ((2 ^ 52 + a) * h) h (h + 1) k (omega arith, omega arith) (close_small y ((2 ^ 52 + a) * h) c)
    (tiny_part a h tiny W l tiny_is) (omega arith) roundoff_is c.is).size
    (omega arith)
