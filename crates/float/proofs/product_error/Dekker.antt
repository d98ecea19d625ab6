-- Dekker's product: for a = A * 2 ^ i and b = B * 2 ^ j units with A and B of 53 digits, every
-- step of (((ah·bh − p) + ah·bl) + al·bh) + al·bl but the last is exact,
-- and the last rounds the exact error a·b − p, which the fused product of a, b and −p rounds too.
use Rattle.std.proofs.Common.{◌≡◌, ℕ, ◌+◌, ◌-◌, ◌*◌, ◌^◌, ◌<◌, ◌≤◌, Bool, true, false, not, T, ltb, leb, sym, ◌∙◌, subst, ap₂, le_trans, le_of_eq}
use Rattle.std.proofs.Common.{mul-le-mul_right, mul_assoc, add-mul, mul-le-mul, mul-le-mul_left, mul-add, mul_right_comm, arith, ltb→lt, leb→le}
use Rattle.std.proofs.Common.{nltb→le, pow_pos}
use lib.Dec.{nleb→lt}
use lib.Ieee.{Float, Format, binary64, add, sub, mul}
use lib.Ieee.Nearest.{closest}
use Rattle.float.specs.Laws.Units.{Is, Is-add, Is-sub, Is-mul, Is-shift, Is-unit, Is-ununit}
use Rattle.float.specs.Laws.Near.{closest_near, mul_near}
use Rattle.float.specs.Promises.Halves.{high_half, low_half}
use Rattle.float.proofs.product_error.Split.{Halves}

-- ---- |x - y| ≤ e
pub record Apart (x y e : ℕ) : Type 0 where
  pub over : x ≤ y + e
  pub under : y ≤ x + e

-- (A - H) (B - G) ≤ E * E
corner : (A H B G E : ℕ) → A ≤ H + E → H ≤ A + E → B ≤ G + E → G ≤ B + E → A * B + H * G ≤ A * G + H * B + E * E
corner A H B G E a b c d = go (leb H A) (leb G B) (leb→le H A) (nleb→lt H A) (leb→le G B) (nleb→lt G B)
  where
    -- (h + x) (g + y) + h g against (h + x) g + h (g + y)
    grow : (h x g y : ℕ) → x ≤ E → y ≤ E → (h + x) * (g + y) + h * g ≤ (h + x) * g + h * (g + y) + E * E
    grow h x g y p q =
        let e1 : (h + x) * (g + y) ≡ h * g + x * g + (h * y + x * y) = mul-add (h + x) g y ∙ ap₂ (λ (u v : ℕ). u + v) (add-mul h x g) (add-mul h x y) in
        let e2 : (h + x) * g ≡ h * g + x * g = add-mul h x g in
        let e3 : h * (g + y) ≡ h * g + h * y = mul-add h g y in
        let l : x * y ≤ E * E = mul-le-mul p q in
        omega arith

    -- one up and one down: no more than 0
    fall : (h x g y : ℕ) → (h + x) * g + h * (g + y) ≤ (h + x) * (g + y) + h * g
    fall h x g y =
        let e1 : (h + x) * (g + y) ≡ h * g + x * g + (h * y + x * y) = mul-add (h + x) g y ∙ ap₂ (λ (u v : ℕ). u + v) (add-mul h x g) (add-mul h x y) in
        let e2 : (h + x) * g ≡ h * g + x * g = add-mul h x g in
        let e3 : h * (g + y) ≡ h * g + h * y = mul-add h g y in
        omega arith

    go : (s t : Bool) → (T s → H ≤ A) → (T (not s) → A < H) → (T t → G ≤ B) → (T (not t) → B < G) → A * B + H * G ≤ A * G + H * B + E * E
    go true true p q r s =
        let u : H ≤ A = p tt in
        let v : G ≤ B = r tt in
        let eA : A ≡ H + (A - H) = omega arith in
        let eB : B ≡ G + (B - G) = omega arith in
        subst (λ (z : ℕ). z * B + H * G ≤ z * G + H * B + E * E) (sym eA)
        (subst (λ (z : ℕ). (H + (A - H)) * z + H * G ≤ (H + (A - H)) * G + H * z + E * E) (sym eB)
        (grow H (A - H) G (B - G) (omega arith) (omega arith)))
    go false false p q r s =
        let u : A < H = q tt in
        let v : B < G = s tt in
        let eH : H ≡ A + (H - A) = omega arith in
        let eG : G ≡ B + (G - B) = omega arith in
        let g = grow A (H - A) B (G - B) (omega arith) (omega arith) in
        let g' : H * G + A * B ≤ H * B + A * G + E * E = subst (λ (z : ℕ). z * G + A * B ≤ z * B + A * G + E * E) (sym eH)
        (subst (λ (z : ℕ). (A + (H - A)) * z + A * B ≤ (A + (H - A)) * B + A * z + E * E) (sym eG) g) in
        omega arith
    go true false p q r s =
        let u : H ≤ A = p tt in
        let v : B < G = s tt in
        let eA : A ≡ H + (A - H) = omega arith in
        let eG : G ≡ B + (G - B) = omega arith in
        let g = fall H (A - H) B (G - B) in
        let g' : A * B + H * G ≤ A * G + H * B = subst (λ (z : ℕ). z * B + H * G ≤ z * G + H * B) (sym eA)
        (subst (λ (z : ℕ). (H + (A - H)) * B + H * z ≤ (H + (A - H)) * z + H * B) (sym eG) g) in
        omega arith
    go false true p q r s =
        let u : A < H = q tt in
        let v : G ≤ B = r tt in
        let eH : H ≡ A + (H - A) = omega arith in
        let eB : B ≡ G + (B - G) = omega arith in
        let g = fall A (H - A) G (B - G) in
        let g' : H * G + A * B ≤ H * B + A * G = subst (λ (z : ℕ). z * G + A * B ≤ z * B + A * G) (sym eH)
        (subst (λ (z : ℕ). (A + (H - A)) * G + A * z ≤ (A + (H - A)) * z + A * G) (sym eB) g) in
        omega arith

-- ---- the product, rounded: a multiple of 2 ^ 52 within 2 ^ 52
pub record Product (a b : Float) (A B k : ℕ) : Type 0 where
  pub Q : ℕ
  pub is : Is binary64 (mul binary64 a b) (Q * 2 ^ 52) 0 k
  pub close : Apart (Q * 2 ^ 52) (A * B) (2 ^ 52)

pub product : (a b : Float) (A B i j k : ℕ) → i + j ≡ 1074 + k → k < 1900 → 2 ^ 52 ≤ A → A < 2 ^ 53 → 2 ^ 52 ≤ B → B < 2 ^ 53 → Is binary64 a A 0 i
    → Is binary64 b B 0 j → Product a b A B k
product a b A B i j k e r la ha lb hb x y = go (ltb (A * B) (2 ^ 105)) (ltb→lt (A * B) (2 ^ 105)) (nltb→le (A * B) (2 ^ 105))
  where
    lo : 2 ^ 104 ≤ A * B
    lo = mul-le-mul la lb

    hi : A * B < 2 ^ 106
    hi =
        let p : A ≤ 2 ^ 53 - 1 = omega arith in
        let q : B ≤ 2 ^ 53 - 1 = omega arith in
        let u : A * B ≤ (2 ^ 53 - 1) * (2 ^ 53 - 1) = mul-le-mul p q in
        omega arith

    go : (s : Bool) → (T s → A * B < 2 ^ 105) → (T (not s) → 2 ^ 105 ≤ A * B) → Product a b A B k
    go true u v =
        let n = closest_near (A * B) (2 ^ 52) (pow_pos 52) in
        record {
          Q = closest (A * B) (2 ^ 52);
          is = mul_near binary64 a b A B 52 i j k e lo (u tt) (omega arith) x y;
          close = record { over = omega arith; under = omega arith };
        }
    go false u v =
        let n = closest_near (A * B) (2 ^ 53) (pow_pos 53) in
        record {
          Q = closest (A * B) (2 ^ 53) * 2;
          is = subst (λ (z : ℕ). Is binary64 (mul binary64 a b) z 0 k) (sym (mul_assoc (closest (A * B) (2 ^ 53)) 2 (2 ^ 52)))
              (mul_near binary64 a b A B 53 i j k e (v tt) hi (omega arith) x y);
          close = record { over = omega arith; under = omega arith };
        }

-- ---- the partial products, by the numbers A, B, h, g: with H = h * 2 ^ 27 and G = g * 2 ^ 27
pub record Numbers (A B h g : ℕ) : Type 0 where
  pub hg : h * g ≤ 2 ^ 52
  pub HB : Apart (h * B * 2 ^ 27) (A * B) (2 ^ 79)
  pub h_b : Apart (h * B) (h * g * 2 ^ 27) (2 ^ 52)
  pub Ag : Apart (A * g) (h * g * 2 ^ 27) (2 ^ 52)
  pub tail : Apart (A * B + h * g * 2 ^ 54) (A * g * 2 ^ 27 + h * B * 2 ^ 27) (2 ^ 52)

pub numbers : (A B h g : ℕ) → B < 2 ^ 53 → h ≤ 2 ^ 26 → g ≤ 2 ^ 26 → A ≤ h * 2 ^ 27 + 2 ^ 26 → h * 2 ^ 27 ≤ A + 2 ^ 26 → B ≤ g * 2 ^ 27 + 2 ^ 26
    → g * 2 ^ 27 ≤ B + 2 ^ 26 → Numbers A B h g
numbers A B h g hb fh fg ao au bo bu =
    let q1 : h * (g * 2 ^ 27) ≡ h * g * 2 ^ 27 = sym (mul_assoc h g (2 ^ 27)) in
    let q2 : h * 2 ^ 27 * g ≡ h * g * 2 ^ 27 = mul_right_comm h (2 ^ 27) g in
    let q3 : A * (g * 2 ^ 27) ≡ A * g * 2 ^ 27 = sym (mul_assoc A g (2 ^ 27)) in
    let q4 : h * 2 ^ 27 * B ≡ h * B * 2 ^ 27 = mul_right_comm h (2 ^ 27) B in
    let q5 : h * 2 ^ 27 * (g * 2 ^ 27) ≡ h * g * 2 ^ 54 = native.Mathlib.Nat.mul-mul-mul_comm h (2 ^ 27) g (2 ^ 27) in
    let a1 : A * B ≤ h * 2 ^ 27 * B + 2 ^ 26 * B = le_trans (mul-le-mul_right B ao) (le_of_eq (add-mul (h * 2 ^ 27) (2 ^ 26) B)) in
    let a2 : h * 2 ^ 27 * B ≤ A * B + 2 ^ 26 * B = le_trans (mul-le-mul_right B au) (le_of_eq (add-mul A (2 ^ 26) B)) in
    let b1 : h * B ≤ h * (g * 2 ^ 27) + h * 2 ^ 26 = le_trans (mul-le-mul_left h bo) (le_of_eq (mul-add h (g * 2 ^ 27) (2 ^ 26))) in
    let b2 : h * (g * 2 ^ 27) ≤ h * B + h * 2 ^ 26 = le_trans (mul-le-mul_left h bu) (le_of_eq (mul-add h B (2 ^ 26))) in
    let c1 : A * g ≤ h * 2 ^ 27 * g + 2 ^ 26 * g = le_trans (mul-le-mul_right g ao) (le_of_eq (add-mul (h * 2 ^ 27) (2 ^ 26) g)) in
    let c2 : h * 2 ^ 27 * g ≤ A * g + 2 ^ 26 * g = le_trans (mul-le-mul_right g au) (le_of_eq (add-mul A (2 ^ 26) g)) in
    let d1 = corner A (h * 2 ^ 27) B (g * 2 ^ 27) (2 ^ 26) ao au bo bu in
    let d2 = corner A (h * 2 ^ 27) (g * 2 ^ 27) B (2 ^ 26) ao au bu bo in
    record {
      hg = mul-le-mul fh fg;
      HB = record { over = omega arith; under = omega arith };
      h_b = record { over = omega arith; under = omega arith };
      Ag = record { over = omega arith; under = omega arith };
      tail = record { over = omega arith; under = omega arith };
    }

-- ---- the steps
Is_at : (f : Format) (x : Float) (p n i j : ℕ) → i ≡ j → Is f x p n i → Is f x p n j
Is_at f x p n i j e k = subst (λ (z : ℕ). Is f x p n z) e k

abbrev pub step1 : Float → Float → Float
step1 a b = sub binary64 (mul binary64 (high_half a) (high_half b)) (mul binary64 a b)

abbrev pub step2 : Float → Float → Float
step2 a b = add binary64 (step1 a b) (mul binary64 (high_half a) (low_half b))

abbrev pub step3 : Float → Float → Float
step3 a b = add binary64 (step2 a b) (mul binary64 (low_half a) (high_half b))

abbrev pub dekker : Float → Float → Float
dekker a b = add binary64 (step3 a b) (mul binary64 (low_half a) (low_half b))

module _ (a b : Float) (A B i j k h g : ℕ) (e : i + j ≡ 1074 + k) (r : k < 1900) (x : Halves a A i h) (y : Halves b B j g) (N : Numbers A B h g)
    (p : Product a b A B k) where
  pub first : Is binary64 (step1 a b) (h * g * 4) p.Q (k + 27 + 25)
  first =
      let n0 = N.hg in
      let n1 = N.HB in
      let n2 = N.h_b in
      let n3 = p.close in
      let hh : Is binary64 (mul binary64 (high_half a) (high_half b)) (h * g * 4) 0 (k + 27 + 25) =
      Is-shift binary64 (mul binary64 (high_half a) (high_half b)) ((h * g + 0 * 0) * 2 ^ 2) ((h * 0 + 0 * g) * 2 ^ 2) (h * g * 4) 0 (k + 27 + 25) (omega arith)
      (Is-unit binary64 (mul binary64 (high_half a) (high_half b)) (h * g + 0 * 0) (h * 0 + 0 * g) (k + 27 + 25) 2
      (Is-mul binary64 (high_half a) (high_half b) h 0 g 0 (i + 27) (j + 27) (k + 27 + 25 + 2) (omega arith) (omega arith) (omega arith) (omega arith)
      x.top y.top)) in
      let pp : Is binary64 (mul binary64 a b) p.Q 0 (k + 27 + 25) = Is_at binary64 (mul binary64 a b) p.Q 0 (k + 52) (k + 27 + 25) (omega arith)
      (Is-ununit binary64 (mul binary64 a b) p.Q 0 k 52 p.is) in
      Is-shift binary64 (step1 a b) (h * g * 4 + 0) (0 + p.Q) (h * g * 4) p.Q (k + 27 + 25) (omega arith)
      (Is-sub binary64 (mul binary64 (high_half a) (high_half b)) (mul binary64 a b) (h * g * 4) 0 p.Q 0 (k + 27 + 25) (omega arith) (omega arith)
      (omega arith) hh pp)

  pub second : Is binary64 (step2 a b) (h * B) (p.Q * 2 ^ 25) (k + 27)
  second =
      let n1 = N.HB in
      let n2 = N.h_b in
      let n3 = p.close in
      let q1 : h * (g * 2 ^ 27) ≡ h * g * 2 ^ 27 = sym (mul_assoc h g (2 ^ 27)) in
      let f1 = Is-unit binary64 (step1 a b) (h * g * 4) p.Q (k + 27) 25 first in
      let f2 = Is-mul binary64 (high_half a) (low_half b) h 0 B (g * 2 ^ 27) (i + 27) j (k + 27) (omega arith) (omega arith) (omega arith)
      (omega arith) x.top y.low in
      Is-shift binary64 (step2 a b) (h * g * 4 * 2 ^ 25 + (h * B + 0 * (g * 2 ^ 27))) (p.Q * 2 ^ 25 + (h * (g * 2 ^ 27) + 0 * B)) (h * B)
      (p.Q * 2 ^ 25) (k + 27) (omega arith)
      (Is-add binary64 (step1 a b) (mul binary64 (high_half a) (low_half b)) (h * g * 4 * 2 ^ 25) (p.Q * 2 ^ 25) (h * B + 0 * (g * 2 ^ 27))
      (h * (g * 2 ^ 27) + 0 * B) (k + 27) (omega arith) (omega arith) (omega arith) f1 f2)

  pub third : Is binary64 (step3 a b) (h * B + A * g) (p.Q * 2 ^ 25 + h * g * 2 ^ 27) (k + 27)
  third =
      let n1 = N.tail in
      let n2 = N.Ag in
      let n3 = p.close in
      let q2 : h * 2 ^ 27 * g ≡ h * g * 2 ^ 27 = mul_right_comm h (2 ^ 27) g in
      let f2 = Is-mul binary64 (low_half a) (high_half b) A (h * 2 ^ 27) g 0 i (j + 27) (k + 27) (omega arith) (omega arith) (omega arith)
      (omega arith) x.low y.top in
      Is-shift binary64 (step3 a b) (h * B + (A * g + h * 2 ^ 27 * 0)) (p.Q * 2 ^ 25 + (A * 0 + h * 2 ^ 27 * g)) (h * B + A * g)
      (p.Q * 2 ^ 25 + h * g * 2 ^ 27) (k + 27) (omega arith)
      (Is-add binary64 (step2 a b) (mul binary64 (low_half a) (high_half b)) (h * B) (p.Q * 2 ^ 25) (A * g + h * 2 ^ 27 * 0) (A * 0 + h * 2 ^ 27 * g)
      (k + 27) (omega arith) (omega arith) (omega arith) second f2)

  pub fourth : Is binary64 (mul binary64 (low_half a) (low_half b)) (A * B + h * 2 ^ 27 * (g * 2 ^ 27)) (A * (g * 2 ^ 27) + h * 2 ^ 27 * B) k
  fourth =
      let n1 = N.tail in
      let q3 : A * (g * 2 ^ 27) ≡ A * g * 2 ^ 27 = sym (mul_assoc A g (2 ^ 27)) in
      let q4 : h * 2 ^ 27 * B ≡ h * B * 2 ^ 27 = mul_right_comm h (2 ^ 27) B in
      let q5 : h * 2 ^ 27 * (g * 2 ^ 27) ≡ h * g * 2 ^ 54 = native.Mathlib.Nat.mul-mul-mul_comm h (2 ^ 27) g (2 ^ 27) in
      Is-mul binary64 (low_half a) (low_half b) A (h * 2 ^ 27) B (g * 2 ^ 27) i j k e (omega arith) (omega arith) (omega arith) x.low y.low
