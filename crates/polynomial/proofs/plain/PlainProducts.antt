-- Products in units: how large they are, and how far apart the products of two values by one are.
use Prim.Native.Nat.{ℕ, ◌+◌, ◌-◌, ◌*◌, ◌^◌, ◌≤◌, ◌<◌}
use native.Mathlib.Nat.{le_of_lt, mul-le-mul_left, mul-le-mul_right, le_of_mul-le-mul_right}
use native.Mathlib.Omega.{arith}
use mathlib.Core.Path.{◌≡◌, subst}
use mathlib.Core.Bool.{Bool, true, false, not}
use lib.Dec.{T, leb, leb→le, nleb→lt}
use lib.Pow.{pow_pos}
use lib.Ieee.{Float, binary64}
use Rattle.float.specs.Number.{◌⊗◌}
use Rattle.float.specs.ProductError.{product_error}
use Rattle.float.specs.Laws.Units.{Is}
use Rattle.float.specs.Laws.Close.{Close, Room, Product, W, mul_close, error_close}
use Rattle.polynomial.proofs.plain.PlainSteps.{Small, Apart}

pub W-pos : 0 < W
unfolding W
W-pos = pow_pos 1074

-- ---- the size of (p - n) * (q - m)
forward : (p n m t A z : ℕ) → p ≤ n + A → t ≤ z → p * (m + t) + n * m ≤ p * m + n * (m + t) + A * z
forward p n m t A z h k = let a = mul-le-mul_right t h in let b = mul-le-mul_left A k in omega arith

backward : (p n q t A z : ℕ) → n ≤ p + A → t ≤ z → p * q + n * (q + t) ≤ p * (q + t) + n * q + A * z
backward p n q t A z h k = let a = mul-le-mul_right t h in let b = mul-le-mul_left A k in omega arith

cross : (p n q m A z : ℕ) → Small p n A → Small q m z → p * q + n * m ≤ p * m + n * q + A * z
cross p n q m A z a b = go (leb m q) (leb→le m q) (nleb→lt m q)
  where
    back : (u v : ℕ) → v ≤ u → v + (u - v) ≡ u
    back u v h = omega arith

    at_most : (u v : ℕ) → v ≤ u → u ≤ v + z → u - v ≤ z
    at_most u v h k = omega arith

    go : (t : Bool) → (T t → m ≤ q) → (T (not t) → q < m) → p * q + n * m ≤ p * m + n * q + A * z
    go true h k = subst (λ (y : ℕ). p * y + n * m ≤ p * m + n * y + A * z) (back q m (h tt)) (forward p n m (q - m) A z a.0 (at_most q m (h tt) b.0))
    go false h k =
        let l = le_of_lt (k tt) in
        subst (λ (y : ℕ). p * q + n * y ≤ p * y + n * q + A * z) (back m q l) (backward p n q (m - q) A z a.1 (at_most m q l b.1))

-- both sides of it
crossed : (p n q m A z : ℕ) → Small p n A → Small q m z → (p * q + n * m ≤ p * m + n * q + A * z) × (p * m + n * q ≤ p * q + n * m + A * z)
crossed p n q m A z a b = let u = cross p n q m A z a b in let v = cross p n m q A z a (b.1, b.0) in (u, omega arith)

-- ---- a product of at most U units
off_zero : (r s a b U h w : ℕ) → 0 < w → r * w + b ≤ a + s * w + h * w → a ≤ b + U * w → r ≤ s + (U + h)
off_zero r s a b U h w o x y = le_of_mul-le-mul_right (let g : r * w ≤ (s + (U + h)) * w = omega arith in g) o

pub record Multiplied (x y : Float) (p n q m U h : ℕ) : Type 0 where
  pub product : Product (x ⊗ y) (p * q + n * m) (p * m + n * q) h
  pub bound : Small product.r product.s (U + h)
  pub size : Close (x ⊗ y) 0 0 (U + h)
  pub error : Close (product_error x y) 0 0 (2 * h)

pub multiplied : {x y : Float} (p n q m A z U h : ℕ) → Room h → Small p n A → Small q m z → A * z ≤ U * W → U ≤ 2 ^ 53 * h → Is binary64 x p n 0
    → Is binary64 y q m 0 → Multiplied x y p n q m U h
multiplied {x = x} {y = y} p n q m A z U h k a b c d i j = go (mul_close p n q m h k o1 o2 i j)
  where
    top : U * W ≤ 2 ^ 53 * h * W
    top = mul-le-mul_right W d

    both : (p * q + n * m ≤ p * m + n * q + A * z) × (p * m + n * q ≤ p * q + n * m + A * z)
    both = crossed p n q m A z a b

    o1 : p * q + n * m ≤ p * m + n * q + 2 ^ 53 * h * W
    o1 = omega (arith, top, both)

    o2 : p * m + n * q ≤ p * q + n * m + 2 ^ 53 * h * W
    o2 = omega (arith, top, both)

    go : Product (x ⊗ y) (p * q + n * m) (p * m + n * q) h → Multiplied x y p n q m U h
    go t =
        let o = t.over in
        let u = t.under in
        let f1 : t.r ≤ t.s + (U + h) = off_zero t.r t.s (p * q + n * m) (p * m + n * q) U h W W-pos o (omega (arith, both)) in
        let f2 : t.s ≤ t.r + (U + h) = off_zero t.s t.r (p * m + n * q) (p * q + n * m) U h W W-pos (omega arith) (omega (arith, both)) in
        record {
          product = t;
          bound = (f1, f2);
          size = record { r = t.r; s = t.s; is = t.is; over = omega arith; under = omega arith };
          error = error_close p n q m h k o1 o2 i j;
        }

-- ---- two products by one value
near_products : (r s r' s' a b a' b' E h w : ℕ) → 0 < w → r * w + b ≤ a + s * w + h * w → a' + s' * w ≤ r' * w + b' + h * w → a + b' ≤ a' + b + E * w
    → r + s' ≤ r' + s + (E + 2 * h)
near_products r s r' s' a b a' b' E h w o x y c = le_of_mul-le-mul_right (let g : (r + s') * w ≤ (r' + s + (E + 2 * h)) * w = omega arith in g) o

pub products_apart : {u v : Float} (p n s t q m e z E h : ℕ) → Apart p n s t e → Small q m z → e * z ≤ E * W
    → (a : Product u (p * q + n * m) (p * m + n * q) h) (b : Product v (s * q + t * m) (s * m + t * q) h)
    → Apart a.r a.s b.r b.s (E + 2 * h)
products_apart p n s t q m e z E h k l w a b = (
  near_products a.r a.s b.r b.s (p * q + n * m) (p * m + n * q) (s * q + t * m) (s * m + t * q) E h W W-pos a.over b.under
      (omega (arith, both)),
  near_products b.r b.s a.r a.s (s * q + t * m) (s * m + t * q) (p * q + n * m) (p * m + n * q) E h W W-pos b.over a.under
      (omega (arith, both)),
)
  where
    both : ((p + t) * q + (s + n) * m ≤ (p + t) * m + (s + n) * q + e * z) × ((p + t) * m + (s + n) * q ≤ (p + t) * q + (s + n) * m + e * z)
    both = crossed (p + t) (s + n) q m e z k l
