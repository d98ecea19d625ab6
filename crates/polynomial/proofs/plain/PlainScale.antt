-- One step of the sum of magnitudes, in units: the rounding of the values, which `PlainStep` counts in h units, stays a small part of it.
use Prim.Native.Nat.{ℕ, ◌+◌, ◌-◌, ◌*◌, ◌/◌, ◌^◌, ◌≤◌, ◌<◌}
use native.Mathlib.Nat.{le_trans, le_of_eq, le_of_lt, mul_assoc, mul_comm}
use native.Mathlib.Nat.{mul-le-mul_left, mul-le-mul_right, le_of_mul-le-mul_right, mul-div-le, lt-mul-div-succ}
use native.Mathlib.Omega.{arith}
use mathlib.Core.Path.{◌≡◌, sym}
use lib.Dec.{T, lit<, lit≤}
use lib.Ieee.{Float, binary64, add, le}
use lib.Ieee.Scale.{finite}
use Rattle.float.specs.Number.{◌⊕◌, ◌⊗◌, zero_float}
use Rattle.float.specs.Promises.Order.{Le}
use Rattle.float.specs.Laws.Le.{le→Le, add_mono}
use Rattle.float.specs.Laws.Grow.{mul_plus}
use Rattle.float.specs.Laws.Units.{Is, Is-shift, Is-Le, Le-Is}
use Rattle.float.specs.Laws.Close.{Close, Product, W, mul_close, close_add, close_self}
use Rattle.polynomial.proofs.plain.PlainProducts.{W-pos}
use Rattle.polynomial.proofs.plain.PlainStep.{zero_is}
use Rattle.polynomial.proofs.plain.PlainSize.{most, most_two, room}

-- ---- what is not negative is a count of units
not_negative : (x : Float) (k : ℕ) → Is binary64 x k 0 0 → Le zero_float x
not_negative x k i = Is-Le binary64 zero_float x 0 0 k 0 zero_is i (omega arith)

record Counted (x : Float) (r s : ℕ) : Type 0 where
  k : ℕ
  is : Is binary64 x k 0 0
  same : k + s ≡ r

counted : (x : Float) (r s : ℕ) → Is binary64 x r s 0 → Le zero_float x → Counted x r s
counted x r s i l =
    let h : 0 + s ≤ r + 0 = Le-Is binary64 zero_float x 0 0 r s zero_is i l in
    let e : r - s + s ≡ r = omega arith in
    record { k = r - s; is = Is-shift binary64 x r s (r - s) 0 0 (omega arith) i; same = e }

sum_plus : (x y : Float) → T (finite (x ⊕ y)) → Le zero_float x → Le zero_float y → Le zero_float (x ⊕ y)
unfolding add
sum_plus x y f a b = le→Le zero_float (x ⊕ y) tt f (add_mono binary64 a b)

-- ---- both operations, with a rounding of about a part of 2 ^ 53 of the result
-- y is the product of g and z, rounded down
record Times (s x : Float) (g z y : ℕ) : Type 0 where
  k : ℕ
  t : ℕ
  is : Is binary64 (s ⊗ x) k 0 0
  over : k ≤ y + 1 + t
  under : y ≤ k + t
  part : 2 ^ 53 * t ≤ y + 2 ^ 53

times_over : (k r s g z y t w : ℕ) → 0 < w → k + s ≡ r → r * w + (g * 0 + 0 * z) ≤ g * z + 0 * 0 + s * w + t * w → g * z ≤ (y + 1) * w → k ≤ y + 1 + t
times_over k r s g z y t w o e h l =
    let e' : (k + s) * w ≤ r * w = mul-le-mul_right w (le_of_eq e) in
    let f : k * w ≤ (y + 1 + t) * w = omega arith in
    le_of_mul-le-mul_right f o

times_under : (k r s g z y t w : ℕ) → 0 < w → k + s ≡ r → g * z + 0 * 0 + s * w ≤ r * w + (g * 0 + 0 * z) + t * w → y * w ≤ g * z → y ≤ k + t
times_under k r s g z y t w o e h l =
    let e' : r * w ≤ (k + s) * w = mul-le-mul_right w (le_of_eq (sym e)) in
    let f : y * w ≤ (k + t) * w = omega arith in
    le_of_mul-le-mul_right f o

part_of : (y : ℕ) → 2 ^ 53 * (y / 2 ^ 53 + 1) ≤ y + 2 ^ 53
part_of y = let m : 2 ^ 53 * (y / 2 ^ 53) ≤ y = mul-div-le y (2 ^ 53) in omega arith

whole_of : (y : ℕ) → y < 2 ^ 53 * (y / 2 ^ 53 + 1)
whole_of y = lt-mul-div-succ y (lit< tt)

scale_times : (s x : Float) (g z y : ℕ) → y ≤ 40 * most → y * W ≤ g * z → g * z ≤ (y + 1) * W → Is binary64 s g 0 0 → Is binary64 x z 0 0 → Times s x g z y
scale_times s x g z y l d e i j = go (y / 2 ^ 53 + 1) (part_of y) (whole_of y)
  where
    last : (t : ℕ) → 2 ^ 53 * t ≤ y + 2 ^ 53 → (a : Product (s ⊗ x) (g * z + 0 * 0) (g * 0 + 0 * z) t) → Counted (s ⊗ x) a.r a.s → Times s x g z y
    last t p a c =
        record {
          k = c.k;
          t = t;
          is = c.is;
          over = times_over c.k a.r a.s g z y t W W-pos c.same a.over e;
          under = times_under c.k a.r a.s g z y t W W-pos c.same a.under d;
          part = p;
        }

    go : (t : ℕ) → 2 ^ 53 * t ≤ y + 2 ^ 53 → y < 2 ^ 53 * t → Times s x g z y
    go t p q =
        let u : (y + 1) * W ≤ 2 ^ 53 * t * W = mul-le-mul_right W (let v : y + 1 ≤ 2 ^ 53 * t = omega arith in v) in
        let a = mul_close g 0 z 0 t (room t (omega arith) (let two = most_two in omega arith)) (omega arith) (omega arith) i j in
        last t p a (counted (s ⊗ x) a.r a.s a.is (mul_plus (not_negative s g i) (not_negative x z j) a.is.real))

record Plus (s x : Float) (g k : ℕ) : Type 0 where
  n : ℕ
  t : ℕ
  is : Is binary64 (s ⊕ x) n 0 0
  over : n ≤ g + k + t
  under : g + k ≤ n + t
  part : 2 ^ 53 * t ≤ g + k + 2 ^ 53

scale_plus : (s x : Float) (g k : ℕ) → g + k ≤ 40 * most → Is binary64 s g 0 0 → Is binary64 x k 0 0 → Plus s x g k
scale_plus s x g k l i j = go ((g + k) / 2 ^ 53 + 1) (part_of (g + k)) (whole_of (g + k))
  where
    last : (t : ℕ) → 2 ^ 53 * t ≤ g + k + 2 ^ 53 → (a : Close (s ⊕ x) (g + k) (0 + 0) (0 + 0 + t)) → Counted (s ⊕ x) a.r a.s → Plus s x g k
    last t p a c =
        let o = a.over in
        let u = a.under in
        let e = c.same in
        record { n = c.k; t = t; is = c.is; over = omega arith; under = omega arith; part = p }

    go : (t : ℕ) → 2 ^ 53 * t ≤ g + k + 2 ^ 53 → g + k < 2 ^ 53 * t → Plus s x g k
    go t p q =
        let a = close_add g 0 k 0 0 0 t (room t (omega arith) (let two = most_two in omega arith)) (omega arith) (omega arith) (close_self g 0 i)
        (close_self k 0 j) in
        last t p a (counted (s ⊕ x) a.r a.s a.is (sum_plus s x a.is.real (not_negative s g i) (not_negative x k j)))

-- ---- the step
-- h becomes q + 1 + D, and g becomes n; m times each is written out
in_units : (q D y k j t i n m K my mk mj mt mi mn : ℕ) → 2 ^ 102 * q ≤ my + m + K → 2 ^ 102 * D ≤ (2 ^ 50 + 1) * (j + (2 ^ 52 - 1)) → my ≤ mk + mt
    → mk + mj ≤ mn + mi → 2 ^ 50 * j ≤ mj
    → 7 * mt ≤ y + 2 ^ 53 → 7 * mi ≤ k + j + 2 ^ 53 → y ≤ k + t → k + j ≤ n + i → 8 * t ≤ y + 8 → 8 * i ≤ k + j + 8 → m ≤ 2 ^ 51
    → 2 ^ 102 * (q + 1 + D) ≤ mn + 2 * n + (K + 2 ^ 104)
in_units q D y k j t i n m K my mk mj mt mi mn a b c d e f g h l o p r =
    let z : my + mj + j ≤ mn + 2 * n + 2 ^ 55 = omega arith in
    omega arith

-- the part of the product, from what h was
first_part : (q h z g y m K w : ℕ) → 0 < w → q * w ≤ z * h → g * z ≤ (y + 1) * w → z ≤ w → 2 ^ 102 * h ≤ m * g + K → 2 ^ 102 * q ≤ m * y + m + K
first_part q h z g y m K w o a b c d =
    let e1 = mul-le-mul_left z d in
    let e2 = mul-le-mul_left m b in
    let e3 = mul-le-mul_right K c in
    let f : 2 ^ 102 * q * w ≤ (m * y + m + K) * w = omega arith in
    le_of_mul-le-mul_right f o

second_part : (j D : ℕ) → (2 ^ 52 - 1) * D ≤ j + (2 ^ 52 - 1) → 2 ^ 102 * D ≤ (2 ^ 50 + 1) * (j + (2 ^ 52 - 1))
second_part j D h = le_trans (le_trans (mul-le-mul_right D (lit≤ tt)) (le_of_eq (mul_assoc (2 ^ 50 + 1) (2 ^ 52 - 1) D))) (mul-le-mul_left (2 ^ 50 + 1) h)

seventh : (m t y : ℕ) → m ≤ 2 ^ 50 + 20 → 2 ^ 53 * t ≤ y + 2 ^ 53 → 7 * (m * t) ≤ y + 2 ^ 53
seventh m t y h k = let f = mul-le-mul_right t h in omega arith

eighth : (t y : ℕ) → 2 ^ 53 * t ≤ y + 2 ^ 53 → 8 * t ≤ y + 8
eighth t y k = omega arith

-- the old h and g are at most b
pub record Grown (s x c : Float) (q D m K b : ℕ) : Type 0 where
  pub n : ℕ
  pub is : Is binary64 (s ⊗ x ⊕ c) n 0 0
  pub bounded : n ≤ b + 4 * most
  pub below : 2 ^ 102 * (q + 1 + D) ≤ (m + 2) * n + (K + 2 ^ 104)

-- y is g * z / W
grown_at : (s x c : Float) (g z k q D h m K b y : ℕ) → y * W ≤ g * z → g * z ≤ (y + 1) * W → y ≤ g → z ≤ W → g ≤ b → b ≤ 36 * most → k ≤ most
    → q * W ≤ z * h → 2 ^ 102 * h ≤ m * g + K → 2 ^ 50 ≤ m → m ≤ 2 ^ 50 + 20
    → (2 ^ 52 - 1) * D ≤ k + (2 ^ 52 - 1) → Is binary64 s g 0 0 → Is binary64 x z 0 0 → Is binary64 c k 0 0 → Grown s x c q D m K b
grown_at s x c g z k q D h m K b y d1 d2 d3 zw gb bm km qh hg m1 m2 dk i j l = first (scale_times s x g z y (omega arith) d1 d2 i j)
  where
    concluded : (t : Times s x g z y) → Plus (s ⊗ x) c t.k k → t.t ≤ most → Grown s x c q D m K b
    concluded t p le = record { n = p.n; is = p.is; bounded = bound; below = under }
      where
        bound : p.n ≤ b + 4 * most
        bound =
            let o1 = t.over in
            let o2 = p.over in
            let o3 = p.part in
            let two = most_two in
            omega arith

        under : 2 ^ 102 * (q + 1 + D) ≤ (m + 2) * p.n + (K + 2 ^ 104)
        under =
            let e1 : m * y ≤ m * (t.k + t.t) = mul-le-mul_left m t.under in
            let e2 : m * (t.k + k) ≤ m * (p.n + p.t) = mul-le-mul_left m p.under in
            let w =
            in_units q D y t.k k t.t p.t p.n m K (m * y) (m * t.k) (m * k) (m * t.t) (m * p.t) (m * p.n)
            (first_part q h z g y m K W W-pos qh d2 zw hg) (second_part k D dk) (omega (arith, e1)) (omega (arith, e2)) (mul-le-mul_right k m1)
            (seventh m t.t y m2 t.part) (seventh m p.t (t.k + k) m2 p.part) t.under p.under (eighth t.t y t.part)
            (eighth p.t (t.k + k) p.part) (omega arith) in
            omega (arith, w)

    first : Times s x g z y → Grown s x c q D m K b
    first t =
        let o = t.over in
        let p = t.part in
        let two = most_two in
        let le : t.t ≤ most = omega arith in
        concluded t (scale_plus (s ⊗ x) c t.k k (omega arith) t.is l) le

-- g * z / W is at most g
pub quotient : (g z w : ℕ) → 0 < w → z ≤ w → (g * z / w * w ≤ g * z) × (g * z ≤ (g * z / w + 1) * w) × (g * z / w ≤ g)
quotient g z w o l =
    let a : g * z / w * w ≤ g * z = le_trans (le_of_eq (mul_comm (g * z / w) w)) (mul-div-le (g * z) w) in
    let b : g * z < w * (g * z / w + 1) = lt-mul-div-succ (g * z) o in
    (a, le_trans (le_of_lt b) (le_of_eq (mul_comm w (g * z / w + 1))), le_of_mul-le-mul_right (le_trans a (mul-le-mul_left g l)) o)

pub grown : (s x c : Float) (g z k q D h m K b : ℕ) → z ≤ W → g ≤ b → b ≤ 36 * most → k ≤ most → q * W ≤ z * h → 2 ^ 102 * h ≤ m * g + K → 2 ^ 50 ≤ m
    → m ≤ 2 ^ 50 + 20
    → (2 ^ 52 - 1) * D ≤ k + (2 ^ 52 - 1) → Is binary64 s g 0 0 → Is binary64 x z 0 0 → Is binary64 c k 0 0 → Grown s x c q D m K b
grown s x c g z k q D h m K b zw = let a = quotient g z W W-pos zw in grown_at s x c g z k q D h m K b (g * z / W) a.0 a.1 a.2 zw
