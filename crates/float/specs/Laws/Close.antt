-- Rounding errors, in units of the format's smallest value, 2 ^ -1074. `Close x p n e`: x is finite and at most e units away from p - n.
-- A value of up to 2 ^ 53 * h units is rounded by at most h of them: so errors through sums and
-- differences (`close-add`, `close-sub`) are sums, and `omega` adds them up.
-- A rounded product is within h units (`mul-close`), its error within 2 * h (`error-close`); far
-- enough from zero the sign is known (`close-positive`, `close-negative`).
use Rattle.std.specs.Prelude.{◌≡◌, ℕ, zero, suc, ◌+◌, ◌-◌, ◌*◌, ◌/◌, ◌^◌, ◌<◌, ◌≤◌, Bool, true, false, cond, not, T, ◌⊎◌, ℤ, ◌≢◌, nat_le, refl, Float}
use Rattle.std.proofs.Common.{le_of_eq, le_of_lt, le_of_suc-le-suc, lt_of_le_of_lt, lt_of_not-le, mul-pos, mul-one, zero-mul, zero-add, mul_assoc}
use Rattle.std.proofs.Common.{mul_comm, mul_right_comm, add-mul, suc-mul, pow-suc, le_of_mul-le-mul_right, mul-le-mul_right, mul-le-mul_left}
use Rattle.std.proofs.Common.{mul-lt-mul_of_pos_right, div-lt_iff_lt-mul, zero-lt-suc, lt_irrefl, arith, sym, ap, ap₂, ◌∙◌, subst, inl, inr, leb→le}
use Rattle.std.proofs.Common.{ltb→lt, pow-add, pow_pos}
use Rattle.std.proofs.Math.Nat.{mul-mul-mul_comm}
use Rattle.std.proofs.Math.Dec.{nleb→lt}
use Rattle.std.specs.Float.{nan, inf, fin, Format, binary64}
use Rattle.std.specs.Float.Ieee.{prec, low, up, down, size, round, neg, add, sub, mul, eq}
use Rattle.std.specs.Float.Ieee.Digits.{size-le}
use Rattle.std.specs.Float.Ieee.Fits.{down_pos, two, two-le_pos}
use Rattle.std.specs.Float.Ieee.Order.{drop, kept}
use Rattle.std.specs.Float.Ieee.Scale.{grid, overflow, round_val}
use Rattle.std.specs.Float.Ieee.Positive.{den, den_pos}
use Rattle.float.specs.Number.{◌⊕◌, ◌⊖◌, ◌⊗◌, zero_float, abs, negative}
use Rattle.float.specs.Laws.Sign.{Alike, round_neg}
use Rattle.float.specs.Promises.Order.{pl, mi}
use Rattle.float.specs.Laws.Le.{srnd, add_srnd}
use Rattle.float.specs.Laws.Units.{Is, Is-alike, Is-neg, plus_Is, flat, cross_mul, mul_srnd', sum_eq}
use Rattle.float.specs.Laws.Near.{closest_near}
use Rattle.float.specs.ProductError.{product_error}
use Rattle.float.specs.Laws.Zero.{zero_of, zero_bits}
use Rattle.float.specs.Laws.Like.{zero_l}
use Rattle.float.specs.Laws.MulAdd.{by_parts, by_parts_srnd, mul_add_is}

-- ---- the error of `round`
few : (z p k : ℕ) → 0 < p → 0 < k → k ≡ z - p → z ≤ p - 1 + k → ⊥
few z p k P K e h = omega arith

past_one : (k h : ℕ) → 0 < h → 2 * h < 2 ^ k → 0 < k
past_one zero h H l = absurd (lt_irrefl 0 (omega arith))
past_one (suc k) h H l = zero-lt-suc k

half_power : (p k : ℕ) → 0 < p → 2 ^ (p - 1 + k) * 2 ≡ 2 ^ p * 2 ^ k
half_power p k P = sym (pow-suc 2 (p - 1 + k)) ∙ ap (λ (z : ℕ). 2 ^ z) (go p k P) ∙ pow-add 2 p k
  where
    go : (p k : ℕ) → 0 < p → suc (p - 1 + k) ≡ p + k
    go p k P = omega arith

-- k digits are dropped off a number of at most 2 ^ p * h: then 2 ^ k is at most 2 * h
dropped : (p n c h : ℕ) → 0 < p → 0 < c → 0 < h → n ≤ 2 ^ p * h * c → 2 ^ drop p n c ≤ 2 * h
dropped p n c h P C H l = le_of_suc-le-suc
    (lt_of_not-le (λ (g : suc (2 * h) ≤ 2 ^ drop p n c). few (size (n / c)) p (drop p n c) P (past_one (drop p n c) h H g) refl
    (size-le (n / c) (p - 1 + drop p n c) ((div-lt_iff_lt-mul C).1 (less g)))))
  where
    less : 2 * h < 2 ^ drop p n c → n < 2 ^ (p - 1 + drop p n c) * c
    less g =
        let k = drop p n c in
        let a : 2 * h * 2 ^ p < 2 ^ k * 2 ^ p = mul-lt-mul_of_pos_right g (pow_pos p) in
        let b : 2 ^ (p - 1 + k) * 2 ≡ 2 ^ k * 2 ^ p = half_power p k P ∙ mul_comm (2 ^ p) (2 ^ k) in
        let d : 2 * h * 2 ^ p ≡ 2 ^ p * h * 2 = mul_assoc 2 h (2 ^ p) ∙ mul_comm 2 (h * 2 ^ p) ∙ ap (λ (z : ℕ). z * 2) (mul_comm h (2 ^ p)) in
        let e : 2 ^ p * h < 2 ^ (p - 1 + k) = omega arith in
        lt_of_le_of_lt l (mul-lt-mul_of_pos_right e C)

-- a / c is rounded by at most h units
grid_off : (f : Format) (a c h : ℕ) → 0 < c → 0 < h → a * 2 ^ low f ≤ 2 ^ prec f * h * c
    → (grid f a c * c ≤ a * 2 ^ low f + h * c) × (a * 2 ^ low f ≤ grid f a c * c + h * c)
grid_off f a c h C H l =
    let n = a * 2 ^ low f in
    let k = drop (prec f) n c in
    let q = kept (prec f) n c in
    let u : 2 ^ k * c ≤ 2 * h * c = mul-le-mul_right c (dropped (prec f) n c h (two-le_pos (prec f) (two f)) C H l) in
    let v : 2 * h * c ≡ 2 * (h * c) = mul_assoc 2 h c in
    let b = closest_near n (c * 2 ^ k) (mul-pos C (pow_pos k)) in
    let e1 : q * (c * 2 ^ k) ≡ q * 2 ^ k * c = ap (λ (z : ℕ). q * z) (mul_comm c (2 ^ k)) ∙ sym (mul_assoc q (2 ^ k) c) in
    let e2 : c * 2 ^ k ≡ 2 ^ k * c = mul_comm c (2 ^ k) in
    (omega arith, omega arith)

-- ---- the error of a rounded difference
-- nothing overflows
abbrev pub Low : Format → ℕ → Type 0
Low f h = suc (2 ^ prec f) * h < overflow f

under_top : (f : Format) (n c g h : ℕ) → 0 < c → Low f h → n ≤ 2 ^ prec f * h * c → g * c ≤ n + h * c → g < overflow f
under_top f n c g h C r l k =
    let a : suc (2 ^ prec f) * h ≡ 2 ^ prec f * h + h = suc-mul (2 ^ prec f) h in
    let b : (2 ^ prec f * h + h) * c ≡ 2 ^ prec f * h * c + h * c = add-mul (2 ^ prec f * h) h c in
    let d : g * c ≤ (2 ^ prec f * h + h) * c = omega arith in
    lt_of_le_of_lt (le_of_mul-le-mul_right d C) (lt_of_le_of_lt (le_of_eq (sym a)) r)

-- x is r - s units, and (r - s) * v is at most h * v away from p - n
pub record Off (f : Format) (x : Float) (p n v h : ℕ) : Type 0 where
  pub r : ℕ
  pub s : ℕ
  pub is : Is f x r s 0
  pub over : r * v + n ≤ p + s * v + h * v
  pub under : p + s * v ≤ r * v + n + h * v

pub off_alike : (f : Format) (x y : Float) (p n v h : ℕ) → Alike x y → Off f x p n v h → Off f y p n v h
off_alike f x y p n v h e k = record { r = k.r; s = k.s; is = Is-alike f x y k.r k.s 0 e k.is; over = k.over; under = k.under }

minus_mul : (a b u : ℕ) → b ≤ a → (a - b) * u + b * u ≡ a * u
minus_mul a b u h = sym (add-mul (a - b) b u) ∙ ap (λ (z : ℕ). z * u) (go a b h)
  where
    go : (a b : ℕ) → b ≤ a → a - b + b ≡ a
    go a b h = omega arith

srnd_off : (f : Format) (a b c h : ℕ) → 0 < c → 0 < h → Low f h → a * 2 ^ low f ≤ b * 2 ^ low f + 2 ^ prec f * h * c
    → b * 2 ^ low f ≤ a * 2 ^ low f + 2 ^ prec f * h * c → Off f (srnd f a b c) (a * 2 ^ low f) (b * 2 ^ low f) c h
srnd_off f a b c h C H r x y = go (nat_le b a) (leb→le b a) (nleb→lt b a)
  where
    one : (g : ℕ) → g * 2 ^ low f ≡ g * 2 ^ 0 * 2 ^ low f
    one g = ap (λ (z : ℕ). z * 2 ^ low f) (sym (mul-one g))

    go : (t : Bool) → (T t → b ≤ a) → (T (not t) → a < b) → Off f (cond t (round f false (a - b) c) (round f true (b - a) c)) (a * 2 ^ low f)
        (b * 2 ^ low f) c h
    go true u v =
        let d = minus_mul a b (2 ^ low f) (u tt) in
        let l : (a - b) * 2 ^ low f ≤ 2 ^ prec f * h * c = omega arith in
        let w = grid_off f (a - b) c h C H l in
        let g = grid f (a - b) c in
        let val = round_val f (a - b) c (under_top f ((a - b) * 2 ^ low f) c g h C r l w.0) in
        record {
          r = g;
          s = 0;
          is = plus_Is f (round f false (a - b) c) g (2 ^ low f) g g 0 0 (pow_pos (low f)) val (one g) (sym (zero-add g));
          over = omega arith;
          under = omega arith;
        }
    go false u v =
        let d = minus_mul b a (2 ^ low f) (le_of_lt (v tt)) in
        let l : (b - a) * 2 ^ low f ≤ 2 ^ prec f * h * c = omega arith in
        let w = grid_off f (b - a) c h C H l in
        let g = grid f (b - a) c in
        let val = round_val f (b - a) c (under_top f ((b - a) * 2 ^ low f) c g h C r l w.0) in
        record {
          r = 0;
          s = g;
          is =
              subst (λ (z : Float). Is f z 0 g 0) (sym (round_neg f false (b - a) c))
              (Is-neg f (round f false (b - a) c) g 0 0 (plus_Is f (round f false (b - a) c) g (2 ^ low f) g g 0 0 (pow_pos (low f)) val (one g)
              (sym (zero-add g))));
          over = omega arith;
          under = omega arith;
        }

-- ---- the same, with the difference in other units: A - B = (p - n) * c / v
widen : (A B c p n v H : ℕ) → 0 < v → A * v + n * c ≡ p * c + B * v → p ≤ n + H * v → A ≤ B + H * c
widen A B c p n v H O e l =
    let x : p * c ≤ (n + H * v) * c = mul-le-mul_right c l in
    let y : (n + H * v) * c ≡ n * c + H * v * c = add-mul n (H * v) c in
    let z : (B + H * c) * v ≡ B * v + H * c * v = add-mul B (H * c) v in
    let w : H * c * v ≡ H * v * c = mul_right_comm H c v in
    let g : A * v ≤ (B + H * c) * v = omega arith in
    le_of_mul-le-mul_right g O

narrow : (A B c p n v h r s : ℕ) → 0 < c → A * v + n * c ≡ p * c + B * v → r * c + B ≤ A + s * c + h * c → r * v + n ≤ p + s * v + h * v
narrow A B c p n v h r s C e l =
    let x : (r * c + B) * v ≤ (A + s * c + h * c) * v = mul-le-mul_right v l in
    let x1 : (r * c + B) * v ≡ r * c * v + B * v = add-mul (r * c) B v in
    let x2 : (A + s * c + h * c) * v ≡ A * v + s * c * v + h * c * v = add-mul (A + s * c) (h * c) v ∙ ap (λ (z : ℕ). z + h * c * v) (add-mul A (s * c) v) in
    let y1 : (r * v + n) * c ≡ r * v * c + n * c = add-mul (r * v) n c in
    let y2 : (p + s * v + h * v) * c ≡ p * c + s * v * c + h * v * c = add-mul (p + s * v) (h * v) c ∙ ap (λ (z : ℕ). z + h * v * c) (add-mul p (s * v) c) in
    let z1 : r * c * v ≡ r * v * c = mul_right_comm r c v in
    let z2 : s * c * v ≡ s * v * c = mul_right_comm s c v in
    let z3 : h * c * v ≡ h * v * c = mul_right_comm h c v in
    let g : (r * v + n) * c ≤ (p + s * v + h * v) * c = omega arith in
    le_of_mul-le-mul_right g C

pub rounded : (f : Format) (a b c p n v w h : ℕ) → 0 < c → 0 < v → 0 < h → Low f h → 2 ^ low f * v ≡ w → p ≤ n + 2 ^ prec f * h * v
    → n ≤ p + 2 ^ prec f * h * v → a * w + n * c ≡ p * c + b * w → Off f (srnd f a b c) p n v h
rounded f a b c p n v w h C O H r g x y e =
    let u = 2 ^ low f in
    let k : (z : ℕ) → z * w ≡ z * u * v = λ z. ap (λ (t : ℕ). z * t) (sym g) ∙ sym (mul_assoc z u v) in
    let e1 : a * u * v + n * c ≡ p * c + b * u * v = ap (λ (z : ℕ). z + n * c) (sym (k a)) ∙ e ∙ ap (λ (z : ℕ). p * c + z) (k b) in
    let e2 : b * u * v + p * c ≡ n * c + a * u * v = omega arith in
    let o = srnd_off f a b c h C H r (widen (a * u) (b * u) c p n v (2 ^ prec f * h) O e1 x) (widen (b * u) (a * u) c n p v (2 ^ prec f * h) O e2 y) in
    concluded e1 e2 o
  where
    concluded : a * 2 ^ low f * v + n * c ≡ p * c + b * 2 ^ low f * v → b * 2 ^ low f * v + p * c ≡ n * c + a * 2 ^ low f * v
        → Off f (srnd f a b c) (a * 2 ^ low f) (b * 2 ^ low f) c h → Off f (srnd f a b c) p n v h
    concluded e1 e2 o =
        let l = o.over in
        let m = o.under in
        let m' : o.s * c + a * 2 ^ low f ≤ b * 2 ^ low f + o.r * c + h * c = omega arith in
        let i = narrow (a * 2 ^ low f) (b * 2 ^ low f) c p n v h o.r o.s C e1 l in
        let j = narrow (b * 2 ^ low f) (a * 2 ^ low f) c n p v h o.s o.r C e2 m' in
        record { r = o.r; s = o.s; is = o.is; over = i; under = omega arith }

-- ---- closeness at binary64
-- how many units 1 is
unfoldable pub W : ℕ
W = 2 ^ 1074

pub record Close (x : Float) (p n e : ℕ) : Type 0 where
  pub r : ℕ
  pub s : ℕ
  pub is : Is binary64 x r s 0
  pub over : r + n ≤ p + s + e
  pub under : p + s ≤ r + n + e

-- h units are the most that a value of up to 2 ^ 53 * h units is rounded by, and nothing overflows
abbrev pub Room : ℕ → Type 0
Room h = (0 < h) × (h ≤ 2 ^ 2000)

pub room_low : (h : ℕ) → h ≤ 2 ^ 2000 → Low binary64 h
room_low h l = lt_of_le_of_lt (mul-le-mul_left (suc (2 ^ 53)) l) (ltb→lt (suc (2 ^ 53) * 2 ^ 2000) (2 ^ 2098) tt)

-- exactly its own units
pub close_self : {x : Float} (p n : ℕ) → Is binary64 x p n 0 → Close x p n 0
close_self p n k = record { r = p; s = n; is = k; over = omega arith; under = omega arith }

pub close_neg : {x : Float} (p n e : ℕ) → Close x p n e → Close (neg x) n p e
close_neg {x} p n e k =
    let o = k.over in
    let u = k.under in
    record { r = k.s; s = k.r; is = Is-neg binary64 x k.r k.s 0 k.is; over = omega arith; under = omega arith }

-- ---- sums
-- the equations of two values, over one denominator
sum_flat : (u p1 n1 d1 a1 b1 p2 n2 d2 a2 b2 : ℕ) → a1 * u + n1 * d1 ≡ p1 * d1 + b1 * u → a2 * u + n2 * d2 ≡ p2 * d2 + b2 * u
    → (a1 * d2 + a2 * d1) * u + (n1 + n2) * (d1 * d2) ≡ (p1 + p2) * (d1 * d2) + (b1 * d2 + b2 * d1) * u
sum_flat u p1 n1 d1 a1 b1 p2 n2 d2 a2 b2 h k =
    ap (λ (z : ℕ). (a1 * d2 + a2 * d1) * u + z * (d1 * d2)) (sym (mul-one (n1 + n2)))
    ∙ sum_eq u 1 p1 n1 d1 a1 b1 p2 n2 d2 a2 b2 (one a1 n1 p1 b1 d1 h) (one a2 n2 p2 b2 d2 k)
    ∙ ap (λ (z : ℕ). z * (d1 * d2) + (b1 * d2 + b2 * d1) * u) (mul-one (p1 + p2))
  where
    one : (a n p b d : ℕ) → a * u + n * d ≡ p * d + b * u → a * u + n * 1 * d ≡ p * 1 * d + b * u
    one a n p b d h = ap (λ (z : ℕ). a * u + z * d) (mul-one n) ∙ h ∙ ap (λ (z : ℕ). z * d + b * u) (sym (mul-one p))

add_off : (f : Format) (x y : Float) (p n q m h : ℕ) → 0 < h → Low f h → p + q ≤ n + m + 2 ^ prec f * h * 1 → n + m ≤ p + q + 2 ^ prec f * h * 1
    → Is f x p n 0 → Is f y q m 0 → Off f (add f x y) (p + q) (n + m) 1 h
add_off f x y p n q m h H r s t i j =
    off_alike f (srnd f (pl x * den y + pl y * den x) (mi x * den y + mi y * den x) (den x * den y)) (add f x y) (p + q) (n + m) 1 h
    (sym (add_srnd f x y i.real j.real))
    (rounded f (pl x * den y + pl y * den x) (mi x * den y + mi y * den x) (den x * den y) (p + q) (n + m) 1 (2 ^ low f) h
    (mul-pos (den_pos x) (den_pos y)) (zero-lt-suc 0) H r (mul-one (2 ^ low f)) s t
    (sum_flat (2 ^ low f) p n (den x) (pl x) (mi x) q m (den y) (pl y) (mi y) (flat f x p n i) (flat f y q m j)))

-- the exact sum, within the error of both and of the rounding
pub close_add : {x y : Float} (p n q m e d h : ℕ) → Room h → p + q + e + d ≤ n + m + 2 ^ 53 * h → n + m + e + d ≤ p + q + 2 ^ 53 * h → Close x p n e
    → Close y q m d → Close (x ⊕ y) (p + q) (n + m) (e + d + h)
close_add {x} {y} p n q m e d h R a b k l =
    let k1 = k.over in
    let k2 = k.under in
    let l1 = l.over in
    let l2 = l.under in
    concluded (add_off binary64 x y k.r k.s l.r l.s h R.0 (room_low h R.1) (omega arith) (omega arith) k.is l.is)
  where
    concluded : Off binary64 (x ⊕ y) (k.r + l.r) (k.s + l.s) 1 h → Close (x ⊕ y) (p + q) (n + m) (e + d + h)
    concluded o =
        let k1 = k.over in
        let k2 = k.under in
        let l1 = l.over in
        let l2 = l.under in
        let o1 = o.over in
        let o2 = o.under in
        record { r = o.r; s = o.s; is = o.is; over = omega arith; under = omega arith }

pub close_sub : {x y : Float} (p n q m e d h : ℕ) → Room h → p + m + e + d ≤ n + q + 2 ^ 53 * h → n + q + e + d ≤ p + m + 2 ^ 53 * h → Close x p n e
    → Close y q m d → Close (x ⊖ y) (p + m) (n + q) (e + d + h)
unfolding sub
close_sub p n q m e d h R a b k l = close_add p n m q e d h R a b k (close_neg q m d l)

-- ---- products
-- z is finite, and W * z at most e * W away from a - b: a product of two counts of units is a count of units of 2 ^ -2148
pub record Product (z : Float) (a b e : ℕ) : Type 0 where
  pub r : ℕ
  pub s : ℕ
  pub is : Is binary64 z r s 0
  pub over : r * W + b ≤ a + s * W + e * W
  pub under : a + s * W ≤ r * W + b + e * W

product_flat : (u p n d a a' q m e b b' : ℕ) → a * u + n * d ≡ p * d + a' * u → b * u + m * e ≡ q * e + b' * u
    → (a * b + a' * b') * (u * u) + (p * m + n * q) * (d * e) ≡ (p * q + n * m) * (d * e) + (a * b' + a' * b) * (u * u)
product_flat u p n d a a' q m e b b' h k =
    ap₂ (λ (x y : ℕ). x + y) (both a b a' b' u u) (both p m n q d e)
    ∙ cross_mul (a * u) (a' * u) (b * u) (b' * u) (p * d) (n * d) (q * e) (m * e) h k
    ∙ sym (ap₂ (λ (x y : ℕ). x + y) (both p q n m d e) (both a b' a' b u u))
  where
    both : (s t s' t' v w : ℕ) → (s * t + s' * t') * (v * w) ≡ s * v * (t * w) + s' * v * (t' * w)
    both s t s' t' v w = add-mul (s * t) (s' * t') (v * w) ∙ ap₂ (λ (x y : ℕ). x + y) (mul-mul-mul_comm s t v w) (mul-mul-mul_comm s' t' v w)

module _ (f : Format) (x y : Float) (p n q m h : ℕ) (H : 0 < h) (R : Low f h) (i : Is f x p n 0) (j : Is f y q m 0) where
  value_of : (pl x * pl y + mi x * mi y) * (2 ^ low f * 2 ^ low f) + (p * m + n * q) * (den x * den y) ≡ (p * q + n * m) * (den x * den y) +
      (pl x * mi y + mi x * pl y) * (2 ^ low f * 2 ^ low f)
  value_of = product_flat (2 ^ low f) p n (den x) (pl x) (mi x) q m (den y) (pl y) (mi y) (flat f x p n i) (flat f y q m j)

  mul_off : p * q + n * m ≤ p * m + n * q + 2 ^ prec f * h * 2 ^ low f → p * m + n * q ≤ p * q + n * m + 2 ^ prec f * h * 2 ^ low f
      → Off f (mul f x y) (p * q + n * m) (p * m + n * q) (2 ^ low f) h
  mul_off s t =
      off_alike f (srnd f (pl x * pl y + mi x * mi y) (pl x * mi y + mi x * pl y) (den x * den y)) (mul f x y) (p * q + n * m) (p * m + n * q)
      (2 ^ low f) h (sym (mul_srnd' f x y i.real j.real))
      (rounded f (pl x * pl y + mi x * mi y) (pl x * mi y + mi x * pl y) (den x * den y) (p * q + n * m) (p * m + n * q) (2 ^ low f)
      (2 ^ low f * 2 ^ low f) h (mul-pos (den_pos x) (den_pos y)) (pow_pos (low f)) H R refl s t value_of)

  -- with an addend of k - l units
  fused_off : (z : Float) (k l : ℕ) → Is f z k l 0 → p * q + n * m + k * 2 ^ low f ≤ p * m + n * q + l * 2 ^ low f + 2 ^ prec f * h * 2 ^ low f
      → p * m + n * q + l * 2 ^ low f ≤ p * q + n * m + k * 2 ^ low f + 2 ^ prec f * h * 2 ^ low f
      → Off f (by_parts f x y z) (p * q + n * m + k * 2 ^ low f) (p * m + n * q + l * 2 ^ low f) (2 ^ low f) h
  fused_off z k l g s t =
      let a = pl x * pl y + mi x * mi y in
      let b = pl x * mi y + mi x * pl y in
      let c = den x * den y in
      let u = 2 ^ low f in
      let v : pl z * (u * u) + l * u * den z ≡ k * u * den z + mi z * (u * u) = times u (pl z) l (den z) k (mi z) (flat f z k l g) in
      off_alike f (srnd f (a * den z + pl z * c) (b * den z + mi z * c) (c * den z)) (by_parts f x y z) (p * q + n * m + k * u)
      (p * m + n * q + l * u) u h (sym (by_parts_srnd f x y z i.real j.real g.real))
      (rounded f (a * den z + pl z * c) (b * den z + mi z * c) (c * den z) (p * q + n * m + k * u) (p * m + n * q + l * u) u (u * u) h
      (mul-pos (mul-pos (den_pos x) (den_pos y)) (den_pos z)) (pow_pos (low f)) H R refl s t
      (sum_flat (u * u) (p * q + n * m) (p * m + n * q) c a b (k * u) (l * u) (den z) (pl z) (mi z) value_of v))
    where
      times : (u a n d p b : ℕ) → a * u + n * d ≡ p * d + b * u → a * (u * u) + n * u * d ≡ p * u * d + b * (u * u)
      times u a n d p b e =
          ap₂ (λ (x y : ℕ). x + y) (sym (mul_assoc a u u)) (mul_right_comm n u d)
          ∙ sym (add-mul (a * u) (n * d) u)
          ∙ ap (λ (z : ℕ). z * u) e
          ∙ add-mul (p * d) (b * u) u
          ∙ ap₂ (λ (x y : ℕ). x + y) (mul_right_comm p d u) (mul_assoc b u u)

pub mul_close : {x y : Float} (p n q m h : ℕ) → Room h → p * q + n * m ≤ p * m + n * q + 2 ^ 53 * h * W
    → p * m + n * q ≤ p * q + n * m + 2 ^ 53 * h * W → Is binary64 x p n 0 → Is binary64 y q m 0 → Product (x ⊗ y) (p * q + n * m) (p * m + n * q) h
unfolding W
mul_close {x} {y} p n q m h R a b i j =
    let o = mul_off binary64 x y p n q m h R.0 (room_low h R.1) i j a b in
    record { r = o.r; s = o.s; is = o.is; over = o.over; under = o.under }

-- ---- the error of that product
enough : (k h u : ℕ) → 0 < k → h * u ≤ k * h * u
enough k h u K =
    let a : 1 * (h * u) ≤ k * (h * u) = mul-le-mul_right (h * u) K in
    let b : k * h * u ≡ k * (h * u) = mul_assoc k h u in
    omega arith

twice : (P N A B u h r s : ℕ) → 0 < u → P + A ≤ B + N + h * u → B + N ≤ P + A + h * u → r * u + (N + B) ≤ P + A + s * u + h * u
    → P + A + s * u ≤ r * u + (N + B) + h * u → (r ≤ s + 2 * h) × (s ≤ r + 2 * h)
twice P N A B u h r s U a b c d =
    let e : (s + 2 * h) * u ≡ s * u + 2 * (h * u) = add-mul s (2 * h) u ∙ ap (λ (z : ℕ). s * u + z) (mul_assoc 2 h u) in
    let g : (r + 2 * h) * u ≡ r * u + 2 * (h * u) = add-mul r (2 * h) u ∙ ap (λ (z : ℕ). r * u + z) (mul_assoc 2 h u) in
    let l : r * u ≤ (s + 2 * h) * u = omega arith in
    let t : s * u ≤ (r + 2 * h) * u = omega arith in
    (le_of_mul-le-mul_right l U, le_of_mul-le-mul_right t U)

error_off : (f : Format) (x y : Float) (p n q m h : ℕ) → 0 < h → Low f h → Is f x p n 0 → Is f y q m 0
    → (o : Off f (mul f x y) (p * q + n * m) (p * m + n * q) (2 ^ low f) h)
    → Off f (by_parts f x y (neg (mul f x y))) (p * q + n * m + o.s * 2 ^ low f) (p * m + n * q + o.r * 2 ^ low f) (2 ^ low f) h
error_off f x y p n q m h H R i j o =
    let a = o.over in
    let b = o.under in
    let e = enough (2 ^ prec f) h (2 ^ low f) (pow_pos (prec f)) in
    fused_off f x y p n q m h H R i j (neg (mul f x y)) o.s o.r (Is-neg f (mul f x y) o.r o.s 0 o.is) (omega arith) (omega arith)

error_near : (f : Format) (x y : Float) (P N h : ℕ) (o : Off f x P N (2 ^ low f) h)
    → Off f y (P + o.s * 2 ^ low f) (N + o.r * 2 ^ low f) (2 ^ low f) h → Off f y 0 0 1 (2 * h)
error_near f x y P N h o k =
    let a = o.over in
    let b = o.under in
    let g = twice P N (o.s * 2 ^ low f) (o.r * 2 ^ low f) (2 ^ low f) h k.r k.s (pow_pos (low f)) b (omega arith) k.over k.under in
    record { r = k.r; s = k.s; is = k.is; over = omega arith; under = omega arith }

pub error_close : {x y : Float} (p n q m h : ℕ) → Room h → p * q + n * m ≤ p * m + n * q + 2 ^ 53 * h * W
    → p * m + n * q ≤ p * q + n * m + 2 ^ 53 * h * W → Is binary64 x p n 0 → Is binary64 y q m 0 → Close (product_error x y) 0 0 (2 * h)
unfolding W
error_close {x} {y} p n q m h R a b i j =
    let z = x ⊗ y in
    let o = mul_off binary64 x y p n q m h R.0 (room_low h R.1) i j a b in
    subst (λ (v : Float). Close v 0 0 (2 * h)) (mul_add_is binary64 x y (neg z))
    (concluded (error_near binary64 z (by_parts binary64 x y (neg z)) (p * q + n * m) (p * m + n * q) h o
    (error_off binary64 x y p n q m h R.0 (room_low h R.1) i j o)))
  where
    concluded : {v : Float} → Off binary64 v 0 0 1 (2 * h) → Close v 0 0 (2 * h)
    concluded k =
        let g = k.over in
        let l = k.under in
        record { r = k.r; s = k.s; is = k.is; over = omega arith; under = omega arith }

-- ---- signs from closeness
not_zero : (s : Bool) (m : ℕ) (e : ℤ) → (m ≢ 0) → eq (fin s m e) zero_float ≡ false
not_zero s m e h = go (eq (fin s m e) zero_float) refl
  where
    go : (b : Bool) → eq (fin s m e) zero_float ≡ b → b ≡ false
    go true k = absurd (h (zero_of s m e (ap (λ (v : Float). eq (fin s m e) v) zero_bits ∙ k)))
    go false k = refl

flat_minus : (f : Format) (x : Float) (p n : ℕ) → Is f x p n 0 → mi x * 2 ^ low f + p * den x ≡ n * den x + pl x * 2 ^ low f
flat_minus f x p n k = let h = flat f x p n k in omega arith

-- A - B = (r - s) * d with r above s
lead : (A B d r s : ℕ) → 0 < d → s < r → A + s * d ≡ r * d + B → B < A
lead A B d r s D l e =
    let a : s * d < r * d = mul-lt-mul_of_pos_right l D in
    omega arith

zero_product : (m a u : ℕ) → m ≡ 0 → m * a * u ≡ 0
zero_product m a u h = ap (λ (z : ℕ). z * a * u) h ∙ zero_l a u

no_less : (a u : ℕ) → a < 0 * u → ⊥
no_less a u h = lt_irrefl 0 (omega arith)

no_more : (a u : ℕ) → a ≡ 0 → 0 * u < a → ⊥
no_more a u e h = lt_irrefl 0 (omega arith)

above : (f : Format) (x : Float) (r s : ℕ) → s < r → Is f x r s 0 → (negative x ≡ false) × (eq x zero_float ≡ false)
above f nan r s l k = absurd k.real
above f (inf t) r s l k = absurd k.real
above f (fin true m e) r s l k = absurd (no_less (m * up e * 2 ^ low f) (2 ^ low f)
    (lead (0 * 2 ^ low f) (m * up e * 2 ^ low f) (down e) r s (down_pos e) l (flat f (fin true m e) r s k)))
above f (fin false m e) r s l k = (
  refl,
  not_zero false m e (λ (h : m ≡ 0). no_more (m * up e * 2 ^ low f) (2 ^ low f) (zero_product m (up e) (2 ^ low f) h)
      (lead (m * up e * 2 ^ low f) (0 * 2 ^ low f) (down e) r s (down_pos e) l (flat f (fin false m e) r s k))),
)

beneath : (f : Format) (x : Float) (r s : ℕ) → r < s → Is f x r s 0 → (negative x ≡ true) × (eq x zero_float ≡ false)
beneath f nan r s l k = absurd k.real
beneath f (inf t) r s l k = absurd k.real
beneath f (fin false m e) r s l k = absurd (no_less (m * up e * 2 ^ low f) (2 ^ low f)
    (lead (0 * 2 ^ low f) (m * up e * 2 ^ low f) (down e) s r (down_pos e) l (flat_minus f (fin false m e) r s k)))
beneath f (fin true m e) r s l k = (
  refl,
  not_zero true m e (λ (h : m ≡ 0). no_more (m * up e * 2 ^ low f) (2 ^ low f) (zero_product m (up e) (2 ^ low f) h)
      (lead (m * up e * 2 ^ low f) (0 * 2 ^ low f) (down e) s r (down_pos e) l (flat_minus f (fin true m e) r s k))),
)

pub close_positive : {x : Float} (p n e : ℕ) → n + e < p → Close x p n e → (negative x ≡ false) × (eq x zero_float ≡ false)
close_positive {x} p n e l k =
    let o = k.over in
    let u = k.under in
    above binary64 x k.r k.s (omega arith) k.is

pub close_negative : {x : Float} (p n e : ℕ) → p + e < n → Close x p n e → (negative x ≡ true) × (eq x zero_float ≡ false)
close_negative {x} p n e l k =
    let o = k.over in
    let u = k.under in
    beneath binary64 x k.r k.s (omega arith) k.is

-- ---- the units of a magnitude
-- A = (p - n) * d
gap : (A B d p n : ℕ) → 0 < d → A + n * d ≡ p * d + B → B ≡ 0 → (n ≤ p) × (A + 0 * 1 * d ≡ (p - n) * 1 * d + 0)
gap A B d p n D e z =
    let l : n ≤ p = le_of_mul-le-mul_right (less (n * d) (p * d) A B e z) D in
    let m = minus_mul p n d l in
    let a : 0 * 1 * d ≡ 0 = zero_l 1 d in
    let b : (p - n) * 1 * d ≡ (p - n) * d = ap (λ (z : ℕ). z * d) (mul-one (p - n)) in
    (l, omega arith)
  where
    less : (x y A B : ℕ) → A + x ≡ y + B → B ≡ 0 → x ≤ y
    less x y A B e z = omega arith

abs_of : (f : Format) (x : Float) (p n : ℕ) → Is f x p n 0 → (k : ℕ) × Is f (abs x) k 0 0 × (p ≤ n + k) × (n ≤ p + k) × ((k + p ≡ n) ⊎ (k + n ≡ p))
unfolding abs
abs_of f nan p n i = absurd i.real
abs_of f (inf t) p n i = absurd i.real
abs_of f (fin false m e) p n i =
    let g = gap (m * up e * 2 ^ low f) (0 * 2 ^ low f) (down e) p n (down_pos e) (flat f (fin false m e) p n i) (zero-mul (2 ^ low f)) in
    let l = g.0 in (
      p - n,
      record { real = tt; value = g.1 ∙ ap (λ (z : ℕ). (p - n) * 1 * down e + z) (sym (zero-mul (2 ^ low f))) },
      omega arith,
      omega arith,
      inr (omega arith),
    )
abs_of f (fin true m e) p n i =
    let g = gap (m * up e * 2 ^ low f) (0 * 2 ^ low f) (down e) n p (down_pos e) (flat_minus f (fin true m e) p n i) (zero-mul (2 ^ low f)) in
    let l = g.0 in (
      n - p,
      record { real = tt; value = g.1 ∙ ap (λ (z : ℕ). (n - p) * 1 * down e + z) (sym (zero-mul (2 ^ low f))) },
      omega arith,
      omega arith,
      inl (omega arith),
    )

pub abs_units : {x : Float} (p n : ℕ) → Is binary64 x p n 0 → (k : ℕ) × Is binary64 (abs x) k 0 0 × (p ≤ n + k) × (n ≤ p + k) × ((k + p ≡ n) ⊎ (k + n ≡ p))
abs_units {x} p n i = abs_of binary64 x p n i
