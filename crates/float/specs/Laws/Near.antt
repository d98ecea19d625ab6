-- Rounding to nearest in whole numbers: a value of Z * 2 ^ i units, with Z from 2 ^ (prec - 1
-- + t) up and below 2 ^ (prec + t), rounds to q * 2 ^ t * 2 ^ i units,
-- where q = `closest Z (2 ^ t)` is within a half of Z / 2 ^ t. For products and differences: `mul-near`, `sub-near`.
use Rattle.std.specs.Prelude.{◌≡◌, ℕ, suc, ◌+◌, ◌-◌, ◌*◌, ◌/◌, ◌%◌, ◌^◌, ◌<◌, ◌≤◌, Bool, true, false, cond, not, T, ◌==◌, nat_le}
use Rattle.std.proofs.Common.{sym, ap, ◌∙◌, subst, arith, leb→le, eqb→eq}
use Prim.Native.Nat.{compare, Ordering}
use native.Mathlib.Nat.{le_trans, le_of_eq, lt_of_lt_of_le, lt_of_le_of_lt, lt_of_not-le, not-le_of_lt, mul-pos, mul_assoc, mul_comm, add-mul}
use native.Mathlib.Nat.{lt_irrefl, le_of_mul-le-mul_right, mul-le-mul_right, mul-lt-mul_of_pos_right, mul-div_cancel}
use native.Mathlib.Nat.{div-add-mod', mod-lt, div-lt_iff_lt-mul, zero-add}
use Rattle.std.proofs.Math.Dec.{is_le, compare_is_eq, nleb→lt, eqb_refl}
use Rattle.std.proofs.Math.Arith.{lt_of_le-ne}
use lib.Pow.{pow-add, pow_pos, pow_mono}
use lib.Ieee.{Float, Format, prec, emax, low, nearest, size, round, add, sub, mul, neg}
use Rattle.std.specs.Float.Ieee.Digits.{size-lt, size-le}
use lib.Ieee.Fits.{two, two-le_pos}
use Rattle.std.specs.Float.Ieee.Exact.{HasValue}
use Rattle.std.specs.Float.Ieee.Nearest.{closest, closest_same}
use Rattle.std.specs.Float.Ieee.Order.{drop}
use Rattle.std.specs.Float.Ieee.Scale.{grid, overflow, round_val}
use Rattle.std.specs.Float.Ieee.Positive.{den, den_pos}
use Rattle.float.specs.Promises.Order.{pl, mi}
use Rattle.float.specs.Laws.Le.{srnd, add_srnd}
use Rattle.float.specs.Laws.Units.{Is, Is-alike, Is-neg, plus_Is, spread, mul_srnd', mul_value, sum_eq}

-- ---- what `compare` answers
abbrev pub Cmp : Ordering → ℕ → ℕ → Type 0
Cmp Ordering.lt a b = a < b
Cmp Ordering.eq a b = a ≡ b
Cmp Ordering.gt a b = b < a

pub cmp : (a b : ℕ) → Cmp (compare a b) a b
cmp a b = go (compare a b) (leb→le a b) (nleb→lt a b) (eqb→eq a b) (λ (e : a ≡ b). subst (λ (x : ℕ). T (a == x)) e (eqb_refl a))
  where
    go : (o : Ordering) → (T (is_le o) → a ≤ b) → (T (not (is_le o)) → b < a) → (T (compare_is_eq o) → a ≡ b) → (a ≡ b → T (compare_is_eq o)) → Cmp o a b
    go Ordering.lt h k e n = lt_of_le-ne (h tt) n
    go Ordering.eq h k e n = e tt
    go Ordering.gt h k e n = k tt

-- ---- the nearest whole number is within a half
bit : (w : ℕ) → w % 2 ≤ 1
bit w = omega arith

-- w * b + r, with w moved up by at most one
around : (w r b : ℕ) (o : Ordering) → Cmp o (r * 2) b → r < b → (nearest w o * b * 2 ≤ (w * b + r) * 2 + b) × ((w * b + r) * 2 ≤ nearest w o * b * 2 + b)
around w r b Ordering.lt h k = (omega arith, omega arith)
around w r b Ordering.eq h k =
    let e : (w + w % 2) * b ≡ w * b + w % 2 * b = add-mul w (w % 2) b in
    let u : w % 2 * b ≤ 1 * b = mul-le-mul_right b (bit w) in
    (omega arith, omega arith)
around w r b Ordering.gt h k =
    let e : suc w * b ≡ w * b + b = native.Mathlib.Nat.suc-mul w b in
    (omega arith, omega arith)

pub closest_near : (a b : ℕ) → 0 < b → (closest a b * b * 2 ≤ a * 2 + b) × (a * 2 ≤ closest a b * b * 2 + b)
closest_near a b B =
    subst (λ (z : ℕ). (closest a b * b * 2 ≤ z * 2 + b) × (z * 2 ≤ closest a b * b * 2 + b)) (div-add-mod' a b)
    (around (a / b) (a % b) b (compare (a % b * 2) b) (cmp (a % b * 2) b) (mod-lt a B))

closest_le : (p t Z : ℕ) → Z < 2 ^ (p + t) → closest Z (2 ^ t) ≤ 2 ^ p
closest_le p t Z h =
    le_trans (lib.Ieee.Fits.nearest-le (Z / 2 ^ t) (compare (Z % 2 ^ t * 2) (2 ^ t)))
    ((div-lt_iff_lt-mul (pow_pos t)).1 (subst (λ (z : ℕ). Z < z) (pow-add 2 p t) h))

-- ---- the digits that are dropped
pub size_gt : (n j : ℕ) → 2 ^ j ≤ n → j < size n
size_gt n j h = lt_of_not-le (λ (g : size n ≤ j). not-le_of_lt (lt_of_lt_of_le (size-lt n) (pow_mono g)) h)

pin : (z p t i : ℕ) → 0 < p → z ≤ p + t + i → p - 1 + t + i < z → z - p ≡ t + i
pin z p t i P h k = omega arith

dropped : (p t i Z : ℕ) → 0 < p → 2 ^ (p - 1 + t) ≤ Z → Z < 2 ^ (p + t) → size (Z * 2 ^ i) - p ≡ t + i
dropped p t i Z P h k =
    pin (size (Z * 2 ^ i)) p t i P
    (size-le (Z * 2 ^ i) (p + t + i) (lt_of_lt_of_le (mul-lt-mul_of_pos_right k (pow_pos i)) (le_of_eq (sym (pow-add 2 (p + t) i)))))
    (size_gt (Z * 2 ^ i) (p - 1 + t + i) (le_trans (le_of_eq (pow-add 2 (p - 1 + t) i)) (mul-le-mul_right (2 ^ i) h)))

swap_pow : (Z c t i : ℕ) → Z * 2 ^ i * c * 2 ^ t ≡ Z * (c * 2 ^ (t + i))
swap_pow Z c t i = rearranged (2 ^ i) (2 ^ t) ∙ ap (λ (z : ℕ). Z * (c * z)) (sym (pow-add 2 t i))
  where
    rearranged : (u v : ℕ) → Z * u * c * v ≡ Z * (c * (v * u))
    rearranged u v = simp (mul_assoc, mul_comm)

pub grid_near : (f : Format) (a c Z t i : ℕ) → 0 < c → a * 2 ^ low f ≡ Z * 2 ^ i * c → 2 ^ (prec f - 1 + t) ≤ Z → Z < 2 ^ (prec f + t)
    → grid f a c ≡ closest Z (2 ^ t) * 2 ^ (t + i)
grid_near f a c Z t i C e h k =
    let n = a * 2 ^ low f in
    let q : n / c ≡ Z * 2 ^ i = ap (λ (z : ℕ). z / c) e ∙ mul-div_cancel (Z * 2 ^ i) C in
    let d : drop (prec f) n c ≡ t + i = ap (λ (z : ℕ). size z - prec f) q ∙ dropped (prec f) t i Z (two-le_pos (prec f) (two f)) h k in
    ap (λ (z : ℕ). closest n (c * 2 ^ z) * 2 ^ z) d
    ∙ ap (λ (z : ℕ). z * 2 ^ (t + i)) (closest_same n (c * 2 ^ (t + i)) Z (2 ^ t) (mul-pos C (pow_pos (t + i))) (pow_pos t)
    (ap (λ (z : ℕ). z * 2 ^ t) e ∙ swap_pow Z c t i))

-- ---- a rounded difference above zero
-- a * u + n * w = p * w + b * u with p = n + Z gives b ≤ a
ahead : (a b u p n w Z : ℕ) → 0 < u → p ≡ n + Z → a * u + n * w ≡ p * w + b * u → b ≤ a
ahead a b u p n w Z U h e =
    let x : p * w ≡ n * w + Z * w = ap (λ (z : ℕ). z * w) h ∙ add-mul n Z w in
    let y : b * u ≤ a * u = omega arith in
    le_of_mul-le-mul_right y U

pub srnd_near : (f : Format) (a b c p n Z t i : ℕ) → 0 < c → p ≡ n + Z → a * 2 ^ low f + n * 2 ^ i * c ≡ p * 2 ^ i * c + b * 2 ^ low f
    → 2 ^ (prec f - 1 + t) ≤ Z → Z < 2 ^ (prec f + t) → prec f + (t + i) < low f + suc (emax f) → Is f (srnd f a b c) (closest Z (2 ^ t) * 2 ^ t) 0 i
srnd_near f a b c p n Z t i C g e h k r = go (nat_le b a) (nleb→lt b a)
  where
    e' : a * 2 ^ low f + n * (2 ^ i * c) ≡ p * (2 ^ i * c) + b * 2 ^ low f
    e' = ap (λ (z : ℕ). a * 2 ^ low f + z) (sym (mul_assoc n (2 ^ i) c)) ∙ e ∙ ap (λ (z : ℕ). z + b * 2 ^ low f) (mul_assoc p (2 ^ i) c)

    l : b ≤ a
    l = ahead a b (2 ^ low f) p n (2 ^ i * c) Z (pow_pos (low f)) g e'

    np : n ≤ p
    np = omega arith

    is : p - n ≡ Z
    is = omega arith

    v : (a - b) * 2 ^ low f ≡ Z * 2 ^ i * c
    v = spread a b (2 ^ low f) p n (2 ^ i * c) l np e' ∙ ap (λ (z : ℕ). z * (2 ^ i * c)) is ∙ sym (mul_assoc Z (2 ^ i) c)

    under : closest Z (2 ^ t) * 2 ^ (t + i) < overflow f
    under = lt_of_le_of_lt (mul-le-mul_right (2 ^ (t + i)) (closest_le (prec f) t Z k))
        (lt_of_le_of_lt (le_of_eq (sym (pow-add 2 (prec f) (t + i)))) (lib.Pow.pow-lt r))

    val : HasValue (round f false (a - b) c) false (closest Z (2 ^ t) * 2 ^ (t + i)) (2 ^ low f)
    val = subst (λ (z : ℕ). HasValue (round f false (a - b) c) false z (2 ^ low f)) (grid_near f (a - b) c Z t i C v h k)
        (round_val f (a - b) c (subst (λ (z : ℕ). z < overflow f) (sym (grid_near f (a - b) c Z t i C v h k)) under))

    go : (x : Bool) → (T (not x) → a < b) → Is f (cond x (round f false (a - b) c) (round f true (b - a) c)) (closest Z (2 ^ t) * 2 ^ t) 0 i
    go false y = absurd (lt_irrefl a (lt_of_lt_of_le (y tt) l))
    go true y =
        plus_Is f (round f false (a - b) c) (closest Z (2 ^ t) * 2 ^ (t + i)) (2 ^ low f) (closest Z (2 ^ t) * 2 ^ t) (closest Z (2 ^ t) * 2 ^ t) 0 i
        (pow_pos (low f)) val
        (ap (λ (z : ℕ). z * 2 ^ low f) (ap (λ (z : ℕ). closest Z (2 ^ t) * z) (pow-add 2 t i) ∙ sym (mul_assoc (closest Z (2 ^ t)) (2 ^ t) (2 ^ i))))
        (sym (zero-add (closest Z (2 ^ t) * 2 ^ t)))

pub mul_near : (f : Format) (x y : Float) (p q t i j k : ℕ) → i + j ≡ low f + k → 2 ^ (prec f - 1 + t) ≤ p * q → p * q < 2 ^ (prec f + t)
    → prec f + (t + k) < low f + suc (emax f)
    → Is f x p 0 i → Is f y q 0 j → Is f (mul f x y) (closest (p * q) (2 ^ t) * 2 ^ t) 0 k
mul_near f x y p q t i j k e a b r h g =
    Is-alike f (srnd f (pl x * pl y + mi x * mi y) (pl x * mi y + mi x * pl y) (den x * den y)) (mul f x y) (closest (p * q) (2 ^ t) * 2 ^ t) 0 k
    (sym (mul_srnd' f x y h.real g.real))
    (srnd_near f (pl x * pl y + mi x * mi y) (pl x * mi y + mi x * pl y) (den x * den y) (p * q + 0 * 0) (p * 0 + 0 * q) (p * q) t k
    (mul-pos (den_pos x) (den_pos y)) (omega arith) (mul_value f x y p 0 q 0 i j k e h g) a b r)

pub sub_near : (f : Format) (x y : Float) (p q Z t i : ℕ) → p ≡ q + Z → 2 ^ (prec f - 1 + t) ≤ Z → Z < 2 ^ (prec f + t)
    → prec f + (t + i) < low f + suc (emax f)
    → Is f x p 0 i → Is f y q 0 i → Is f (sub f x y) (closest Z (2 ^ t) * 2 ^ t) 0 i
unfolding sub
sub_near f x y p q Z t i e a b r h g =
    let g' = Is-neg f y q 0 i g in
    Is-alike f (srnd f (pl x * den (neg y) + pl (neg y) * den x) (mi x * den (neg y) + mi (neg y) * den x) (den x * den (neg y))) (add f x (neg y))
    (closest Z (2 ^ t) * 2 ^ t) 0 i (sym (add_srnd f x (neg y) h.real g'.real))
    (srnd_near f (pl x * den (neg y) + pl (neg y) * den x) (mi x * den (neg y) + mi (neg y) * den x) (den x * den (neg y)) (p + 0) (0 + q) Z t i
    (mul-pos (den_pos x) (den_pos (neg y))) (omega arith)
    (sum_eq (2 ^ low f) (2 ^ i) p 0 (den x) (pl x) (mi x) 0 q (den (neg y)) (pl (neg y)) (mi (neg y)) h.value g'.value) a b r)
