-- Bounds by powers of two, for any exponent, where numerals do not reach: `Under k x` says that x is finite and |x| ≤ 2 ^ k. Each operation takes any n that
-- is large enough, so that `omega` does the side conditions.
use Rattle.std.specs.Prelude.{◌≡◌, ℕ, suc, ◌+◌, ◌*◌, ◌^◌, ◌<◌, ◌≤◌, false, ◌&&◌, T, pos, nat_le, nat_lt, Float}
use Rattle.std.proofs.Common.{zero-le, le_trans, le_of_eq, lt_of_le_of_lt, mul-one, one-mul, mul-le-mul, mul-le-mul_left, mul-le-mul_right, mul-pos}
use Rattle.std.proofs.Common.{pow-suc, le_of_suc-le-suc, arith, sym, ap, ap₂, ◌∙◌, le→leb, lt→ltb, pow-add, pow_mono}
use Rattle.std.proofs.Math.Nat.{mul-mul-mul_comm}
use Rattle.std.proofs.Math.Pow.{pow-lt}
use Rattle.std.specs.Float.{nan, inf, fin, Format, binary64}
use Rattle.std.specs.Float.Ieee.{unlike, up, down, sub}
use Rattle.std.specs.Float.Ieee.Fits.{and_i, down_pos}
use Rattle.std.specs.Float.Ieee.Positive.{num, den, den_pos}
use Rattle.float.specs.Number.{◌⊕◌, ◌⊖◌, ◌⊗◌, zero_float}
use Rattle.float.specs.MulAdd.{mul_add}
use Rattle.float.specs.ProductError.{product_error}
use Rattle.float.specs.Promises.Order.{Within}
use Rattle.float.specs.Laws.Within.{held, sum_within, add_bound, add_within, mul_within, neg_within}

-- ---- the fused product: any B that is no less than X * Y + Z
pub mul_add_within : (f : Format) (B : Float) {X Y Z x y z : Float} → T (held f B)
    → (num X * num Y * den Z + num Z * (den X * den Y)) * den B ≤ num B * (den X * den Y * den Z) → Within X x → Within Y y → Within Z z
    → Within B (mul_add f x y z)
unfolding mul_add
mul_add_within f B {x = nan} {y} t e h k l = absurd h.real
mul_add_within f B {x = inf s} {y} t e h k l = absurd h.real
mul_add_within f B {x = fin s m d} {y = nan} t e h k l = absurd k.real
mul_add_within f B {x = fin s m d} {y = inf r} t e h k l = absurd k.real
mul_add_within f B {x = fin s m d} {y = fin r n g} {z = nan} t e h k l = absurd l.real
mul_add_within f B {x = fin s m d} {y = fin r n g} {z = inf u} t e h k l = absurd l.real
mul_add_within f B {X} {Y} {Z} {x = fin s m d} {y = fin r n g} {z = fin u p o} t e h k l =
    let c = down d * down g in
    sum_within f (unlike s r) (m * up d * (n * up g) * down o) u (p * up o * c) (c * down o) B (mul-pos (mul-pos (down_pos d) (down_pos g)) (down_pos o)) t
    (add_bound (m * up d * (n * up g)) c (p * up o) (down o) (num X * num Y) (den X * den Y) (num Z) (den Z) (num B) (den B) (mul-pos (den_pos X) (den_pos Y))
    (den_pos Z)
    (le_trans (le_of_eq (mul-mul-mul_comm (m * up d) (n * up g) (den X) (den Y)))
    (le_trans (mul-le-mul h.size k.size) (le_of_eq (mul-mul-mul_comm (num X) (down d) (num Y) (down g)))))
    l.size e)

-- ---- powers of two
abbrev pub two_to : ℕ → Float
two_to k = fin false 1 (pos k)

abbrev pub Under : ℕ → Float → Type 0
Under k x = Within (two_to k) x

held_pow : (k : ℕ) → k ≤ 1023 → T (held binary64 (two_to k))
held_pow k h =
    and_i (nat_lt 1 (2 ^ 53)) (nat_le 1 (2 ^ 1074) && nat_lt (1 * 2 ^ k) (2 ^ 1024 * 1)) tt
    (and_i (nat_le 1 (2 ^ 1074)) (nat_lt (1 * 2 ^ k) (2 ^ 1024 * 1)) tt
    (lt→ltb (1 * 2 ^ k) (2 ^ 1024 * 1) (lt_of_le_of_lt (le_of_eq (one-mul (2 ^ k))) (pow-lt (le_of_suc-le-suc {n = suc k} {m = 1024} (omega arith))))))

-- with the products by 1 taken away
sum_test : (a b c : ℕ) → a + b ≤ c → (1 * a * 1 + 1 * b * 1) * 1 ≤ 1 * c * (1 * 1)
sum_test a b c h = omega arith

prod_test : (a b c : ℕ) → a * b ≤ c → 1 * a * (1 * b) * 1 ≤ 1 * c * (1 * 1)
prod_test a b c h =
    le_trans (le_of_eq (mul-one (1 * a * (1 * b)) ∙ ap₂ (λ (x y : ℕ). x * y) (one-mul a) (one-mul b)))
    (le_trans h (le_of_eq (sym (mul-one (1 * c) ∙ one-mul c))))

fused_test : (a b c d : ℕ) → a * b + c ≤ d → (1 * a * (1 * b) * 1 + 1 * c * (1 * 1)) * 1 ≤ 1 * d * (1 * 1 * 1)
fused_test a b c d h =
    let e : 1 * a * (1 * b) * 1 ≡ a * b = mul-one (1 * a * (1 * b)) ∙ ap₂ (λ (x y : ℕ). x * y) (one-mul a) (one-mul b) in
    omega arith

grown : (k l n : ℕ) → k < n → l < n → 2 ^ k + 2 ^ l ≤ 2 ^ n
grown k l n h j =
    let e : 2 ^ suc k ≡ 2 ^ k * 2 = pow-suc 2 k in
    let u : 2 ^ suc k ≤ 2 ^ n = pow_mono h in
    let e' : 2 ^ suc l ≡ 2 ^ l * 2 = pow-suc 2 l in
    let u' : 2 ^ suc l ≤ 2 ^ n = pow_mono j in
    omega arith

-- n above both exponents
pub under_add : (k l n : ℕ) {x y : Float} → k < n → l < n → n ≤ 1023 → Under k x → Under l y → Under n (x ⊕ y)
under_add k l n h j r p q =
    add_within binary64 (two_to n)
    (and_i (held binary64 (two_to n)) (nat_le ((1 * 2 ^ k * 1 + 1 * 2 ^ l * 1) * 1) (1 * 2 ^ n * (1 * 1))) (held_pow n r)
    (le→leb ((1 * 2 ^ k * 1 + 1 * 2 ^ l * 1) * 1) (1 * 2 ^ n * (1 * 1)) (sum_test (2 ^ k) (2 ^ l) (2 ^ n) (grown k l n h j))))
    p q

pub under_sub : (k l n : ℕ) {x y : Float} → k < n → l < n → n ≤ 1023 → Under k x → Under l y → Under n (x ⊖ y)
unfolding sub
under_sub k l n h j r p q = under_add k l n h j r p (neg_within q)

pub under_mul : (k l n : ℕ) {x y : Float} → k + l ≤ n → n ≤ 1023 → Under k x → Under l y → Under n (x ⊗ y)
under_mul k l n h r p q =
    mul_within binary64 (two_to n)
    (and_i (held binary64 (two_to n)) (nat_le (1 * 2 ^ k * (1 * 2 ^ l) * 1) (1 * 2 ^ n * (1 * 1))) (held_pow n r)
    (le→leb (1 * 2 ^ k * (1 * 2 ^ l) * 1) (1 * 2 ^ n * (1 * 1)) (prod_test (2 ^ k) (2 ^ l) (2 ^ n) (le_trans (le_of_eq (sym (pow-add 2 k l))) (pow_mono h)))))
    p q

-- the error of a product
pub under_error : (k l n : ℕ) {x y : Float} → k + l < n → n ≤ 1023 → Under k x → Under l y → Under n (product_error x y)
under_error k l n h r p q =
    mul_add_within binary64 (two_to n) (held_pow n r)
    (fused_test (2 ^ k) (2 ^ l) (2 ^ (k + l)) (2 ^ n) (le_trans (le_of_eq (ap (λ (z : ℕ). z + 2 ^ (k + l)) (sym (pow-add 2 k l))))
    (grown (k + l) (k + l) n h h)))
    p q (neg_within (under_mul k l (k + l) (omega arith) (omega arith) p q))

pub under_le : (k l : ℕ) {x : Float} → k ≤ l → Under k x → Under l x
under_le k l {x} h p = record { real = p.real; size = le_trans p.size (mul-le-mul_right (den x) (mul-le-mul_left 1 (pow_mono h))) }

pub under_zero : (k : ℕ) → Under k zero_float
under_zero k = record { real = tt; size = zero-le }
