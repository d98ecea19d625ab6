-- Exact arithmetic. `Is f x p n i`: x is finite and its value is (p - n) * 2 ^ i units of the format's smallest value, for whole numbers p and n.
-- A sum, a difference or a product whose exact value is such a number with fewer than prec digits is that value: `Is-add`, `Is-sub`, `Is-mul`.
-- `srnd-same`: a rounded difference sees only its value. `Is-Le`, `Le-Is`: the order of such values is that of their units.
use Rattle.std.specs.Prelude.{◌≡◌, ℕ, zero, suc, ◌+◌, ◌-◌, ◌*◌, ◌^◌, ◌<◌, ◌≤◌, Bool, true, false, cond, not, T, nat_le, refl, Float}
use Rattle.std.proofs.Common.{sym, ap, ap₂, ◌∙◌, subst, le_trans, le_of_eq, le_of_lt, lt_of_lt_of_le, zero-mul, mul-one, mul-pos, mul_assoc, mul_comm}
use Rattle.std.proofs.Common.{mul_left_comm, mul_right_comm, add-mul, mul-add, zero-lt-suc, lt_irrefl, le_of_mul-le-mul_right, mul-le-mul_right}
use Rattle.std.proofs.Common.{mul-lt-mul_of_pos_right, arith, leb→le, pow-add, pow_pos, pow_mono}
use Rattle.std.proofs.Math.Nat.{mul-sub, eq_of_mul-eq-mul_right}
use Rattle.std.proofs.Math.Dec.{nleb→lt}
use Rattle.std.specs.Float.{nan, inf, fin, Format}
use Rattle.std.specs.Float.Ieee.{prec, emax, low, up, down, round, neg, add, sub, mul}
use Rattle.std.specs.Float.Ieee.Fits.{down_pos}
use Rattle.std.specs.Float.Ieee.Exact.{HasValue, round_exact}
use Rattle.std.specs.Float.Ieee.Scale.{round_same, finite}
use Rattle.std.specs.Float.Ieee.Positive.{den, den_pos}
use Rattle.float.specs.Laws.Sign.{strip, Alike}
use Rattle.float.specs.Promises.Order.{pl, mi, Le}
use Rattle.float.specs.Laws.Le.{srnd, signed_pos, signed_neg, add_srnd, neg_finite}
use Rattle.float.specs.Laws.Like.{zero_l}

pub record Is (f : Format) (x : Float) (p n i : ℕ) : Type 0 where
  pub real : T (finite x)
  pub value : pl x * 2 ^ low f + n * 2 ^ i * den x ≡ p * 2 ^ i * den x + mi x * 2 ^ low f

-- ---- the same difference; another unit; minus
moved : (p n q m w : ℕ) → p + m ≡ q + n → p * w + m * w ≡ q * w + n * w
moved p n q m w h = sym (add-mul p m w) ∙ ap (λ (z : ℕ). z * w) h ∙ add-mul q n w

pub Is-shift : (f : Format) (x : Float) (p n q m i : ℕ) → p + m ≡ q + n → Is f x p n i → Is f x q m i
Is-shift f x p n q m i h k =
    let w = 2 ^ i * den x in
    let a : p * w + m * w ≡ q * w + n * w = moved p n q m w h in
    let e1 : p * 2 ^ i * den x ≡ p * w = mul_assoc p (2 ^ i) (den x) in
    let e2 : n * 2 ^ i * den x ≡ n * w = mul_assoc n (2 ^ i) (den x) in
    let e3 : q * 2 ^ i * den x ≡ q * w = mul_assoc q (2 ^ i) (den x) in
    let e4 : m * 2 ^ i * den x ≡ m * w = mul_assoc m (2 ^ i) (den x) in
    let v = k.value in
    record { real = k.real; value = omega arith }

pub Is-unit : (f : Format) (x : Float) (p n i j : ℕ) → Is f x p n (i + j) → Is f x (p * 2 ^ j) (n * 2 ^ j) i
Is-unit f x p n i j k =
    let e : (z : ℕ) → z * 2 ^ (i + j) * den x ≡ z * 2 ^ j * 2 ^ i * den x = λ z. ap (λ (w : ℕ). w * den x)
    (ap (λ (w : ℕ). z * w) (pow-add 2 i j ∙ mul_comm (2 ^ i) (2 ^ j)) ∙ sym (mul_assoc z (2 ^ j) (2 ^ i))) in
    record { real = k.real; value = ap (λ (w : ℕ). pl x * 2 ^ low f + w) (sym (e n)) ∙ k.value ∙ ap (λ (w : ℕ). w + mi x * 2 ^ low f) (e p) }

pub Is-ununit : (f : Format) (x : Float) (p n i j : ℕ) → Is f x (p * 2 ^ j) (n * 2 ^ j) i → Is f x p n (i + j)
Is-ununit f x p n i j k =
    let e : (z : ℕ) → z * 2 ^ (i + j) * den x ≡ z * 2 ^ j * 2 ^ i * den x = λ z. ap (λ (w : ℕ). w * den x)
    (ap (λ (w : ℕ). z * w) (pow-add 2 i j ∙ mul_comm (2 ^ i) (2 ^ j)) ∙ sym (mul_assoc z (2 ^ j) (2 ^ i))) in
    record { real = k.real; value = ap (λ (w : ℕ). pl x * 2 ^ low f + w) (e n) ∙ k.value ∙ ap (λ (w : ℕ). w + mi x * 2 ^ low f) (sym (e p)) }

neg_parts : (x : Float) → (pl (neg x) ≡ mi x) × (mi (neg x) ≡ pl x) × (den (neg x) ≡ den x)
unfolding neg
neg_parts nan = (refl, refl, refl)
neg_parts (inf s) = (refl, refl, refl)
neg_parts (fin true m e) = (refl, refl, refl)
neg_parts (fin false m e) = (refl, refl, refl)

pub Is-neg : (f : Format) (x : Float) (p n i : ℕ) → Is f x p n i → Is f (neg x) n p i
Is-neg f x p n i k =
    let q = neg_parts x in
    let goal : mi x * 2 ^ low f + p * 2 ^ i * den x ≡ n * 2 ^ i * den x + pl x * 2 ^ low f = let v = k.value in omega arith in
    record {
      real = neg_finite x k.real;
      value =
          ap₂ (λ (a b : ℕ). a * 2 ^ low f + p * 2 ^ i * b) q.0 q.2 ∙ goal ∙ sym (ap₂ (λ (a b : ℕ). n * 2 ^ i * b + a * 2 ^ low f) q.1 q.2);
    }

-- ---- a value with a sign, as such a difference
-- a / c = q * 2 ^ i units, and z is a / c
carry : (r d a c q u w : ℕ) → 0 < c → r * c ≡ a * d → a * u ≡ q * w * c → r * u ≡ q * w * d
carry r d a c q u w C h k =
    eq_of_mul-eq-mul_right c C (r * u) (q * w * d) (mul_right_comm r u c ∙ ap (λ (z : ℕ). z * u) h ∙ mul_right_comm a d u ∙ ap (λ (z : ℕ). z * d) k
    ∙ mul_right_comm (q * w) c d)

pub plus_Is : (f : Format) (z : Float) (a c q p n i : ℕ) → 0 < c → HasValue z false a c → a * 2 ^ low f ≡ q * 2 ^ i * c → p ≡ n + q → Is f z p n i
plus_Is f nan a c q p n i C h k e = absurd h
plus_Is f (inf s) a c q p n i C h k e = absurd h
plus_Is f (fin true m g) a c q p n i C h k e = absurd (mathlib.Core.Bool.true≢false h.0)
plus_Is f (fin false m g) a c q p n i C h k e =
    let v : m * up g * 2 ^ low f ≡ q * 2 ^ i * down g = carry (m * up g) (down g) a c q (2 ^ low f) (2 ^ i) C h.1 k in
    let w : p * 2 ^ i * down g ≡ n * 2 ^ i * down g + q * 2 ^ i * down g = ap (λ (z : ℕ). z * 2 ^ i * down g) e
    ∙ ap (λ (z : ℕ). z * down g) (add-mul n q (2 ^ i)) ∙ add-mul (n * 2 ^ i) (q * 2 ^ i) (down g) in
    record { real = tt; value = omega arith }

pub minus_Is : (f : Format) (z : Float) (a c q p n i : ℕ) → 0 < c → HasValue z true a c → a * 2 ^ low f ≡ q * 2 ^ i * c → n ≡ p + q → Is f z p n i
minus_Is f nan a c q p n i C h k e = absurd h
minus_Is f (inf s) a c q p n i C h k e = absurd h
minus_Is f (fin false m g) a c q p n i C h k e = absurd (mathlib.Core.Bool.false≢true h.0)
minus_Is f (fin true m g) a c q p n i C h k e =
    let v : m * up g * 2 ^ low f ≡ q * 2 ^ i * down g = carry (m * up g) (down g) a c q (2 ^ low f) (2 ^ i) C h.1 k in
    let w : n * 2 ^ i * down g ≡ p * 2 ^ i * down g + q * 2 ^ i * down g = ap (λ (z : ℕ). z * 2 ^ i * down g) e
    ∙ ap (λ (z : ℕ). z * down g) (add-mul p q (2 ^ i)) ∙ add-mul (p * 2 ^ i) (q * 2 ^ i) (down g) in
    record { real = tt; value = omega arith }

-- ---- where a rounded difference is exact
-- the unit is small enough that a number of prec digits stays below the overflow
abbrev pub Roomy : Format → ℕ → Type 0
Roomy f i = prec f + i ≤ low f + suc (emax f)

fine : (f : Format) (q i : ℕ) → q < 2 ^ prec f → Roomy f i → q * 2 ^ i < 2 ^ (low f + suc (emax f))
fine f q i h r = lt_of_lt_of_le (mul-lt-mul_of_pos_right h (pow_pos i)) (le_trans (le_of_eq (sym (pow-add 2 (prec f) i))) (pow_mono r))

-- (a - b) * u = (p - n) * w from a * u + n * w = p * w + b * u
pub spread : (a b u p n w : ℕ) → b ≤ a → n ≤ p → a * u + n * w ≡ p * w + b * u → (a - b) * u ≡ (p - n) * w
spread a b u p n w h k e =
    let x : (a - b) * u ≡ a * u - b * u = mul_comm (a - b) u ∙ mul-sub u a b ∙ ap₂ (λ (y z : ℕ). y - z) (mul_comm u a) (mul_comm u b) in
    let y : (p - n) * w ≡ p * w - n * w = mul_comm (p - n) w ∙ mul-sub w p n ∙ ap₂ (λ (y z : ℕ). y - z) (mul_comm w p) (mul_comm w n) in
    let s : b * u ≤ a * u = mul-le-mul_right u h in
    let t : n * w ≤ p * w = mul-le-mul_right w k in
    omega arith

-- b ≤ a gives n ≤ p
follow : (a b u p n w : ℕ) → 0 < w → b ≤ a → a * u + n * w ≡ p * w + b * u → n ≤ p
follow a b u p n w W h e =
    let s : b * u ≤ a * u = mul-le-mul_right u h in
    let t : n * w ≤ p * w = omega arith in
    le_of_mul-le-mul_right t W

pub srnd_exact : (f : Format) (a b c p n i : ℕ) → 0 < c → Roomy f i → p < n + 2 ^ prec f → n < p + 2 ^ prec f
    → a * 2 ^ low f + n * 2 ^ i * c ≡ p * 2 ^ i * c + b * 2 ^ low f → Is f (srnd f a b c) p n i
srnd_exact f a b c p n i C r x y e = go (nat_le b a) (leb→le b a) (nleb→lt b a)
  where
    ww : 0 < 2 ^ i * c
    ww = mul-pos (pow_pos i) C

    e' : a * 2 ^ low f + n * (2 ^ i * c) ≡ p * (2 ^ i * c) + b * 2 ^ low f
    e' = ap (λ (z : ℕ). a * 2 ^ low f + z) (sym (mul_assoc n (2 ^ i) c)) ∙ e ∙ ap (λ (z : ℕ). z + b * 2 ^ low f) (mul_assoc p (2 ^ i) c)

    e'' : b * 2 ^ low f + p * (2 ^ i * c) ≡ n * (2 ^ i * c) + a * 2 ^ low f
    e'' = omega arith

    less : (k l : ℕ) → l ≤ k → k < l + 2 ^ prec f → k - l < 2 ^ prec f
    less k l h t = omega arith

    back : (k l : ℕ) → l ≤ k → k ≡ l + (k - l)
    back k l h = omega arith

    go : (t : Bool) → (T t → b ≤ a) → (T (not t) → a < b) → Is f (cond t (round f false (a - b) c) (round f true (b - a) c)) p n i
    go true h k =
        let l : n ≤ p = follow a b (2 ^ low f) p n (2 ^ i * c) ww (h tt) e' in
        let s : (a - b) * 2 ^ low f ≡ (p - n) * 2 ^ i * c = spread a b (2 ^ low f) p n (2 ^ i * c) (h tt) l e' ∙ sym (mul_assoc (p - n) (2 ^ i) c) in
        plus_Is f (round f false (a - b) c) (a - b) c (p - n) p n i C
        (round_exact f false (a - b) c (p - n) i C (less p n l x) (fine f (p - n) i (less p n l x) r) s) s (back p n l)
    go false h k =
        let g : a ≤ b = le_of_lt (k tt) in
        let l : p ≤ n = follow b a (2 ^ low f) n p (2 ^ i * c) ww g e'' in
        let s : (b - a) * 2 ^ low f ≡ (n - p) * 2 ^ i * c = spread b a (2 ^ low f) n p (2 ^ i * c) g l e'' ∙ sym (mul_assoc (n - p) (2 ^ i) c) in
        minus_Is f (round f true (b - a) c) (b - a) c (n - p) p n i C
        (round_exact f true (b - a) c (n - p) i C (less n p l y) (fine f (n - p) i (less n p l y) r) s) s (back n p l)

-- ---- the sign of a zero does not matter
zero_is : (p n w d a b : ℕ) → 0 < d → a ≡ 0 → b ≡ 0 → a + n * w * d ≡ p * w * d + b → n * w ≡ p * w
zero_is p n w d a b D x y e = eq_of_mul-eq-mul_right d D (n * w) (p * w) (omega arith)

strip_Is : (f : Format) (x : Float) (p n i : ℕ) → Is f x p n i → Is f (strip x) p n i
unfolding strip
strip_Is f nan p n i k = k
strip_Is f (inf s) p n i k = k
strip_Is f (fin true zero e) p n i k =
    let h : n * 2 ^ i ≡ p * 2 ^ i = zero_is p n (2 ^ i) (down e) (0 * 2 ^ low f) (0 * up e * 2 ^ low f) (down_pos e) (zero-mul (2 ^ low f))
    (zero_l (up e) (2 ^ low f)) k.value in
    record { real = tt; value = omega arith }
strip_Is f (fin false zero e) p n i k =
    let h : n * 2 ^ i ≡ p * 2 ^ i = zero_is p n (2 ^ i) (down e) (0 * up e * 2 ^ low f) (0 * 2 ^ low f) (down_pos e) (zero_l (up e) (2 ^ low f))
    (zero-mul (2 ^ low f)) k.value in
    record { real = tt; value = omega arith }
strip_Is f (fin s (suc m) e) p n i k = k

unstrip_Is : (f : Format) (x : Float) (p n i : ℕ) → Is f (strip x) p n i → Is f x p n i
unfolding strip
unstrip_Is f nan p n i k = k
unstrip_Is f (inf s) p n i k = k
unstrip_Is f (fin true zero e) p n i k =
    let h : n * 2 ^ i ≡ p * 2 ^ i = zero_is p n (2 ^ i) 1 (0 * 2 ^ low f) (0 * 2 ^ low f) (zero-lt-suc 0) (zero-mul (2 ^ low f))
    (zero-mul (2 ^ low f)) k.value in
    let g : n * 2 ^ i * down e ≡ p * 2 ^ i * down e = ap (λ (z : ℕ). z * down e) h in
    let z : 0 * up e * 2 ^ low f ≡ 0 = zero_l (up e) (2 ^ low f) in
    record { real = tt; value = omega arith }
unstrip_Is f (fin false zero e) p n i k =
    let h : n * 2 ^ i ≡ p * 2 ^ i = zero_is p n (2 ^ i) 1 (0 * 2 ^ low f) (0 * 2 ^ low f) (zero-lt-suc 0) (zero-mul (2 ^ low f))
    (zero-mul (2 ^ low f)) k.value in
    let g : n * 2 ^ i * down e ≡ p * 2 ^ i * down e = ap (λ (z : ℕ). z * down e) h in
    let z : 0 * up e * 2 ^ low f ≡ 0 = zero_l (up e) (2 ^ low f) in
    record { real = tt; value = omega arith }
unstrip_Is f (fin s (suc m) e) p n i k = k

pub Is-alike : (f : Format) (x y : Float) (p n i : ℕ) → Alike x y → Is f x p n i → Is f y p n i
Is-alike f x y p n i h k = unstrip_Is f y p n i (subst (λ (z : Float). Is f z p n i) h (strip_Is f x p n i k))

-- ---- a sum
-- the equations of the operands, over one denominator
pub sum_eq : (u w p1 n1 d1 a1 b1 p2 n2 d2 a2 b2 : ℕ) → a1 * u + n1 * w * d1 ≡ p1 * w * d1 + b1 * u → a2 * u + n2 * w * d2 ≡ p2 * w * d2 + b2 * u
    → (a1 * d2 + a2 * d1) * u + (n1 + n2) * w * (d1 * d2) ≡ (p1 + p2) * w * (d1 * d2) + (b1 * d2 + b2 * d1) * u
sum_eq u w p1 n1 d1 a1 b1 p2 n2 d2 a2 b2 h k =
    let A : (a1 * u + n1 * w * d1) * d2 ≡ (p1 * w * d1 + b1 * u) * d2 = ap (λ (z : ℕ). z * d2) h in
    let B : (a2 * u + n2 * w * d2) * d1 ≡ (p2 * w * d2 + b2 * u) * d1 = ap (λ (z : ℕ). z * d1) k in
    let a1e : (a1 * u + n1 * w * d1) * d2 ≡ a1 * d2 * u + n1 * w * (d1 * d2) = simp (add-mul, mul_assoc, mul_comm, mul_left_comm) in
    let a2e : (p1 * w * d1 + b1 * u) * d2 ≡ p1 * w * (d1 * d2) + b1 * d2 * u = simp (add-mul, mul_assoc, mul_comm, mul_left_comm) in
    let b1e : (a2 * u + n2 * w * d2) * d1 ≡ a2 * d1 * u + n2 * w * (d1 * d2) = simp (add-mul, mul_assoc, mul_comm, mul_left_comm) in
    let b2e : (p2 * w * d2 + b2 * u) * d1 ≡ p2 * w * (d1 * d2) + b2 * d1 * u = simp (add-mul, mul_assoc, mul_comm, mul_left_comm) in
    let l1 : (a1 * d2 + a2 * d1) * u ≡ a1 * d2 * u + a2 * d1 * u = add-mul (a1 * d2) (a2 * d1) u in
    let l2 : (n1 + n2) * w * (d1 * d2) ≡ n1 * w * (d1 * d2) + n2 * w * (d1 * d2) = ap (λ (z : ℕ). z * (d1 * d2)) (add-mul n1 n2 w)
    ∙ add-mul (n1 * w) (n2 * w) (d1 * d2) in
    let r1 : (p1 + p2) * w * (d1 * d2) ≡ p1 * w * (d1 * d2) + p2 * w * (d1 * d2) = ap (λ (z : ℕ). z * (d1 * d2)) (add-mul p1 p2 w)
    ∙ add-mul (p1 * w) (p2 * w) (d1 * d2) in
    let r2 : (b1 * d2 + b2 * d1) * u ≡ b1 * d2 * u + b2 * d1 * u = add-mul (b1 * d2) (b2 * d1) u in
    omega arith

pub Is-add : (f : Format) (x y : Float) (p n q m i : ℕ) → Roomy f i → p + q < n + m + 2 ^ prec f → n + m < p + q + 2 ^ prec f → Is f x p n i
    → Is f y q m i → Is f (add f x y) (p + q) (n + m) i
Is-add f x y p n q m i r s t h k =
    Is-alike f (srnd f (pl x * den y + pl y * den x) (mi x * den y + mi y * den x) (den x * den y)) (add f x y) (p + q) (n + m) i
    (sym (add_srnd f x y h.real k.real))
    (srnd_exact f (pl x * den y + pl y * den x) (mi x * den y + mi y * den x) (den x * den y) (p + q) (n + m) i (mul-pos (den_pos x) (den_pos y)) r s t
    (sum_eq (2 ^ low f) (2 ^ i) p n (den x) (pl x) (mi x) q m (den y) (pl y) (mi y) h.value k.value))

pub Is-sub : (f : Format) (x y : Float) (p n q m i : ℕ) → Roomy f i → p + m < n + q + 2 ^ prec f → n + q < p + m + 2 ^ prec f → Is f x p n i
    → Is f y q m i → Is f (sub f x y) (p + m) (n + q) i
unfolding sub
Is-sub f x y p n q m i r s t h k = Is-add f x (neg y) p n m q i r s t h (Is-neg f y q m i k)

-- ---- a product
pub mul_srnd' : (f : Format) (x y : Float) → T (finite x) → T (finite y)
    → Alike (mul f x y) (srnd f (pl x * pl y + mi x * mi y) (pl x * mi y + mi x * pl y) (den x * den y))
unfolding mul
mul_srnd' f nan y p q = absurd p
mul_srnd' f (inf s) y p q = absurd p
mul_srnd' f (fin s m e) nan p q = absurd q
mul_srnd' f (fin s m e) (inf t) p q = absurd q
mul_srnd' f (fin true m e) (fin true n d) p q = signed_pos f (m * up e * (n * up d)) (0 * 0 + m * up e * (n * up d)) (0 * (n * up d) + m * up e * 0)
    (down e * down d) (omega arith)
mul_srnd' f (fin true m e) (fin false n d) p q = signed_neg f (m * up e * (n * up d)) (0 * (n * up d) + m * up e * 0) (0 * 0 + m * up e * (n * up d))
    (down e * down d) (mul-pos (down_pos e) (down_pos d)) (omega arith)
mul_srnd' f (fin false m e) (fin true n d) p q = signed_neg f (m * up e * (n * up d)) (m * up e * 0 + 0 * (n * up d)) (m * up e * (n * up d) + 0 * 0)
    (down e * down d) (mul-pos (down_pos e) (down_pos d)) (omega arith)
mul_srnd' f (fin false m e) (fin false n d) p q = signed_pos f (m * up e * (n * up d)) (m * up e * (n * up d) + 0 * 0) (m * up e * 0 + 0 * (n * up d))
    (down e * down d) (omega arith)

-- (α - α') (β - β') = (P - N) (Q - M) from α - α' = P - N and β - β' = Q - M
pub cross_mul : (a a' b b' P N Q M : ℕ) → a + N ≡ P + a' → b + M ≡ Q + b' → a * b + a' * b' + (P * M + N * Q) ≡ P * Q + N * M + (a * b' + a' * b)
cross_mul a a' b b' P N Q M h k =
    let e1 : a * b + N * b ≡ P * b + a' * b = sym (add-mul a N b) ∙ ap (λ (z : ℕ). z * b) h ∙ add-mul P a' b in
    let e2 : a * b' + N * b' ≡ P * b' + a' * b' = sym (add-mul a N b') ∙ ap (λ (z : ℕ). z * b') h ∙ add-mul P a' b' in
    let e3 : P * b + P * M ≡ P * Q + P * b' = sym (mul-add P b M) ∙ ap (λ (z : ℕ). P * z) k ∙ mul-add P Q b' in
    let e4 : N * b + N * M ≡ N * Q + N * b' = sym (mul-add N b M) ∙ ap (λ (z : ℕ). N * z) k ∙ mul-add N Q b' in
    omega arith

mul_eq : (u w v z p1 n1 d1 a1 b1 p2 n2 d2 a2 b2 : ℕ) → 0 < u → w * v ≡ u * z → a1 * u + n1 * w * d1 ≡ p1 * w * d1 + b1 * u
    → a2 * u + n2 * v * d2 ≡ p2 * v * d2 + b2 * u
    → (a1 * a2 + b1 * b2) * u + (p1 * n2 + n1 * p2) * z * (d1 * d2) ≡ (p1 * p2 + n1 * n2) * z * (d1 * d2) + (a1 * b2 + b1 * a2) * u
mul_eq u w v z p1 n1 d1 a1 b1 p2 n2 d2 a2 b2 U e h k =
    eq_of_mul-eq-mul_right u U ((a1 * a2 + b1 * b2) * u + (p1 * n2 + n1 * p2) * z * (d1 * d2)) ((p1 * p2 + n1 * n2) * z * (d1 * d2) + (a1 * b2 + b1 * a2) * u)
    (l ∙ cross_mul (a1 * u) (b1 * u) (a2 * u) (b2 * u) (p1 * w * d1) (n1 * w * d1) (p2 * v * d2) (n2 * v * d2) h k ∙ sym r)
  where
    term : (s t : ℕ) → s * t * z * (d1 * d2) * u ≡ s * w * d1 * (t * v * d2)
    term s t = first s t ∙ ap (λ (y : ℕ). s * t * (d1 * d2) * y) (sym e) ∙ last s t
      where
        first : (s t : ℕ) → s * t * z * (d1 * d2) * u ≡ s * t * (d1 * d2) * (u * z)
        first s t = simp (mul_assoc, mul_comm, mul_left_comm)

        last : (s t : ℕ) → s * t * (d1 * d2) * (w * v) ≡ s * w * d1 * (t * v * d2)
        last s t = simp (mul_assoc, mul_comm, mul_left_comm)

    square : (s t : ℕ) → s * t * u * u ≡ s * u * (t * u)
    square s t = simp (mul_assoc, mul_comm, mul_left_comm)

    four : (s t s' t' y : ℕ) → (s * t + s' * t') * z * y * u ≡ s * t * z * y * u + s' * t' * z * y * u
    four s t s' t' y = ap (λ (x : ℕ). x * y * u) (add-mul (s * t) (s' * t') z) ∙ ap (λ (x : ℕ). x * u) (add-mul (s * t * z) (s' * t' * z) y)
        ∙ add-mul (s * t * z * y) (s' * t' * z * y) u

    two : (s t s' t' : ℕ) → (s * t + s' * t') * u * u ≡ s * t * u * u + s' * t' * u * u
    two s t s' t' = ap (λ (x : ℕ). x * u) (add-mul (s * t) (s' * t') u) ∙ add-mul (s * t * u) (s' * t' * u) u

    l : ((a1 * a2 + b1 * b2) * u + (p1 * n2 + n1 * p2) * z * (d1 * d2)) * u ≡ a1 * u * (a2 * u) + b1 * u * (b2 * u) +
        (p1 * w * d1 * (n2 * v * d2) + n1 * w * d1 * (p2 * v * d2))
    l =
        add-mul ((a1 * a2 + b1 * b2) * u) ((p1 * n2 + n1 * p2) * z * (d1 * d2)) u
        ∙ ap₂ (λ (x y : ℕ). x + y) (two a1 a2 b1 b2 ∙ ap₂ (λ (x y : ℕ). x + y) (square a1 a2) (square b1 b2))
        (four p1 n2 n1 p2 (d1 * d2) ∙ ap₂ (λ (x y : ℕ). x + y) (term p1 n2) (term n1 p2))

    r : ((p1 * p2 + n1 * n2) * z * (d1 * d2) + (a1 * b2 + b1 * a2) * u) * u ≡ p1 * w * d1 * (p2 * v * d2) + n1 * w * d1 * (n2 * v * d2) +
        (a1 * u * (b2 * u) + b1 * u * (a2 * u))
    r =
        add-mul ((p1 * p2 + n1 * n2) * z * (d1 * d2)) ((a1 * b2 + b1 * a2) * u) u
        ∙ ap₂ (λ (x y : ℕ). x + y) (four p1 p2 n1 n2 (d1 * d2) ∙ ap₂ (λ (x y : ℕ). x + y) (term p1 p2) (term n1 n2))
        (two a1 b2 b1 a2 ∙ ap₂ (λ (x y : ℕ). x + y) (square a1 b2) (square b1 a2))

-- the exponents add up to the product's, which is counted from the smallest value too
pow_eq : (l i j k : ℕ) → i + j ≡ l + k → 2 ^ i * 2 ^ j ≡ 2 ^ l * 2 ^ k
pow_eq l i j k h = sym (pow-add 2 i j) ∙ ap (λ (z : ℕ). 2 ^ z) h ∙ pow-add 2 l k

pub mul_value : (f : Format) (x y : Float) (p n q m i j k : ℕ) → i + j ≡ low f + k → Is f x p n i → Is f y q m j
    → (pl x * pl y + mi x * mi y) * 2 ^ low f + (p * m + n * q) * 2 ^ k * (den x * den y) ≡ (p * q + n * m) * 2 ^ k * (den x * den y) +
    (pl x * mi y + mi x * pl y) * 2 ^ low f
mul_value f x y p n q m i j k e h g =
    mul_eq (2 ^ low f) (2 ^ i) (2 ^ j) (2 ^ k) p n (den x) (pl x) (mi x) q m (den y) (pl y) (mi y) (pow_pos (low f)) (pow_eq (low f) i j k e)
    h.value g.value

pub Is-mul : (f : Format) (x y : Float) (p n q m i j k : ℕ) → i + j ≡ low f + k → Roomy f k → p * q + n * m < p * m + n * q + 2 ^ prec f
    → p * m + n * q < p * q + n * m + 2 ^ prec f
    → Is f x p n i → Is f y q m j → Is f (mul f x y) (p * q + n * m) (p * m + n * q) k
Is-mul f x y p n q m i j k e r s t h g =
    Is-alike f (srnd f (pl x * pl y + mi x * mi y) (pl x * mi y + mi x * pl y) (den x * den y)) (mul f x y) (p * q + n * m) (p * m + n * q) k
    (sym (mul_srnd' f x y h.real g.real))
    (srnd_exact f (pl x * pl y + mi x * mi y) (pl x * mi y + mi x * pl y) (den x * den y) (p * q + n * m) (p * m + n * q) k
    (mul-pos (den_pos x) (den_pos y)) r s t (mul_value f x y p n q m i j k e h g))

-- ---- a rounded difference sees only its value
pub srnd_same : (f : Format) (p n c q m d : ℕ) → 0 < c → 0 < d → p * d + m * c ≡ q * c + n * d → Alike (srnd f p n c) (srnd f q m d)
srnd_same f p n c q m d C D e = go (nat_le n p) (nat_le m q) (leb→le n p) (nleb→lt n p) (leb→le m q) (nleb→lt m q)
  where
    e' : n * d + q * c ≡ m * c + p * d
    e' = omega arith

    go : (x y : Bool) → (T x → n ≤ p) → (T (not x) → p < n) → (T y → m ≤ q) → (T (not y) → q < m)
        → Alike (cond x (round f false (p - n) c) (round f true (n - p) c)) (cond y (round f false (q - m) d) (round f true (m - q) d))
    go true true a b g h = ap strip (round_same f false (p - n) c (q - m) d C D (spread p n d q m c (a tt) (g tt) e))
    go false false a b g h = ap strip (round_same f true (n - p) c (m - q) d C D (spread n p d m q c (le_of_lt (b tt)) (le_of_lt (h tt)) e'))
    go true false a b g h =
        let l : m ≤ q = follow p n d q m c C (a tt) e in
        absurd (lt_irrefl q (lt_of_lt_of_le (h tt) l))
    go false true a b g h =
        let l : n ≤ p = follow q m c p n d D (g tt) (sym e) in
        absurd (lt_irrefl p (lt_of_lt_of_le (b tt) l))

-- ---- the order, by units
across : (u d w p n a b : ℕ) → a * u + n * d ≡ p * d + b * u → a * w * u + n * (d * w) ≡ p * (d * w) + b * w * u
across u d w p n a b h = one a n ∙ ap (λ (z : ℕ). z * w) h ∙ two p b
  where
    one : (s t : ℕ) → s * w * u + t * (d * w) ≡ (s * u + t * d) * w
    one s t = simp (add-mul, mul_assoc, mul_comm, mul_left_comm)

    two : (s t : ℕ) → (s * d + t * u) * w ≡ s * (d * w) + t * w * u
    two s t = simp (add-mul, mul_assoc, mul_comm, mul_left_comm)

pub flat : (f : Format) (x : Float) (p n : ℕ) → Is f x p n 0 → pl x * 2 ^ low f + n * den x ≡ p * den x + mi x * 2 ^ low f
flat f x p n k = ap (λ (z : ℕ). pl x * 2 ^ low f + z * den x) (sym (mul-one n)) ∙ k.value ∙ ap (λ (z : ℕ). z * den x + mi x * 2 ^ low f) (mul-one p)

module _ (f : Format) (x y : Float) (p n q m : ℕ) (h : Is f x p n 0) (k : Is f y q m 0) where
  abbrev u : ℕ
  u = 2 ^ low f

  abbrev d : ℕ
  d = den x * den y

  left_units : pl x * den y * u + n * d ≡ p * d + mi x * den y * u
  left_units = across u (den x) (den y) p n (pl x) (mi x) (flat f x p n h)

  right_units : pl y * den x * u + m * d ≡ q * d + mi y * den x * u
  right_units = subst (λ (z : ℕ). pl y * den x * u + m * z ≡ q * z + mi y * den x * u) (mul_comm (den y) (den x))
      (across u (den y) (den x) q m (pl y) (mi y) (flat f y q m k))

  pub Is-Le : p + m ≤ q + n → Le x y
  Is-Le l =
      let a = left_units in
      let b = right_units in
      let c : (p + m) * d ≤ (q + n) * d = mul-le-mul_right d l in
      let e = add-mul p m d in
      let g = add-mul q n d in
      let i = add-mul (pl x * den y) (mi y * den x) u in
      let j = add-mul (pl y * den x) (mi x * den y) u in
      let s : (pl x * den y + mi y * den x) * u ≤ (pl y * den x + mi x * den y) * u = omega arith in
      record { first = h.real; second = k.real; cross = le_of_mul-le-mul_right s (pow_pos (low f)) }

  pub Le-Is : Le x y → p + m ≤ q + n
  Le-Is l =
      let a = left_units in
      let b = right_units in
      let c : (pl x * den y + mi y * den x) * u ≤ (pl y * den x + mi x * den y) * u = mul-le-mul_right u l.cross in
      let e = add-mul p m d in
      let g = add-mul q n d in
      let i = add-mul (pl x * den y) (mi y * den x) u in
      let j = add-mul (pl y * den x) (mi x * den y) u in
      let s : (p + m) * d ≤ (q + n) * d = omega arith in
      le_of_mul-le-mul_right s (mul-pos (den_pos x) (den_pos y))
