-- For a zero or from 2 ^ -(k + 1) to 2 ^ 400 in size, and b zero or from 2 ^ -(l + 1), where k + l is at most 968, Dekker's
-- error equals the fused product of a, b and minus their rounded product, sign of a zero included.
-- Signs: both forms are odd in a and in b (`Opp`). Zeros: neither form ever gives -0.
use Rattle.std.proofs.Common.{◌≡◌, ℕ, zero, suc, ◌+◌, ◌-◌, ◌*◌, ◌^◌, ◌<◌, ◌≤◌, Bool, true, false, cond, not, ◌&&◌, T, ltb, ◌⊎◌, ℤ, pos, negsuc, sym}
use Rattle.std.proofs.Common.{refl, ap, ◌∙◌, subst, ap₂, inl, inr, le_of_eq, lt_of_lt_of_le, lt_irrefl, zero-lt-suc, mul_assoc, mul-pos, one-mul}
use Rattle.std.proofs.Common.{mul-zero, zero-mul, mul-one, mul_right_comm, mul_left_comm, arith, eqb→eq, pow_pos, pow-add}
use native.Mathlib.Nat.{eq_of_mul-eq-mul_right}
use mathlib.Core.Bool.{beq}
use lib.Ieee.{Float, nan, inf, fin, binary64, unlike, up, down, round, neg, sum, add, sub, mul, fits}
use lib.Ieee.Fits.{down_pos, add-fits, mul-fits, neg-fits, round-fits, cond-fits, nan-fits, inf-fits}
use lib.Ieee.Scale.{finite}
use lib.Ieee.Positive.{num, den}
use Rattle.float.specs.Number.{negative}
use Rattle.float.specs.MulAdd.{mul_add}
use Rattle.float.specs.Laws.Sign.{strip, Alike, zero_f, round_zero, neg_neg}
use Rattle.float.specs.Laws.Like.{Like, Opp, like_refl, like_sym, like_trans, add_like, sub_like, mul_like, neg_like}
use Rattle.float.specs.Laws.Like.{add_opp, sub_opp, mul_opp_l, mul_opp_r, neg_opp, from_opp, first_zero, zero_l, zero_r}
use Rattle.float.specs.Laws.MulAdd.{by_parts, plus, mul_add_is, by_parts_like, by_parts_opp, by_parts_opp_r}
use Rattle.float.specs.Laws.Le.{plain, neg_finite}
use Rattle.float.specs.Promises.Order.{Within}
use Rattle.float.specs.Laws.Within.{Beyond, held, fits→held, add_within, sub_within, mul_within, numeral, neg_within, neg_beyond}
use Rattle.float.specs.Laws.Units.{Is}
use Rattle.float.proofs.product_error.NotMinusZero.{nz, sum_nz, whole_units, over_l, over_r, add_nz, mul_sgn, neg_sgn, one_nz}
use Rattle.float.proofs.product_error.Split.{scaled, halves}
use Rattle.float.proofs.product_error.Dekker.{dekker, step2, step3}
use Rattle.float.proofs.product_error.Normal.{Normal, normal, in_range_equal}
use Rattle.float.specs.Promises.Halves.{most, splitter, high_half, low_half}

abbrev pub fused : Float → Float → Float
fused a b = by_parts binary64 a b (neg (mul binary64 a b))

-- ---- both forms see only numbers, and are odd in each operand
high_like : {a a' : Float} → Like a a' → Like (high_half a) (high_half a')
high_like h = let s = mul_like binary64 (like_refl splitter) h in sub_like binary64 s (sub_like binary64 s h)

low_like : {a a' : Float} → Like a a' → Like (low_half a) (low_half a')
low_like h = sub_like binary64 h (high_like h)

high_opp : {a a' : Float} → Opp a a' → Opp (high_half a) (high_half a')
high_opp h = let s = mul_opp_r binary64 (like_refl splitter) h in sub_opp binary64 s (sub_opp binary64 s h)

low_opp : {a a' : Float} → Opp a a' → Opp (low_half a) (low_half a')
low_opp h = sub_opp binary64 h (high_opp h)

dekker_opp_l : {a a' b b' : Float} → Opp a a' → Like b b' → Opp (dekker a b) (dekker a' b')
dekker_opp_l h k =
    add_opp binary64 (add_opp binary64 (add_opp binary64 (sub_opp binary64 (mul_opp_l binary64 (high_opp h) (high_like k)) (mul_opp_l binary64 h k))
    (mul_opp_l binary64 (high_opp h) (low_like k))) (mul_opp_l binary64 (low_opp h) (high_like k))) (mul_opp_l binary64 (low_opp h) (low_like k))

dekker_opp_r : {a a' b b' : Float} → Like a a' → Opp b b' → Opp (dekker a b) (dekker a' b')
dekker_opp_r h k =
    add_opp binary64 (add_opp binary64 (add_opp binary64 (sub_opp binary64 (mul_opp_r binary64 (high_like h) (high_opp k)) (mul_opp_r binary64 h k))
    (mul_opp_r binary64 (high_like h) (low_opp k))) (mul_opp_r binary64 (low_like h) (high_opp k))) (mul_opp_r binary64 (low_like h) (low_opp k))

fused_opp_l : {a a' b b' : Float} → Opp a a' → Like b b' → Opp (fused a b) (fused a' b')
fused_opp_l h k = by_parts_opp binary64 h k (neg_opp (mul_opp_l binary64 h k))

fused_opp_r : {a a' b b' : Float} → Like a a' → Opp b b' → Opp (fused a b) (fused a' b')
fused_opp_r h k = by_parts_opp_r binary64 h k (neg_opp (mul_opp_r binary64 h k))

back : (a : Float) → Opp (neg a) a
back a = record { negated = ap strip (sym (neg_neg a)) }

both_negated : {x x' y y' : Float} → Opp x x' → Opp y y' → Like x y → Like x' y'
both_negated p q h = like_trans (from_opp p) (like_trans (neg_like h) (like_sym (from_opp q)))

by_right : {k l : ℕ} (a b : Float) → suc k + suc l ≤ 970 → Normal k a → Normal l b ⊎ Normal l (neg b) → Like (dekker a b) (fused a b)
by_right a b near x (inl y) = record { same = in_range_equal a b near x y }
by_right a b near x (inr y) = both_negated (dekker_opp_r (like_refl a) (back b)) (fused_opp_r (like_refl a) (back b))
    (record { same = in_range_equal a (neg b) near x y })

signs_equal : {k l : ℕ} (a b : Float) → suc k + suc l ≤ 970 → Normal k a ⊎ Normal k (neg a) → Normal l b ⊎ Normal l (neg b) → Like (dekker a b) (fused a b)
signs_equal a b near (inl x) y = by_right a b near x y
signs_equal a b near (inr x) y = both_negated (dekker_opp_l (back a) (like_refl b)) (fused_opp_l (back a) (like_refl b)) (by_right (neg a) b near x y)

-- ---- Dekker's error is not -0
abbrev pow2 : ℕ → Float
pow2 k = fin false 1 (pos k)

scaled_within : {a : Float} → Within most a → Within (pow2 428) (scaled a)
scaled_within h = mul_within binary64 (pow2 428) tt (numeral (pow2 28) splitter tt) h

high_within : {a : Float} → Within most a → Within (pow2 430) (high_half a)
high_within h = sub_within binary64 (pow2 430) tt (scaled_within h) (sub_within binary64 (pow2 429) tt (scaled_within h) h)

low_within : {a : Float} → Within most a → Within (pow2 431) (low_half a)
low_within h = sub_within binary64 (pow2 431) tt h (high_within h)

held_of : {B x : Float} → T (fits binary64 x) → Within B x → T (held binary64 x)
held_of {B} {x} t h = fits→held binary64 x t h.real

dekker_nz : (a b : Float) → Within most a → Within most b → negative (high_half a) ≡ negative a → negative (high_half b) ≡ negative b → T (nz (dekker a b))
unfolding sub
dekker_nz a b wa wb ea eb =
    let hh = mul_within binary64 (pow2 862) tt (high_within wa) (high_within wb) in
    let pp = mul_within binary64 (pow2 862) tt wa wb in
    let hl = mul_within binary64 (pow2 862) tt (high_within wa) (low_within wb) in
    let lh = mul_within binary64 (pow2 862) tt (low_within wa) (high_within wb) in
    let ll = mul_within binary64 (pow2 862) tt (low_within wa) (low_within wb) in
    let X = mul binary64 (high_half a) (high_half b) in
    let p = mul binary64 a b in
    let s1 = add_within binary64 (pow2 863) tt hh (neg_within pp) in
    let s2 = add_within binary64 (pow2 864) tt s1 hl in
    let s3 = add_within binary64 (pow2 865) tt s2 lh in
    let σ = unlike (negative a) (negative b) in
    let sX : negative X ≡ σ = mul_sgn (high_half a) (high_half b) (high_within wa).real (high_within wb).real ∙ ap₂ (λ (u v : Bool). unlike u v) ea eb in
    let sp : negative (neg p) ≡ not σ = neg_sgn p pp.real ∙ ap not (mul_sgn a b wa.real wb.real) in
    let n1 = add_nz X (neg p) (held_of (mul-fits binary64 (high_half a) (high_half b)) hh)
    (held_of (neg-fits binary64 p (mul-fits binary64 a b)) (neg_within pp)) (one_nz X (neg p) σ sX sp) in
    let n2 = add_nz (add binary64 X (neg p)) (mul binary64 (high_half a) (low_half b)) (held_of (add-fits binary64 X (neg p)) s1)
    (held_of (mul-fits binary64 (high_half a) (low_half b)) hl) (inl n1) in
    let n3 = add_nz (add binary64 (add binary64 X (neg p)) (mul binary64 (high_half a) (low_half b))) (mul binary64 (low_half a) (high_half b))
    (held_of (add-fits binary64 (add binary64 X (neg p)) (mul binary64 (high_half a) (low_half b))) s2)
    (held_of (mul-fits binary64 (low_half a) (high_half b)) lh) (inl n2) in
    add_nz (step3 a b) (mul binary64 (low_half a) (low_half b)) (held_of (add-fits binary64 (step2 a b) (mul binary64 (low_half a) (high_half b))) s3)
    (held_of (mul-fits binary64 (low_half a) (low_half b)) ll) (inl n3)

-- ---- the fused one is not -0, where the exact product is a whole number of units
plus_nz : (s : Bool) (X c W : ℕ) (p : Float) → 0 < c → X * 2 ^ 1074 ≡ W * c → negative p ≡ s → T (held binary64 p) → T (nz (plus binary64 s X c (neg p)))
unfolding plus neg
plus_nz s X c W nan C e h t = absurd t
plus_nz s X c W (inf u) C e h t = absurd t
plus_nz s X c W (fin u k g) C e h t =
    let wz = whole_units (fin u k g) t in
    sum_nz (X * down g) (k * up g * c) (c * down g) W wz.0 (mul-pos C (down_pos g)) (over_l X c (2 ^ 1074) W (down g) e)
    (over_r (k * up g) (down g) (2 ^ 1074) wz.0 c wz.1) s (not u) (go s h)
  where
    go : (s : Bool) → u ≡ s → (s ≡ false) ⊎ (not u ≡ false) ⊎ (0 < X * down g + k * up g * c)
    go false h = inl refl
    go true h = inr (inl (ap not h))

fused_nz : (a b : Float) (W : ℕ) → Within most a → Within most b → num a * num b * 2 ^ 1074 ≡ W * (den a * den b) → T (nz (fused a b))
unfolding by_parts
fused_nz nan b W wa wb e = absurd wa.real
fused_nz (inf s) b W wa wb e = absurd wa.real
fused_nz (fin s m e) nan W wa wb h = absurd wb.real
fused_nz (fin s m e) (inf t) W wa wb h = absurd wb.real
fused_nz (fin s m e) (fin t n d) W wa wb h =
    plus_nz (unlike s t) (m * up e * (n * up d)) (down e * down d) W (mul binary64 (fin s m e) (fin t n d)) (mul-pos (down_pos e) (down_pos d)) h
    (mul_sgn (fin s m e) (fin t n d) tt tt)
    (held_of (mul-fits binary64 (fin s m e) (fin t n d)) (mul_within binary64 (pow2 862) tt wa wb))

-- ---- a value above zero, by its units
pos_prod : (p w d : ℕ) → 0 < p → 0 < w → 0 < d → p * w * d ≡ 0 → ⊥
pos_prod p w d P W D h = lt_irrefl 0 (lt_of_lt_of_le (mul-pos (mul-pos P W) D) (le_of_eq h))

Is-plus : (x : Float) (p i : ℕ) → 0 < p → Is binary64 x p 0 i → (negative x ≡ false) × (num x * 2 ^ 1074 ≡ p * 2 ^ i * den x)
Is-plus nan p i P h = absurd h.real
Is-plus (inf s) p i P h = absurd h.real
Is-plus (fin true m e) p i P h = absurd (pos_prod p (2 ^ i) (down e) P (pow_pos i) (down_pos e)
    (none (p * 2 ^ i * down e) (m * up e * 2 ^ 1074) (0 * 2 ^ i * down e) (ap (λ (z : ℕ). z * down e) (zero-mul (2 ^ i)) ∙ zero-mul (down e))
    (sym h.value)))
  where
    none : (a b c : ℕ) → c ≡ 0 → a + b ≡ 0 + c → a ≡ 0
    none a b c e h = omega arith
Is-plus (fin false m e) p i P h = (
  refl,
  drop (m * up e * 2 ^ 1074) (0 * 2 ^ i * down e) (p * 2 ^ i * down e)
      (ap (λ (z : ℕ). z * down e) (zero-mul (2 ^ i)) ∙ zero-mul (down e)) h.value,
)
  where
    drop : (a c b : ℕ) → c ≡ 0 → a + c ≡ b + 0 → a ≡ b
    drop a c b e h = omega arith

-- y is minus x, as a number, and x is above zero: y has the minus sign
minus_sgn : (x y : Float) (p i : ℕ) → 0 < p → Is binary64 x p 0 i → Alike y (neg x) → negative y ≡ true
unfolding neg strip
minus_sgn nan y p i P h k = absurd h.real
minus_sgn (inf s) y p i P h k = absurd h.real
minus_sgn (fin s zero e) y p i P h k = absurd (pos_prod p (2 ^ i) (down e) P (pow_pos i) (down_pos e)
    (sym (Is-plus (fin s zero e) p i P h).1 ∙ zero_l (up e) (2 ^ 1074)))
minus_sgn (fin s (suc m) e) y p i P h k = go y k (Is-plus (fin s (suc m) e) p i P h).0
  where
    tell : Float → Type 0
    tell nan = Unit {0}
    tell (inf r) = Unit {0}
    tell (fin r zero g) = Unit {0}
    tell (fin r (suc n) g) = ⊥

    go : (y : Float) → strip y ≡ fin (not s) (suc m) e → s ≡ false → negative y ≡ true
    go nan k z = ap negative k ∙ ap not z
    go (inf r) k z = ap negative k ∙ ap not z
    go (fin r zero g) k z = absurd (subst tell k tt)
    go (fin r (suc n) g) k z = ap negative k ∙ ap not z

-- ---- the operands: zero, or from 2 ^ -(k + 1) to 2 ^ 400
abbrev pub is_zero : Float → Bool
is_zero nan = false
is_zero (inf s) = false
is_zero (fin s zero e) = true
is_zero (fin s (suc m) e) = false

pub record Ranged (k : ℕ) (a : Float) : Type 0 where
  pub short : suc k ≤ 1000
  pub ok : T (fits binary64 a)
  pub size : Within most a
  pub kind : T (is_zero a) ⊎ Beyond (fin false 1 (negsuc k)) a

upright : (m : ℕ) (e : ℤ) → T (plain (neg (fin true m e)))
unfolding neg
upright m e = tt

sized : (k : ℕ) → suc k ≤ 1000 → (a : Float) → T (fits binary64 a) → Within most a → Beyond (fin false 1 (negsuc k)) a → Normal k a ⊎ Normal k (neg a)
sized k short nan t w b = absurd w.real
sized k short (inf s) t w b = absurd w.real
sized k short (fin false m e) t w b = inl (normal k short (fin false m e) (fits→held binary64 (fin false m e) t tt) tt w b)
sized k short (fin true m e) t w b = inr (normal k short (neg (fin true m e))
    (fits→held binary64 (neg (fin true m e)) (neg-fits binary64 (fin true m e) t) (neg_finite (fin true m e) tt)) (upright m e) (neg_within w)
    (neg_beyond b))

flat : (e : ℤ) → up e * down e ≡ 1 → e ≡ pos 0
flat (pos zero) h = refl
flat (pos (suc k)) h = absurd (two_up (2 ^ k) (pow_pos k) (sym (native.Mathlib.Nat.pow-succ' 2 k) ∙ sym (mul-one (2 ^ suc k)) ∙ h))
  where
    two_up : (p : ℕ) → 0 < p → 2 * p ≡ 1 → ⊥
    two_up p h e = omega arith
flat (negsuc k) h = absurd (two_up (2 ^ k) (pow_pos k) (sym (native.Mathlib.Nat.pow-succ' 2 k) ∙ sym (one-mul (2 ^ suc k)) ∙ h))
  where
    two_up : (p : ℕ) → 0 < p → 2 * p ≡ 1 → ⊥
    two_up p h e = omega arith

zero_exp : (s : Bool) (e : ℤ) → T (fits binary64 (fin s zero e)) → e ≡ pos 0
unfolding fits
zero_exp s e t = flat e (eqb→eq (up e * down e) 1 t)

-- ---- the high half has the operand's sign
high_zero : (s : Bool) → high_half (fin s 0 (pos 0)) ≡ fin s 0 (pos 0)
unfolding mul sub
high_zero true = refl
high_zero false = refl

high_sgn : {k : ℕ} (a : Float) → Ranged k a → negative (high_half a) ≡ negative a
high_sgn {k} a r = go r.kind
  where
    at_zero : (a : Float) → T (fits binary64 a) → T (is_zero a) → negative (high_half a) ≡ negative a
    at_zero nan t z = absurd z
    at_zero (inf s) t z = absurd z
    at_zero (fin s zero e) t z = subst (λ (g : ℤ). negative (high_half (fin s zero g)) ≡ s) (sym (zero_exp s e t)) (ap negative (high_zero s))
    at_zero (fin s (suc m) e) t z = absurd z

    by_size : Normal k a ⊎ Normal k (neg a) → negative (high_half a) ≡ negative a
    by_size (inl x) =
        let u = x.down in
        let l = x.lo in
        let h = halves a x.A x.i x.lo x.hi (omega arith) x.is in
        (Is-plus (high_half a) h.0 (x.i + 27) h.1.some h.1.top).0 ∙ sym (Is-plus a x.A x.i (omega arith) x.is).0
    by_size (inr x) =
        let u = x.down in
        let l = x.lo in
        let h = halves (neg a) x.A x.i x.lo x.hi (omega arith) x.is in
        minus_sgn (high_half (neg a)) (high_half a) h.0 (x.i + 27) h.1.some h.1.top (high_opp (back a)).negated
        ∙ sym (minus_sgn (neg a) a x.A x.i (omega arith) x.is (back a).negated)

    go : T (is_zero a) ⊎ Beyond (fin false 1 (negsuc k)) a → negative (high_half a) ≡ negative a
    go (inl z) = at_zero a r.ok z
    go (inr b) = by_size (sized k r.short a r.ok r.size b)

-- ---- the exact product is a whole number of units
neg_parts : (x : Float) → (num (neg x) ≡ num x) × (den (neg x) ≡ den x)
unfolding neg
neg_parts nan = (refl, refl)
neg_parts (inf s) = (refl, refl)
neg_parts (fin s m e) = (refl, refl)

record Big (k : ℕ) (a : Float) : Type 0 where
  A : ℕ
  i : ℕ
  far : 1022 ≤ i + suc k
  is : num a * 2 ^ 1074 ≡ A * 2 ^ i * den a

big : {k : ℕ} (a : Float) → Normal k a ⊎ Normal k (neg a) → Big k a
big a (inl x) = let l = x.lo in record { A = x.A; i = x.i; far = x.up; is = (Is-plus a x.A x.i (omega arith) x.is).1 }
big a (inr x) =
    let l = x.lo in
    record {
      A = x.A;
      i = x.i;
      far = x.up;
      is = ap (λ (z : ℕ). z * 2 ^ 1074) (sym (neg_parts a).0) ∙ (Is-plus (neg a) x.A x.i (omega arith) x.is).1
          ∙ ap (λ (z : ℕ). x.A * 2 ^ x.i * z) (neg_parts a).1;
    }

product_units : (n1 d1 n2 d2 u P Q W : ℕ) → 0 < u → n1 * u ≡ P * d1 → n2 * u ≡ Q * d2 → P * Q ≡ W * u → n1 * n2 * u ≡ W * (d1 * d2)
product_units n1 d1 n2 d2 u P Q W U h k e =
    eq_of_mul-eq-mul_right u U (n1 * n2 * u) (W * (d1 * d2)) (one ∙ ap₂ (λ (x y : ℕ). x * y) h k ∙ two ∙ ap (λ (z : ℕ). z * (d1 * d2)) e
    ∙ mul_right_comm W u (d1 * d2))
  where
    one : n1 * n2 * u * u ≡ n1 * u * (n2 * u)
    one = simp (mul_assoc, mul_left_comm)

    two : P * d1 * (Q * d2) ≡ P * Q * (d1 * d2)
    two = native.Mathlib.Nat.mul-mul-mul_comm P d1 Q d2

big_product : {p q : ℕ} (a b : Float) → suc p + suc q ≤ 970 → Big p a → Big q b → (W : ℕ) × (num a * num b * 2 ^ 1074 ≡ W * (den a * den b))
big_product a b near x y =
    let k = x.i + y.i - 1074 in
    let l1 = x.far in
    let l2 = y.far in
    let e : x.i + y.i ≡ k + 1074 = omega arith in
    let W = x.A * y.A * 2 ^ k in (
      W,
      product_units (num a) (den a) (num b) (den b) (2 ^ 1074) (x.A * 2 ^ x.i) (y.A * 2 ^ y.i) W (pow_pos 1074) x.is y.is
          (native.Mathlib.Nat.mul-mul-mul_comm x.A (2 ^ x.i) y.A (2 ^ y.i)
          ∙ ap (λ (z : ℕ). x.A * y.A * z) (sym (pow-add 2 x.i y.i) ∙ ap (λ (z : ℕ). 2 ^ z) e ∙ pow-add 2 k 1074)
          ∙ sym (mul_assoc (x.A * y.A) (2 ^ k) (2 ^ 1074))),
    )

zero_num : (a : Float) → T (is_zero a) → num a ≡ 0
zero_num nan z = absurd z
zero_num (inf s) z = absurd z
zero_num (fin s zero e) z = zero-mul (up e)
zero_num (fin s (suc m) e) z = absurd z

whole_product : {k l : ℕ} (a b : Float) → suc k + suc l ≤ 970 → Ranged k a → Ranged l b → (W : ℕ) × (num a * num b * 2 ^ 1074 ≡ W * (den a * den b))
whole_product {k} {l} a b near x y = go x.kind y.kind
  where
    no_product : num a * num b ≡ 0 → (W : ℕ) × (num a * num b * 2 ^ 1074 ≡ W * (den a * den b))
    no_product h = (0, ap (λ (z : ℕ). z * 2 ^ 1074) h ∙ zero-mul (2 ^ 1074) ∙ sym (zero-mul (den a * den b)))

    go : T (is_zero a) ⊎ Beyond (fin false 1 (negsuc k)) a → T (is_zero b) ⊎ Beyond (fin false 1 (negsuc l)) b
        → (W : ℕ) × (num a * num b * 2 ^ 1074 ≡ W * (den a * den b))
    go (inl z) k = no_product (ap (λ (v : ℕ). v * num b) (zero_num a z) ∙ zero-mul (num b))
    go (inr u) (inl z) = no_product (ap (λ (v : ℕ). num a * v) (zero_num b z) ∙ mul-zero (num a))
    go (inr u) (inr v) = big_product a b near (big a (sized k x.short a x.ok x.size u)) (big b (sized l y.short b y.ok y.size v))

-- ---- where an operand is zero, both are zero
zero_like : (a : Float) → T (is_zero a) → Like a zero_f
zero_like nan z = absurd z
zero_like (inf s) z = absurd z
zero_like (fin s zero e) z = record { same = unfold strip in refl }
zero_like (fin s (suc m) e) z = absurd z

mul_zero_l : (y : Float) → T (finite y) → Like (mul binary64 zero_f y) zero_f
unfolding mul strip
mul_zero_l nan p = absurd p
mul_zero_l (inf t) p = absurd p
mul_zero_l (fin t n d) p = record {
  same = round_zero binary64 (unlike false t) (0 * 1 * (n * up d)) (1 * down d)
      (mul-pos (zero-lt-suc 0) (down_pos d)) (zero_l 1 (n * up d));
}

mul_zero_r : (x : Float) → T (finite x) → Like (mul binary64 x zero_f) zero_f
unfolding mul strip
mul_zero_r nan p = absurd p
mul_zero_r (inf t) p = absurd p
mul_zero_r (fin s m e) p = record {
  same = round_zero binary64 (unlike s false) (m * up e * (0 * 1)) (down e * 1)
      (mul-pos (down_pos e) (zero-lt-suc 0)) (zero_r (m * up e) 1);
}

halves_zero : (high_half zero_f ≡ zero_f) × (low_half zero_f ≡ zero_f)
unfolding mul sub
halves_zero = (refl, refl)

of_eq : {x y z : Float} → y ≡ z → Like x y → Like x z
of_eq e h = record { same = h.same ∙ ap strip e }

sums_zero : Like (add binary64 (add binary64 (add binary64 (sub binary64 zero_f zero_f) zero_f) zero_f) zero_f) zero_f
unfolding sub strip
sums_zero = record { same = refl }

all_zero : {v p w x y : Float} → Like v zero_f → Like p zero_f → Like w zero_f → Like x zero_f → Like y zero_f
    → Like (add binary64 (add binary64 (add binary64 (sub binary64 v p) w) x) y) zero_f
all_zero h i j k l = like_trans (add_like binary64 (add_like binary64 (add_like binary64 (sub_like binary64 h i) j) k) l) sums_zero

dekker_zero_l : (a b : Float) → T (is_zero a) → Within most b → Like (dekker a b) zero_f
dekker_zero_l a b z w =
    let h = zero_like a z in
    let hh = of_eq halves_zero.0 (high_like h) in
    let hr = of_eq halves_zero.1 (low_like h) in
    let at : (x y : Float) → Like x zero_f → T (finite y) → Like (mul binary64 x y) zero_f = λ x y k p. like_trans (mul_like binary64 k (like_refl y))
    (mul_zero_l y p) in
    all_zero (at (high_half a) (high_half b) hh (high_within w).real) (at a b h w.real) (at (high_half a) (low_half b) hh (low_within w).real)
    (at (low_half a) (high_half b) hr (high_within w).real) (at (low_half a) (low_half b) hr (low_within w).real)

dekker_zero_r : (a b : Float) → T (is_zero b) → Within most a → Like (dekker a b) zero_f
dekker_zero_r a b z w =
    let h = zero_like b z in
    let hh = of_eq halves_zero.0 (high_like h) in
    let hr = of_eq halves_zero.1 (low_like h) in
    let at : (x y : Float) → Like y zero_f → T (finite x) → Like (mul binary64 x y) zero_f = λ x y k p. like_trans (mul_like binary64 (like_refl x) k)
    (mul_zero_r x p) in
    all_zero (at (high_half a) (high_half b) hh (high_within w).real) (at a b h w.real) (at (high_half a) (low_half b) hr (high_within w).real)
    (at (low_half a) (high_half b) hh (low_within w).real) (at (low_half a) (low_half b) hr (low_within w).real)

-- 0 plus ±0
plus_zeros : (s : Bool) (X c : ℕ) (z : Float) → 0 < c → X ≡ 0 → z ≡ neg zero_f → Alike (plus binary64 s X c z) zero_f
unfolding plus neg strip
plus_zeros s X c z C h e =
    ap (λ (v : Float). strip (plus binary64 s X c v)) e
    ∙ first_zero binary64 s (X * 1) true (0 * 1 * c) (c * 1) (mul-pos C (zero-lt-suc 0)) (ap (λ (v : ℕ). v * 1) h)
    ∙ round_zero binary64 true (0 * 1 * c) (c * 1) (mul-pos C (zero-lt-suc 0)) (zero_l 1 c)

by_parts_zero_l : (y : Float) → T (finite y) → Like (by_parts binary64 zero_f y (neg zero_f)) zero_f
unfolding by_parts strip
by_parts_zero_l nan p = absurd p
by_parts_zero_l (inf t) p = absurd p
by_parts_zero_l (fin t n d) p = record {
  same = plus_zeros (unlike false t) (0 * 1 * (n * up d)) (1 * down d) (neg zero_f)
      (mul-pos (zero-lt-suc 0) (down_pos d)) (zero_l 1 (n * up d)) refl;
}

by_parts_zero_r : (x : Float) → T (finite x) → Like (by_parts binary64 x zero_f (neg zero_f)) zero_f
unfolding by_parts strip
by_parts_zero_r nan p = absurd p
by_parts_zero_r (inf t) p = absurd p
by_parts_zero_r (fin s m e) p = record {
  same = plus_zeros (unlike s false) (m * up e * (0 * 1)) (down e * 1) (neg zero_f)
      (mul-pos (down_pos e) (zero-lt-suc 0)) (zero_r (m * up e) 1) refl;
}

fused_zero_l : (a b : Float) → T (is_zero a) → T (finite b) → Like (fused a b) zero_f
fused_zero_l a b z p =
    let h = zero_like a z in
    like_trans (by_parts_like binary64 h (like_refl b) (neg_like (like_trans (mul_like binary64 h (like_refl b)) (mul_zero_l b p)))) (by_parts_zero_l b p)

fused_zero_r : (a b : Float) → T (is_zero b) → T (finite a) → Like (fused a b) zero_f
fused_zero_r a b z p =
    let h = zero_like b z in
    like_trans (by_parts_like binary64 (like_refl a) h (neg_like (like_trans (mul_like binary64 (like_refl a) h) (mul_zero_r a p)))) (by_parts_zero_r a p)

numbers_equal : {k l : ℕ} (a b : Float) → suc k + suc l ≤ 970 → Ranged k a → Ranged l b → Like (dekker a b) (fused a b)
numbers_equal {k} {l} a b near x y = go x.kind y.kind
  where
    go : T (is_zero a) ⊎ Beyond (fin false 1 (negsuc k)) a → T (is_zero b) ⊎ Beyond (fin false 1 (negsuc l)) b → Like (dekker a b) (fused a b)
    go (inl z) k = like_trans (dekker_zero_l a b z y.size) (like_sym (fused_zero_l a b z y.size.real))
    go (inr u) (inl z) = like_trans (dekker_zero_r a b z x.size) (like_sym (fused_zero_r a b z x.size.real))
    go (inr u) (inr v) = signs_equal a b near (sized k x.short a x.ok x.size u) (sized l y.short b y.ok y.size v)

-- ---- two values of the format that are not -0 and are equal as numbers are one
unstripped : (x : Float) → T (nz x) → T (fits binary64 x) → strip x ≡ x
unfolding strip
unstripped nan p t = refl
unstripped (inf s) p t = refl
unstripped (fin true zero e) p t = absurd p
unstripped (fin false zero e) p t = ap (λ (g : ℤ). fin false 0 g) (sym (zero_exp false e t))
unstripped (fin true (suc m) e) p t = refl
unstripped (fin false (suc m) e) p t = refl

sum_fits : (s : Bool) (a : ℕ) (t : Bool) (b c : ℕ) → T (fits binary64 (sum binary64 s a t b c))
unfolding sum
sum_fits s a t b c =
    cond-fits binary64 (beq s t) (round binary64 s (a + b) c)
    (cond (ltb a b) (round binary64 t (b - a) c) (round binary64 (s && ltb b a) (a - b) c)) (round-fits binary64 s (a + b) c)
    (cond-fits binary64 (ltb a b) (round binary64 t (b - a) c) (round binary64 (s && ltb b a) (a - b) c) (round-fits binary64 t (b - a) c)
    (round-fits binary64 (s && ltb b a) (a - b) c))

plus_fits : (s : Bool) (X c : ℕ) (z : Float) → T (fits binary64 (plus binary64 s X c z))
unfolding plus
plus_fits s X c nan = nan-fits binary64
plus_fits s X c (inf u) = inf-fits binary64 u
plus_fits s X c (fin u k g) = sum_fits s (X * down g) u (k * up g * c) (c * down g)

by_parts_fits : (a b z : Float) → T (finite a) → T (finite b) → T (fits binary64 (by_parts binary64 a b z))
unfolding by_parts
by_parts_fits nan b z p q = absurd p
by_parts_fits (inf s) b z p q = absurd p
by_parts_fits (fin s m e) nan z p q = absurd q
by_parts_fits (fin s m e) (inf t) z p q = absurd q
by_parts_fits (fin s m e) (fin t n d) z p q = plus_fits (unlike s t) (m * up e * (n * up d)) (down e * down d) z

-- ---- the theorem
pub dekker_is_fused : {k l : ℕ} (a b : Float) → suc k + suc l ≤ 970 → Ranged k a → Ranged l b → dekker a b ≡ mul_add binary64 a b (neg (mul binary64 a b))
dekker_is_fused a b near x y =
    let W = whole_product a b near x y in
    sym (unstripped (dekker a b) (dekker_nz a b x.size y.size (high_sgn a x) (high_sgn b y))
    (add-fits binary64 (step3 a b) (mul binary64 (low_half a) (low_half b))))
    ∙ (numbers_equal a b near x y).same
    ∙ unstripped (fused a b) (fused_nz a b W.0 x.size y.size W.1) (by_parts_fits a b (neg (mul binary64 a b)) x.size.real y.size.real)
    ∙ mul_add_is binary64 a b (neg (mul binary64 a b))
