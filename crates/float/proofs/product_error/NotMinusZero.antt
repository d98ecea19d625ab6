-- When a sum or a product of two values of binary64 is not -0, and the sign of each operation.
use Rattle.std.proofs.Common.{◌≡◌, ℕ, zero, suc, ◌+◌, ◌-◌, ◌*◌, ◌^◌, ◌<◌, ◌≤◌, Bool, true, false, cond, not, ◌&&◌, T, ltb, leb, ◌⊎◌, ℤ, negsuc, sym}
use Rattle.std.proofs.Common.{refl, ap, ◌∙◌, subst, ap₂, inl, inr, le_trans, le_of_eq, lt_of_lt_of_le, lt_irrefl, zero-lt-suc, mul_assoc, mul_comm}
use Rattle.std.proofs.Common.{add-mul, mul-pos, one-mul, zero-mul, mul_right_comm, arith, ltb→lt, leb→le, pow_pos}
use native.Mathlib.Nat.{mul-sub}
use lib.Ieee.{Float, nan, inf, fin, binary64, unlike, up, down, round, neg, sum, add, mul}
use lib.Ieee.Fits.{up_pos, down_pos, and_l, and_r}
use lib.Ieee.Scale.{finite}
use lib.Ieee.Positive.{num, den}
use Rattle.float.specs.Number.{negative}
use Rattle.float.specs.Laws.Tests.{round_negative}
use Rattle.float.specs.Laws.Le.{plain, round_plain}
use Rattle.float.specs.Laws.Within.{Beyond, held, shift, round_beyond}

-- ---- not -0
abbrev pub nz : Float → Bool
nz nan = true
nz (inf s) = true
nz (fin true zero e) = false
nz (fin true (suc m) e) = true
nz (fin false m e) = true

plain_nz : (x : Float) → T (plain x) → T (nz x)
plain_nz nan p = absurd p
plain_nz (inf s) p = tt
plain_nz (fin true m e) p = absurd p
plain_nz (fin false m e) p = tt

-- the smallest value above zero
abbrev tiny : Float
tiny = fin false 1 (negsuc 1073)

beyond_nz : {B : Float} (x : Float) → 0 < num B → (T (finite x) → Beyond B x) → T (nz x)
beyond_nz nan p h = tt
beyond_nz (inf s) p h = tt
beyond_nz {B} (fin true zero e) p h = absurd
    (lt_irrefl 0 (lt_of_lt_of_le (mul-pos p (down_pos e)) (le_trans (h tt).size
    (le_of_eq (ap (λ (z : ℕ). z * den B) (zero-mul (up e)) ∙ zero-mul (den B))))))
beyond_nz (fin true (suc m) e) p h = tt
beyond_nz (fin false m e) p h = tt

-- a fraction of a unit at least does not round to zero
round_nz : (s : Bool) (v c : ℕ) → 0 < c → (s ≡ false) ⊎ (c ≤ v * 2 ^ 1074) → T (nz (round binary64 s v c))
round_nz s v c C (inl e) = subst (λ (z : Bool). T (nz (round binary64 z v c))) (sym e) (plain_nz (round binary64 false v c) (round_plain binary64 v c))
round_nz s v c C (inr h) = beyond_nz {B = tiny} (round binary64 s v c) (zero-lt-suc 0)
    (λ r. round_beyond binary64 s v c tiny C tt r (le_trans (le_of_eq (one-mul c)) h))

-- w whole units, w not 0
units_ge : (v w c u : ℕ) → 0 < c → 0 < u → 0 < v → v * u ≡ w * c → c ≤ v * u
units_ge v w c u C U h e = go w e
  where
    go : (w : ℕ) → v * u ≡ w * c → c ≤ v * u
    go zero k = absurd (lt_irrefl 0 (lt_of_lt_of_le (mul-pos h U) (le_of_eq (k ∙ zero-mul c))))
    go (suc w) k = le_trans (le_trans (native.Mathlib.Nat.le-add_left c (w * c)) (le_of_eq (sym (native.Mathlib.Nat.suc-mul w c)))) (le_of_eq (sym k))

minus_mul : (a b k : ℕ) → (a - b) * k ≡ a * k - b * k
minus_mul a b k = mul_comm (a - b) k ∙ mul-sub k a b ∙ ap₂ (λ (x y : ℕ). x - y) (mul_comm k a) (mul_comm k b)

-- a sum of two whole numbers of units, one of them not -0
module _ (a b c wa wb : ℕ) (C : 0 < c) (ea : a * 2 ^ 1074 ≡ wa * c) (eb : b * 2 ^ 1074 ≡ wb * c) where
  plus_ge : 0 < a + b → c ≤ (a + b) * 2 ^ 1074
  plus_ge h = units_ge (a + b) (wa + wb) c (2 ^ 1074) C (pow_pos 1074) h (add-mul a b (2 ^ 1074) ∙ ap₂ (λ (x y : ℕ). x + y) ea eb ∙ sym (add-mul wa wb c))

  up_ge : a < b → c ≤ (b - a) * 2 ^ 1074
  up_ge h = units_ge (b - a) (wb - wa) c (2 ^ 1074) C (pow_pos 1074) (omega arith)
      (minus_mul b a (2 ^ 1074) ∙ ap₂ (λ (x y : ℕ). x - y) eb ea ∙ sym (minus_mul wb wa c))

  down_ge : b < a → c ≤ (a - b) * 2 ^ 1074
  down_ge h = units_ge (a - b) (wa - wb) c (2 ^ 1074) C (pow_pos 1074) (omega arith)
      (minus_mul a b (2 ^ 1074) ∙ ap₂ (λ (x y : ℕ). x - y) ea eb ∙ sym (minus_mul wa wb c))

  pub sum_nz : (s t : Bool) → (s ≡ false) ⊎ (t ≡ false) ⊎ (0 < a + b) → T (nz (sum binary64 s a t b c))
  unfolding sum
  sum_nz false false h = round_nz false (a + b) c C (inl refl)
  sum_nz true true (inl e) = absurd (mathlib.Core.Bool.true≢false e)
  sum_nz true true (inr (inl e)) = absurd (mathlib.Core.Bool.true≢false e)
  sum_nz true true (inr (inr h)) = round_nz true (a + b) c C (inr (plus_ge h))
  sum_nz false true h = go (ltb a b) (ltb→lt a b)
    where
      go : (x : Bool) → (T x → a < b) → T (nz (cond x (round binary64 true (b - a) c) (round binary64 false (a - b) c)))
      go true k = round_nz true (b - a) c C (inr (up_ge (k tt)))
      go false k = round_nz false (a - b) c C (inl refl)
  sum_nz true false h = go (ltb a b) (ltb b a) (ltb→lt b a)
    where
      go : (x y : Bool) → (T y → b < a) → T (nz (cond x (round binary64 false (b - a) c) (round binary64 y (a - b) c)))
      go true y k = round_nz false (b - a) c C (inl refl)
      go false true k = round_nz true (a - b) c C (inr (down_ge (k tt)))
      go false false k = round_nz false (a - b) c C (inl refl)

-- ---- a sum of two values of the format
-- a value is a whole number of units
pub whole_units : (x : Float) → T (held binary64 x) → (w : ℕ) × (num x * 2 ^ 1074 ≡ w * den x)
whole_units nan t = absurd t
whole_units (inf s) t = absurd t
whole_units (fin s m e) t =
    let sh = shift e 1074 (leb→le (down e) (2 ^ 1074) (and_l (leb (down e) (2 ^ 1074)) (ltb (m * up e) (2 ^ 1024 * down e))
    (and_r (ltb m (2 ^ 53)) (leb (down e) (2 ^ 1074) && ltb (m * up e) (2 ^ 1024 * down e)) t))) in
    (m * 2 ^ sh.0, mul_assoc m (up e) (2 ^ 1074) ∙ ap (λ (z : ℕ). m * z) sh.1 ∙ sym (mul_assoc m (2 ^ sh.0) (down e)))

pub over_l : (n d u w k : ℕ) → n * u ≡ w * d → n * k * u ≡ w * (d * k)
over_l n d u w k e = mul_right_comm n k u ∙ ap (λ (z : ℕ). z * k) e ∙ mul_assoc w d k

pub over_r : (n d u w k : ℕ) → n * u ≡ w * d → n * k * u ≡ w * (k * d)
over_r n d u w k e = over_l n d u w k e ∙ ap (λ (z : ℕ). w * z) (mul_comm d k)

-- x is not -0: it has no minus sign, or it is not 0
not_minus : (s : Bool) (m : ℕ) (e : ℤ) (d : ℕ) → 0 < d → T (nz (fin s m e)) → (s ≡ false) ⊎ (0 < m * up e * d)
not_minus false m e d D t = inl refl
not_minus true zero e d D t = absurd t
not_minus true (suc m) e d D t = inr (mul-pos (mul-pos (zero-lt-suc m) (up_pos e)) D)

pub add_nz : (x y : Float) → T (held binary64 x) → T (held binary64 y) → T (nz x) ⊎ T (nz y) → T (nz (add binary64 x y))
unfolding add
add_nz nan y p q h = absurd p
add_nz (inf s) y p q h = absurd p
add_nz (fin s m e) nan p q h = absurd q
add_nz (fin s m e) (inf t) p q h = absurd q
add_nz (fin s m e) (fin t n d) p q h =
    let wx = whole_units (fin s m e) p in
    let wy = whole_units (fin t n d) q in
    sum_nz (m * up e * down d) (n * up d * down e) (down e * down d) wx.0 wy.0 (mul-pos (down_pos e) (down_pos d))
    (over_l (m * up e) (down e) (2 ^ 1074) wx.0 (down d) wx.1) (over_r (n * up d) (down d) (2 ^ 1074) wy.0 (down e) wy.1) s t (go h)
  where
    left : (a b : ℕ) → 0 < a → 0 < a + b
    left a b h = omega arith

    right : (a b : ℕ) → 0 < b → 0 < a + b
    right a b h = omega arith

    l : (s ≡ false) ⊎ (0 < m * up e * down d) → (s ≡ false) ⊎ (t ≡ false) ⊎ (0 < m * up e * down d + n * up d * down e)
    l (inl e) = inl e
    l (inr k) = inr (inr (left (m * up e * down d) (n * up d * down e) k))

    r : (t ≡ false) ⊎ (0 < n * up d * down e) → (s ≡ false) ⊎ (t ≡ false) ⊎ (0 < m * up e * down d + n * up d * down e)
    r (inl e) = inr (inl e)
    r (inr k) = inr (inr (right (m * up e * down d) (n * up d * down e) k))

    go : T (nz (fin s m e)) ⊎ T (nz (fin t n d)) → (s ≡ false) ⊎ (t ≡ false) ⊎ (0 < m * up e * down d + n * up d * down e)
    go (inl k) = l (not_minus s m e (down d) (down_pos d) k)
    go (inr k) = r (not_minus t n d (down e) (down_pos e) k)

-- ---- the sign
pub mul_sgn : (x y : Float) → T (finite x) → T (finite y) → negative (mul binary64 x y) ≡ unlike (negative x) (negative y)
unfolding mul
mul_sgn nan y p q = absurd p
mul_sgn (inf s) y p q = absurd p
mul_sgn (fin s m e) nan p q = absurd q
mul_sgn (fin s m e) (inf t) p q = absurd q
mul_sgn (fin s m e) (fin t n d) p q = round_negative binary64 (unlike s t) (m * up e * (n * up d)) (down e * down d)

pub neg_sgn : (x : Float) → T (finite x) → negative (neg x) ≡ not (negative x)
unfolding neg
neg_sgn nan p = absurd p
neg_sgn (inf s) p = absurd p
neg_sgn (fin s m e) p = refl

sgn_nz : (x : Float) → negative x ≡ false → T (nz x)
sgn_nz nan h = tt
sgn_nz (inf s) h = tt
sgn_nz (fin true m e) h = absurd (mathlib.Core.Bool.true≢false h)
sgn_nz (fin false m e) h = tt

-- of two values with unlike signs one is not -0
pub one_nz : (x y : Float) (s : Bool) → negative x ≡ s → negative y ≡ not s → T (nz x) ⊎ T (nz y)
one_nz x y false h k = inl (sgn_nz x h)
one_nz x y true h k = inr (sgn_nz y k)
