-- Bounds through the square root: what has a square of at most v is at most the rounded root of v, and what has a square of at least v is at least that root.
-- With it the parts of a normalized quaternion are within 2.
use Rattle.std.specs.Prelude.{◌≡◌, ℕ, zero, suc, ◌+◌, ◌-◌, ◌*◌, ◌/◌, ◌%◌, ◌^◌, ◌<◌, ◌≤◌, Bool, true, false, cond, not, ◌&&◌, T, ltb, leb, ℤ, pos}
use Rattle.std.specs.Prelude.{nat_le, nat_lt, refl, Float}
use Rattle.std.proofs.Common.{sym, ap, ap₂, ◌∙◌, subst, inl, inr, le_trans, le_of_eq, le_of_lt, lt_of_lt_of_le, lt_of_le_of_lt, lt_of_not-le}
use Rattle.std.proofs.Common.{not-le_of_lt, le_of_suc-le-suc, lt_irrefl, eq-or-lt_of_le, zero-lt-suc, mul-pos, mul-one, one-mul, zero-mul, zero-add}
use Rattle.std.proofs.Common.{mul_assoc, mul_comm, mul_left_comm, mul_right_comm, mul-le-mul, mul-le-mul_right, mul-le-mul_left}
use Rattle.std.proofs.Common.{mul-lt-mul_of_pos_right, le_of_mul-le-mul_right, le-div_iff_mul-le, div-lt_iff_lt-mul, div-mul-le_self}
use Rattle.std.proofs.Common.{le-mul_of_pos_right, arith, leb→le, ltb→lt, eqb→eq, lit≤, lit<, pow-add, pow_pos, pow_mono}
use Prim.Native.Nat.{zero-le, compare, Ordering}
use Rattle.std.proofs.Math.Nat.{mul-mul-mul_comm, div-div-eq-div-mul, pow-succ'}
use Rattle.std.proofs.Math.Dec.{is_le, compare_is_eq, nleb→lt}
use Rattle.std.specs.Float.{nan, inf, fin, Format, binary64}
use Rattle.std.specs.Float.Ieee.{prec, low, up, down, size, nearest, odd, units, round, fits}
use Rattle.std.specs.Float.Ieee.Digits.{size-lt, size_reaches}
use Rattle.std.specs.Float.Ieee.Fits.{down_pos, up_pos, and_l, and_r, two, two-le_pos, nearest-le}
use Rattle.std.specs.Float.Ieee.Exact.{HasValue, odd_sign, units_val}
use Rattle.std.specs.Float.Ieee.Nearest.{nearest-ge}
use Rattle.std.specs.Float.Ieee.Scale.{finite, grid, overflow, round_val, round_under}
use Rattle.std.specs.Float.Ieee.Positive.{num, den, den_pos, through}
use Rattle.float.specs.Number.{◌⊗◌, ◌⊘◌, zero_float, one_float}
use Rattle.float.specs.Sqrt.{root, root_of, sqrt}
use Rattle.float.specs.Promises.Order.{Le}
use Rattle.float.specs.Laws.Le.{plain, units_plain}
use Rattle.float.specs.Promises.Order.{Within}
use Rattle.float.specs.Laws.Within.{Beyond, Held, held, held_finite, held_units, fits→held}
use Rattle.float.specs.Laws.Within.{value_cross, value_finite, pos_of, div_exact, Le→beyond, beyond→Le}
use Rattle.float.specs.Laws.Interval.{Le-trans}
use Rattle.float.specs.Laws.Units.{Is, plus_Is, Le-Is}
use Rattle.float.specs.Laws.Grow.{square_is, square_plus, minus_zero}

-- ---- `root` is the whole part of the root
pub root_is : (k n : ℕ) → n < 2 ^ k * 2 ^ k → (root k n * root k n ≤ n) × (n < suc (root k n) * suc (root k n))
unfolding root
root_is zero n h = (omega arith, omega arith)
root_is (suc k) n h = go (nat_le (suc (2 * r) * suc (2 * r)) n) (leb→le (suc (2 * r) * suc (2 * r)) n) (nleb→lt (suc (2 * r) * suc (2 * r)) n)
    (root_is k (n / 4) ((div-lt_iff_lt-mul (zero-lt-suc 3)).1 (lt_of_lt_of_le h (le_of_eq four))))
  where
    r : ℕ
    r = root k (n / 4)

    four : 2 ^ suc k * 2 ^ suc k ≡ 2 ^ k * 2 ^ k * 4
    four = (λ i. pow-succ' 2 k i * pow-succ' 2 k i) ∙ shape (2 ^ k)
      where
        shape : (p : ℕ) → 2 * p * (2 * p) ≡ p * p * 4
        shape p = omega arith

    go : (t : Bool) → (T t → suc (2 * r) * suc (2 * r) ≤ n) → (T (not t) → n < suc (2 * r) * suc (2 * r)) → (r * r ≤ n / 4) × (n / 4 < suc r * suc r)
        → (cond t (suc (2 * r)) (2 * r) * cond t (suc (2 * r)) (2 * r) ≤ n) × (n < suc (cond t (suc (2 * r)) (2 * r)) * suc (cond t (suc (2 * r)) (2 * r)))
    go true a b f = (a tt, let x : n / 4 < suc r * suc r = f.1 in omega arith)
    go false a b f = (let x : r * r ≤ n / 4 = f.0 in omega arith, b tt)

abbrev whole : ℕ → ℕ
whole v = root (size v) v

whole_is : (v : ℕ) → (whole v * whole v ≤ v) × (v < suc (whole v) * suc (whole v))
whole_is v = root_is (size v) v (lt_of_lt_of_le (size-lt v) (le-mul_of_pos_right (2 ^ size v) (pow_pos (size v))))

-- b * b ≤ v gives b ≤ the whole part of the root, and v ≤ b * b the other way round
whole_ge : (v b : ℕ) → b * b ≤ v → b ≤ whole v
whole_ge v b h = le_of_suc-le-suc (lt_of_not-le (λ (g : suc (whole v) ≤ b). not-le_of_lt (whole_is v).1 (le_trans (mul-le-mul g g) h)))

whole_le : (v b : ℕ) → v ≤ b * b → whole v ≤ b
whole_le v b h = le_of_suc-le-suc (lt_of_not-le (λ (g : suc b ≤ whole v). never b (le_trans (mul-le-mul g g) (le_trans (whole_is v).0 h))))
  where
    never : (b : ℕ) → suc b * suc b ≤ b * b → ⊥
    never b l = omega arith

-- ---- rounding does not cross a number b of prec digits times a power of two: of w, k digits are dropped
split_up : (j k : ℕ) → k ≤ j → j ≡ j - k + k
split_up j k h = omega arith

in_use : (z p : ℕ) → 0 < p → 0 < z - p → p - 1 + (z - p) < z
in_use z p P h = omega arith

climb : (p j k : ℕ) → 0 < p → j < k → p + j ≤ p - 1 + k
climb p j k P h = omega arith

multiple : (β j k : ℕ) → k ≤ j → β * 2 ^ j ≡ β * 2 ^ (j - k) * 2 ^ k
multiple β j k h = ap (λ (z : ℕ). β * z) (ap (λ (z : ℕ). 2 ^ z) (split_up j k h) ∙ pow-add 2 (j - k) k) ∙ sym (mul_assoc β (2 ^ (j - k)) (2 ^ k))

-- for j below k, b = β * 2 ^ j lies below every w that has k digits dropped
below_all : (p w β j : ℕ) → 0 < p → β < 2 ^ p → j < size w - p → (β * 2 ^ j < 2 ^ (p - 1 + (size w - p))) × (2 ^ (p - 1 + (size w - p)) ≤ w)
below_all p w β j P s l = (
  lt_of_lt_of_le (mul-lt-mul_of_pos_right s (pow_pos j)) (le_trans (le_of_eq (sym (pow-add 2 p j))) (pow_mono (climb p j (size w - p) P l))),
  size_reaches w (p - 1 + (size w - p)) (in_use (size w) p P (omega arith)),
)

-- b ≤ w: what is kept of w is no less
kept_reach : (p w β j : ℕ) → 0 < p → β < 2 ^ p → β * 2 ^ j ≤ w → β * 2 ^ j ≤ w / 2 ^ (size w - p) * 2 ^ (size w - p)
kept_reach p w β j P s h = go (nat_le (size w - p) j) (leb→le (size w - p) j) (nleb→lt (size w - p) j)
  where
    go : (t : Bool) → (T t → size w - p ≤ j) → (T (not t) → j < size w - p) → β * 2 ^ j ≤ w / 2 ^ (size w - p) * 2 ^ (size w - p)
    go true a b =
        let k = size w - p in
        let e = multiple β j k (a tt) in
        le_trans (le_of_eq e) (mul-le-mul_right (2 ^ k) ((le-div_iff_mul-le (pow_pos k)).1 (le_trans (le_of_eq (sym e)) h)))
    go false a b =
        let k = size w - p in
        let l = below_all p w β j P s (b tt) in
        let q : 2 ^ (p - 1) ≤ w / 2 ^ k = (le-div_iff_mul-le (pow_pos k)).1 (le_trans (le_of_eq (sym (pow-add 2 (p - 1) k))) l.1) in
        le_trans (le_of_lt l.0) (le_trans (le_of_eq (pow-add 2 (p - 1) k)) (mul-le-mul_right (2 ^ k) q))

-- v ≤ b * b: the rounded root of v is no more, since √v is not above the middle of b and the next
abbrev middle : ℕ → ℕ → ℕ
middle q k = (2 * q + 1) * 2 ^ k * ((2 * q + 1) * 2 ^ k)

abbrev kept : ℕ → ℕ → ℕ → ℕ
kept v q k = nearest q (compare (4 * v) (middle q k))

stays : (a b q : ℕ) → a < b → nearest q (compare a b) ≡ q
stays a b q h = go (compare a b) (nleb→lt a b) (eqb→eq a b)
  where
    not_more : b < a → ⊥
    not_more k = omega arith

    not_same : a ≡ b → ⊥
    not_same k = omega arith

    go : (o : Ordering) → (T (not (is_le o)) → b < a) → (T (compare_is_eq o) → a ≡ b) → nearest q o ≡ q
    go Ordering.lt k e = refl
    go Ordering.eq k e = absurd (not_same (e tt))
    go Ordering.gt k e = absurd (not_more (k tt))

kept_under : (p v w β j : ℕ) → 0 < p → β < 2 ^ p → w ≤ β * 2 ^ j → v ≤ β * 2 ^ j * (β * 2 ^ j)
    → kept v (w / 2 ^ (size w - p)) (size w - p) * 2 ^ (size w - p) ≤ β * 2 ^ j
kept_under p v w β j P s h g = go (nat_le (size w - p) j) (leb→le (size w - p) j) (nleb→lt (size w - p) j)
  where
    low_half : (v q u : ℕ) → 0 < u → v ≤ q * u * (q * u) → 4 * v < (2 * q + 1) * u * ((2 * q + 1) * u)
    low_half v q u U l = let z : 0 < u * u = mul-pos U U in omega arith

    at : (q c k : ℕ) → q ≤ c → v ≤ c * 2 ^ k * (c * 2 ^ k) → kept v q k ≤ c
    at q c k l i = elim (eq-or-lt_of_le l) [
      | inl e ↦ le_trans (le_of_eq (stays (4 * v) (middle q k) q
          (low_half v q (2 ^ k) (pow_pos k) (subst (λ (z : ℕ). v ≤ z * 2 ^ k * (z * 2 ^ k)) (sym e) i)))) l
      | inr m ↦ le_trans (nearest-le q (compare (4 * v) (middle q k))) m
    ]

    go : (t : Bool) → (T t → size w - p ≤ j) → (T (not t) → j < size w - p) → kept v (w / 2 ^ (size w - p)) (size w - p) * 2 ^ (size w - p) ≤ β * 2 ^ j
    go true a b =
        let k = size w - p in
        let c = β * 2 ^ (j - k) in
        let e : β * 2 ^ j ≡ c * 2 ^ k = multiple β j k (a tt) in
        let l : w / 2 ^ k ≤ c = le_of_mul-le-mul_right (le_trans (div-mul-le_self w (2 ^ k)) (le_trans h (le_of_eq e))) (pow_pos k) in
        le_trans (mul-le-mul_right (2 ^ k) (at (w / 2 ^ k) c k l (subst (λ (z : ℕ). v ≤ z * z) e g))) (le_of_eq (sym e))
    go false a b = let l = below_all p w β j P s (b tt) in absurd (lt_irrefl w (lt_of_le_of_lt h (lt_of_lt_of_le l.0 l.1)))

-- ---- the rounded root of v units: b units at most where v ≤ b * b
root_of_under : (f : Format) (v : ℕ) (B : Float) (h : Held f B) → v ≤ h.β * 2 ^ h.j * (h.β * 2 ^ h.j) → Within B (root_of f v)
unfolding root_of
root_of_under f v B h l =
    let w = whole v in
    let k = size w - prec f in
    let q = kept v (w / 2 ^ k) k in
    let R = units f false q k in
    let b = h.β * 2 ^ h.j in
    let i : q * 2 ^ k ≤ b = kept_under (prec f) v w h.β h.j (two-le_pos (prec f) (two f)) h.short (whole_le v b l) l in
    let u : HasValue R false (q * 2 ^ k) (2 ^ low f) = units_val f false q k (lt_of_le_of_lt i h.top) in
    record {
      real = value_finite R false (q * 2 ^ k) (2 ^ low f) u;
      size = through (num R) (q * 2 ^ k) (num B) (den R) (2 ^ low f) (den B) (pow_pos (low f))
          (le_of_eq (value_cross R false (q * 2 ^ k) (2 ^ low f) u)) (le_trans (mul-le-mul_right (den B) i) (le_of_eq (sym h.is)));
    }

-- and b units at least where b * b ≤ v
pub record AtLeast (f : Format) (x : Float) (b : ℕ) : Type 0 where
  pub g : ℕ
  pub is : num x * 2 ^ low f ≡ g * den x
  pub ge : b ≤ g

units_at : (f : Format) (b q k : ℕ) → T (finite (units f false q k)) → b ≤ q * 2 ^ k → AtLeast f (units f false q k) b
unfolding units
units_at f b q k r l = go (nat_lt (q * 2 ^ k) (overflow f)) r
  where
    go : (t : Bool) → T (finite (cond t (odd (suc (prec f)) false q k (low f)) (inf false)))
        → AtLeast f (cond t (odd (suc (prec f)) false q k (low f)) (inf false)) b
    go true r = record {
      g = q * 2 ^ k;
      is = value_cross (odd (suc (prec f)) false q k (low f)) false (q * 2 ^ k) (2 ^ low f)
          (odd_sign (suc (prec f)) false q k (low f));
      ge = l;
    }
    go false r = absurd r

root_of_at : (f : Format) (β j v : ℕ) → β < 2 ^ prec f → β * 2 ^ j * (β * 2 ^ j) ≤ v → T (finite (root_of f v)) → AtLeast f (root_of f v) (β * 2 ^ j)
unfolding root_of
root_of_at f β j v s h r =
    let w = whole v in
    let k = size w - prec f in
    let q = w / 2 ^ k in
    units_at f (β * 2 ^ j) (kept v q k) k r
    (le_trans (kept_reach (prec f) w β j (two-le_pos (prec f) (two f)) s (whole_ge v (β * 2 ^ j) h))
    (mul-le-mul_right (2 ^ k) (nearest-ge q (compare (4 * v) (middle q k)))))

-- ---- `sqrt` of n / d, in units √(n * u * u / d): b / u beside it, as squares
square_units : (n d w u : ℕ) → n * u ≡ w * d → n * n * u * u ≡ w * w * (d * d)
square_units n d w u e = rearranged ∙ ap₂ (λ (x y : ℕ). x * y) e e ∙ mul-mul-mul_comm w d w d
  where
    rearranged : n * n * u * u ≡ n * u * (n * u)
    rearranged = simp (mul_assoc, mul_left_comm)

-- x / y = b / u, as squares over n / d
module _ (n d x y b u : ℕ) (Y : 0 < y) (e : x * u ≡ b * y) where
  left : n * u * u * (y * y) ≡ n * (y * y) * (u * u)
  left = simp (mul_assoc, mul_comm, mul_left_comm)

  right : x * x * d * (u * u) ≡ b * b * d * (y * y)
  right = rearranged ∙ ap (λ (z : ℕ). z * d) (square_units x y b u e) ∙ mul_right_comm (b * b) (y * y) d
    where
      rearranged : x * x * d * (u * u) ≡ x * x * u * u * d
      rearranged = simp (mul_assoc, mul_comm, mul_left_comm)

  arg_le : n * (y * y) ≤ x * x * d → n * u * u ≤ b * b * d
  arg_le h = le_of_mul-le-mul_right (le_trans (le_of_eq left) (le_trans (mul-le-mul_right (u * u) h) (le_of_eq right))) (mul-pos Y Y)

  arg_ge : x * x * d ≤ n * (y * y) → b * b * d ≤ n * u * u
  arg_ge h = le_of_mul-le-mul_right (le_trans (le_of_eq (sym right)) (le_trans (mul-le-mul_right (u * u) h) (le_of_eq (sym left)))) (mul-pos Y Y)

-- what is not negative has no minus sign, but for a zero
no_minus : (m : ℕ) (e : ℤ) → Le zero_float (fin true (suc m) e) → ⊥
no_minus m e h = lt_irrefl 0 (lt_of_lt_of_le (mul-pos (zero-lt-suc m) (up_pos e)) (le_of_eq (minus_zero (suc m) e h)))

-- 0 ≤ v ≤ X ≤ B-as-B gives √v ≤ B
abbrev pub root_test : Float → Float → Bool
root_test X B = held binary64 B && nat_le (num X * (den B * den B)) (num B * num B * den X)

pub sqrt_within : (B : Float) {X v : Float} → T (root_test X B) → Le zero_float v → Within X v → Within B (sqrt binary64 v)
unfolding sqrt
sqrt_within B {v = nan} t p h = absurd h.real
sqrt_within B {v = inf s} t p h = absurd h.real
sqrt_within B {v = fin s zero e} t p h = record {
  real = tt;
  size = le_trans
      (le_of_eq (ap (λ (z : ℕ). z * den B) (zero-mul (up e)) ∙ zero-mul (den B))) zero-le;
}
sqrt_within B {v = fin true (suc m) e} t p h = absurd (no_minus m e p)
sqrt_within B {X} {v = fin false (suc m) e} t p h =
    let l = leb (num X * (den B * den B)) (num B * num B * den X) in
    let b = held_units binary64 B (and_l (held binary64 B) l t) in
    let u = b.β * 2 ^ b.j in
    let n = suc m * up e in
    let c : n * (den B * den B) ≤ num B * num B * down e = through n (num X) (num B * num B) (down e) (den X) (den B * den B) (den_pos X) h.size
    (leb→le (num X * (den B * den B)) (num B * num B * den X) (and_r (held binary64 B) l t)) in
    root_of_under binary64 (n * 2 ^ 1074 * 2 ^ 1074 / down e) B b
    (le_of_mul-le-mul_right (le_trans (div-mul-le_self (n * 2 ^ 1074 * 2 ^ 1074) (down e))
    (arg_le n (down e) (num B) (den B) u (2 ^ 1074) (den_pos B) b.is c)) (down_pos e))

-- so the root of a value of the format is finite
top_within : (v : Float) → T (held binary64 v) → Within (fin false 1 (pos 1024)) v
top_within nan t = absurd t
top_within (inf s) t = absurd t
top_within (fin s m e) t =
    let b = ltb m (2 ^ 53) in
    let c = leb (down e) (2 ^ 1074) in
    let d = ltb (m * up e) (2 ^ 1024 * down e) in
    record { real = tt; size = le_trans (le_of_eq (mul-one (m * up e))) (le_of_lt (ltb→lt (m * up e) (2 ^ 1024 * down e) (and_r c d (and_r b (c && d) t)))) }

pub sqrt_finite : (v : Float) → T (held binary64 v) → Le zero_float v → T (finite (sqrt binary64 v))
sqrt_finite v t p = (sqrt_within (fin false 1 (pos 512)) tt p (top_within v t)).real

-- B-as-B ≤ L ≤ v gives B ≤ √v
abbrev pub square_test : Float → Float → Bool
square_test L B = held binary64 B && (nat_lt 0 (num L) && nat_le (num B * num B * den L) (num L * (den B * den B)))

-- in units, for an n / d above 0
sqrt_at : (v : Float) (β j : ℕ) → Le zero_float v → 0 < num v → β < 2 ^ 53 → β * 2 ^ j * (β * 2 ^ j) * den v ≤ num v * 2 ^ 1074 * 2 ^ 1074
    → T (finite (sqrt binary64 v)) → AtLeast binary64 (sqrt binary64 v) (β * 2 ^ j)
unfolding sqrt
sqrt_at nan β j p z s h r = absurd p.second
sqrt_at (inf t) β j p z s h r = absurd p.second
sqrt_at (fin t zero e) β j p z s h r = absurd (lt_irrefl 0 (lt_of_lt_of_le z (le_of_eq (zero-mul (up e)))))
sqrt_at (fin true (suc m) e) β j p z s h r = absurd (no_minus m e p)
sqrt_at (fin false (suc m) e) β j p z s h r = root_of_at binary64 β j (suc m * up e * 2 ^ 1074 * 2 ^ 1074 / down e) s ((le-div_iff_mul-le (down_pos e)).1 h) r

pub sqrt_beyond : (B : Float) {L v : Float} → T (square_test L B) → T (held binary64 v) → Le zero_float v → Beyond L v → Beyond B (sqrt binary64 v)
sqrt_beyond B {L} {v} t hv p h =
    let k = ltb 0 (num L) in
    let l = leb (num B * num B * den L) (num L * (den B * den B)) in
    let tl = and_r (held binary64 B) (k && l) t in
    let b = held_units binary64 B (and_l (held binary64 B) (k && l) t) in
    let u = b.β * 2 ^ b.j in
    let c : num B * num B * den v ≤ num v * (den B * den B) = through (num B * num B) (num L) (num v) (den B * den B) (den L) (den v) (den_pos L)
    (leb→le (num B * num B * den L) (num L * (den B * den B)) (and_r k l tl)) h.size in
    let r = sqrt_finite v hv p in
    let R = sqrt binary64 v in
    let a = sqrt_at v b.β b.j p (pos_of (num L) (den L) (num v) (den v) (ltb→lt 0 (num L) (and_l k l tl)) (den_pos v) h.size) b.short
    (arg_ge (num v) (den v) (num B) (den B) u (2 ^ 1074) (den_pos B) b.is c) r in
    record {
      real = r;
      size = through (num B) a.g (num R) (den B) (2 ^ 1074) (den R) (pow_pos 1074) (le_trans (le_of_eq b.is) (mul-le-mul_right (den B) a.ge))
          (le_of_eq (sym a.is));
    }

-- ---- the root of what has no minus sign has none
root_of_plain : (f : Format) (v : ℕ) → T (plain (root_of f v))
unfolding root_of
root_of_plain f v = let k = size (whole v) - prec f in units_plain f (kept v (whole v / 2 ^ k) k) k

sqrt_plain : (v : Float) → T (plain v) → T (plain (sqrt binary64 v))
unfolding sqrt
sqrt_plain nan p = absurd p
sqrt_plain (inf true) p = absurd p
sqrt_plain (inf false) p = tt
sqrt_plain (fin true m e) p = absurd p
sqrt_plain (fin false zero e) p = tt
sqrt_plain (fin false (suc m) e) p = root_of_plain binary64 (suc m * up e * 2 ^ 1074 * 2 ^ 1074 / down e)

plus_plain : (v : Float) → Le zero_float v → 0 < num v → T (plain v)
plus_plain nan p z = absurd p.second
plus_plain (inf s) p z = absurd p.second
plus_plain (fin true m e) p z = absurd (lt_irrefl 0 (lt_of_lt_of_le z (le_of_eq (minus_zero m e p))))
plus_plain (fin false m e) p z = tt

-- 1 ≤ v gives 1 ≤ √v
pub sqrt_ge : (v : Float) → T (fits binary64 v) → Le one_float v → Le one_float (sqrt binary64 v)
sqrt_ge v t h =
    let p : Le zero_float v = Le-trans (record { first = tt; second = tt; cross = lit≤ tt }) h in
    let b = Le→beyond tt h in
    beyond→Le tt tt (sqrt_plain v (plus_plain v p (pos_of 1 1 (num v) (den v) (zero-lt-suc 0) (den_pos v) b.size)))
    (sqrt_beyond one_float tt (fits→held binary64 v t h.second) p b)

-- ---- normalizing: x over the root of a sum of squares that is no less than x's own rounded square
-- a rounded fraction of 2 ^ t units at least is 2 ^ t units at least
grid_ge : (f : Format) (a c t : ℕ) → 0 < c → 2 ^ t * c ≤ a * 2 ^ low f → 2 ^ t ≤ grid f a c
grid_ge f a c t C h =
    let n = a * 2 ^ low f in
    let w = n / c in
    let k = size w - prec f in
    let u = c * 2 ^ k in
    let one : 1 * 2 ^ t ≡ 2 ^ t = one-mul (2 ^ t) in
    let base : 2 ^ t ≤ w = (le-div_iff_mul-le C).1 h in
    let r : 1 * 2 ^ t ≤ w / 2 ^ k * 2 ^ k = kept_reach (prec f) w 1 t (two-le_pos (prec f) (two f))
    (pow_mono {i = 1} {j = prec f} (two-le_pos (prec f) (two f))) (le_trans (le_of_eq one) base) in
    le_trans (le_of_eq (sym one))
    (le_trans r (mul-le-mul_right (2 ^ k) (le_trans (le_of_eq (div-div-eq-div-mul n c (2 ^ k))) (nearest-ge (n / u) (compare (n % u * 2) u)))))

-- a value with no minus sign, in units
plain_is : (f : Format) (x : Float) (t : ℕ) → T (finite x) → T (plain x) → num x * 2 ^ low f ≡ t * den x → Is f x t 0 0
plain_is f nan t p q e = absurd p
plain_is f (inf s) t p q e = absurd p
plain_is f (fin true m g) t p q e = absurd q
plain_is f (fin false m g) t p q e =
    let o : 0 * 1 * down g ≡ 0 = zero-mul (down g) in
    let w : t * 1 * down g ≡ t * down g = ap (λ (z : ℕ). z * down g) (mul-one t) in
    record { real = tt; value = omega arith }

-- x is w units, and 2 ^ b ≤ w: with 2 b = 1074 + t the rounded square is 2 ^ t units at least
square_ge : (x : Float) (w b t : ℕ) → num x * 2 ^ 1074 ≡ w * den x → 2 ^ b ≤ w → b + b ≡ t + 1074 → 2 ^ t ≤ grid binary64 (num x * num x) (den x * den x)
square_ge x w b t e h k =
    grid_ge binary64 (num x * num x) (den x * den x) t (mul-pos (den_pos x) (den_pos x))
    (le_of_mul-le-mul_right
    (le_trans (le_of_eq (mul_right_comm (2 ^ t) (den x * den x) (2 ^ 1074)
    ∙ ap (λ (z : ℕ). z * (den x * den x)) (sym (pow-add 2 t 1074) ∙ ap (λ (z : ℕ). 2 ^ z) (sym k) ∙ pow-add 2 b b)))
    (le_trans (mul-le-mul_right (den x * den x) (mul-le-mul h h)) (le_of_eq (sym (square_units (num x) (den x) w (2 ^ 1074) e)))))
    (pow_pos 1074))

-- S is s units, and no fewer than the rounded square has
square_below : (x S : Float) (s : ℕ) → T (finite x) → T (plain S) → num S * 2 ^ 1074 ≡ s * den S → Le (x ⊗ x) S
    → grid binary64 (num x * num x) (den x * den x) ≤ s
square_below x S s fx pS es l =
    let g = grid binary64 (num x * num x) (den x * den x) in
    let p = round binary64 false (num x * num x) (den x * den x) in
    let e = square_is x fx in
    let fp : T (finite p) = subst (λ (y : Float). T (finite y)) e l.first in
    let ip : Is binary64 p g 0 0 = plus_Is binary64 p g (2 ^ 1074) g g 0 0 (pow_pos 1074)
    (round_val binary64 (num x * num x) (den x * den x) (round_under binary64 (num x * num x) (den x * den x) fp))
    (ap (λ (y : ℕ). y * 2 ^ 1074) (sym (mul-one g))) (sym (zero-add g)) in
    plain_sum g s (Le-Is binary64 p S g 0 s 0 ip (plain_is binary64 S s l.second pS es) (subst (λ (y : Float). Le y S) e l))
  where
    plain_sum : (a b : ℕ) → a + 0 ≤ b + 0 → a ≤ b
    plain_sum a b h = omega arith

-- x is u units, 2 ^ c ≤ u, and S is s units: the root of S is 2 ^ c units at least. Where the square is less than a unit, S is a unit at least
enough : (x S : Float) (u s c : ℕ) → T (finite x) → T (plain S) → 0 < s → Le (x ⊗ x) S → num x * 2 ^ 1074 ≡ u * den x → num S * 2 ^ 1074 ≡ s * den S
    → (0 < c → 2 ^ c ≤ u) → 2 ^ c * 2 ^ c ≤ s * 2 ^ 1074
enough x S u s c fx pS zS l eu es d = go (nat_le 1074 (c + c)) (leb→le 1074 (c + c)) (nleb→lt 1074 (c + c))
  where
    excess : 1074 ≤ c + c → c + c ≡ c + c - 1074 + 1074
    excess h = omega arith

    digits : 1074 ≤ c + c → 0 < c
    digits h = omega arith

    go : (t : Bool) → (T t → 1074 ≤ c + c) → (T (not t) → c + c < 1074) → 2 ^ c * 2 ^ c ≤ s * 2 ^ 1074
    go true h k =
        let t = c + c - 1074 in
        let q : 2 ^ t ≤ s = le_trans (square_ge x u c t eu (d (digits (h tt))) (excess (h tt))) (square_below x S s fx pS es l) in
        le_trans (le_of_eq (sym (pow-add 2 c c) ∙ ap (λ (y : ℕ). 2 ^ y) (excess (h tt)) ∙ pow-add 2 t 1074)) (mul-le-mul_right (2 ^ 1074) q)
    go false h k =
        le_trans (le_of_eq (sym (pow-add 2 c c))) (le_trans (pow_mono {i = c + c} {j = 1074} (le_of_lt (k tt)))
        (le_trans (le_of_eq (sym (one-mul (2 ^ 1074)))) (mul-le-mul_right (2 ^ 1074) zS)))

-- the quotient: x is w units, the root g units, and w ≤ 2 g
final : (nx dx nl dl u w g : ℕ) → 0 < u → nx * u ≡ w * dx → nl * u ≡ g * dl → w ≤ 2 * g → nx * dl * 1 ≤ 2 * 1 * (nl * dx)
final nx dx nl dl u w g U e h l =
    le_trans (le_of_eq (mul-one (nx * dl)))
    (le_of_mul-le-mul_right
    (le_trans (le_of_eq (mul_right_comm nx dl u ∙ ap (λ (z : ℕ). z * dl) e ∙ mul_assoc w dx dl))
    (le_trans (mul-le-mul_right (dx * dl) l) (le_of_eq (mul-mul-mul_comm 2 g dx dl ∙ ap (λ (z : ℕ). 2 * dx * z) (sym h) ∙ back))))
    U)
  where
    back : 2 * dx * (nl * u) ≡ 2 * 1 * (nl * dx) * u
    back = simp (mul-one, mul_assoc, mul_comm)

-- a number of z digits lies between 2 ^ (z - 1) and twice that
digits_le : (z u : ℕ) → u < 2 ^ z → u ≤ 2 * 2 ^ (z - 1)
digits_le zero u h = let k : u < 1 = h in omega arith
digits_le (suc z) u h = le_trans (le_of_lt h) (le_of_eq (pow-succ' 2 z ∙ ap (λ (y : ℕ). 2 * 2 ^ y) (same z)))
  where
    same : (z : ℕ) → z ≡ suc z - 1
    same z = omega arith

digits_ge : (u : ℕ) → 0 < size u - 1 → 2 ^ (size u - 1) ≤ u
digits_ge u h = size_reaches u (size u - 1) (omega arith)

pub normalized_within : (x S : Float) → T (held binary64 x) → T (held binary64 S) → 0 < num S → Le (x ⊗ x) S
    → Within (fin false 2 (pos 0)) (x ⊘ sqrt binary64 S)
normalized_within x S hx hS zS l =
    let fx = held_finite binary64 x hx in
    let pS : Le zero_float S = Le-trans (square_plus x fx l.first) l in
    let X = held_units binary64 x hx in
    let Y = held_units binary64 S hS in
    let u = X.β * 2 ^ X.j in
    let s = Y.β * 2 ^ Y.j in
    let b = size u - 1 in
    let R = sqrt binary64 S in
    let r = sqrt_finite S hS pS in
    let e = enough x S u s b fx (plus_plain S pS zS) (pos_of (num S) (den S) s (2 ^ 1074) zS (pow_pos 1074) (le_of_eq Y.is)) l X.is Y.is
    (digits_ge u) in
    let a = sqrt_at S 1 b pS zS (lit< tt) (spread b s (2 ^ 1074) (num S) (den S) Y.is e) r in
    let g : 2 ^ b ≤ a.g = le_trans (le_of_eq (sym (one-mul (2 ^ b)))) a.ge in
    div_exact binary64 (fin false 2 (pos 0)) x R tt fx r (pos_of a.g (2 ^ 1074) (num R) (den R) (lt_of_lt_of_le (pow_pos b) g) (den_pos R)
    (le_of_eq (sym a.is)))
    (final (num x) (den x) (num R) (den R) (2 ^ 1074) u a.g (pow_pos 1074) X.is a.is
    (le_trans (digits_le (size u) u (size-lt u)) (mul-le-mul_left 2 g)))
  where
    spread : (b s w n d : ℕ) → n * w ≡ s * d → 2 ^ b * 2 ^ b ≤ s * w → 1 * 2 ^ b * (1 * 2 ^ b) * d ≤ n * w * w
    spread b s w n d e h =
        let o = one-mul (2 ^ b) in
        le_trans (le_of_eq (ap (λ (z : ℕ). z * d) (ap₂ (λ (x y : ℕ). x * y) o o)))
        (le_trans (mul-le-mul_right d h) (le_of_eq (mul_right_comm s w d ∙ ap (λ (z : ℕ). z * w) (sym e))))
