-- The middle of an interval whose ends differ stands between them in the order of `total_cmp`, in which the
-- sign of a zero counts: where the lower end has no minus sign the middle has none,
-- and where the upper end has one the middle has one, since half of what lies between is less than the lower end's size.
use Rattle.std.specs.Prelude.{◌≡◌, ℕ, zero, suc, ◌+◌, ◌-◌, ◌*◌, ◌^◌, ◌<◌, ◌≤◌, Bool, true, false, not, ◌&&◌, ◌||◌, T, ltb, leb, ◌⊎◌, ℤ, pos, negsuc}
use Rattle.std.specs.Prelude.{nat_le, nat_lt, refl, Float}
use Rattle.std.proofs.Common.{suc-le-suc, le_of_eq, le_trans, lt_of_le_of_lt, lt_of_lt_of_le, mul-pos, mul-le-mul_right, mul-lt-mul_of_pos_right}
use Rattle.std.proofs.Common.{lt_of_mul-lt-mul_right, mul_right_comm, mul_assoc, mul-one, lt_trans, lt-suc_self, pow-suc, mul-le-mul_left, sub-le}
use Rattle.std.proofs.Common.{not-suc-le-zero, arith, sym, ap, subst, ◌∙◌, inl, inr, leb→le, ltb→lt, lt→ltb, le→leb, lit<, pow_mono, pow_pos}
use Rattle.std.proofs.Math.Nat.{mul-mul-mul_comm, le-suc}
use Rattle.std.proofs.Math.Decide.{dec_lt}
use Rattle.std.specs.Float.{nan, inf, fin, binary64}
use Rattle.std.specs.Float.Ieee.{up, down, add, sub, div, lt, le, eq, fits}
use Rattle.std.specs.Float.Ieee.Fits.{up_pos, down_pos, div-fits, and_i, and_l, and_r}
use Rattle.std.specs.Float.Ieee.Scale.{finite}
use Rattle.std.specs.Float.Ieee.Positive.{num, den}
use Rattle.float.specs.Number.{◌⊕◌, ◌⊖◌, ◌⊘◌, middle, two_float, negative, total_le}
use Rattle.float.specs.Laws.Zero.{sum_same_sign, sum_less, sum_more}
use Rattle.float.specs.Laws.Total.{total_le_eq}
use Rattle.float.specs.Laws.Tests.{total_le_lt, round_negative}
use Rattle.float.specs.Laws.Like.{zero_l}
use Rattle.float.specs.Promises.Order.{Le}
use Rattle.float.specs.Laws.Le.{Le→le, or_r, or_split, plain, round_plain, div_mono_by}
use Rattle.float.specs.Promises.Order.{Within}
use Rattle.float.specs.Laws.Within.{held, fits→held, drop_pow, round_within, div_exact, within→Le, plain_finite}
use Rattle.float.specs.Laws.Whole.{le_units, lt_units}
use Rattle.float.specs.Promises.Order.{Span}
use Rattle.float.specs.Laws.Middle.{middle_in}

-- ---- no minus sign

gap_plain : (lo hi : Float) → T (finite lo) → T (finite hi) → T (lt lo hi) → T (plain (hi ⊖ lo))
unfolding lt sub
gap_plain nan hi p q l = absurd p
gap_plain (inf s) hi p q l = absurd p
gap_plain (fin s m e) nan p q l = absurd q
gap_plain (fin s m e) (inf t) p q l = absurd q
gap_plain (fin false m e) (fin true n d) p q l = absurd l
gap_plain (fin false m e) (fin false n d) p q l =
    let a = m * up e * down d in
    let b = n * up d * down e in
    subst (λ (z : Float). T (plain z)) (sym (sum_more false b true a (down d * down e) refl (ltb→lt a b l))) (round_plain binary64 (b - a) (down d * down e))
gap_plain (fin true m e) (fin false n d) p q l =
    let a = m * up e * down d in
    let b = n * up d * down e in
    subst (λ (z : Float). T (plain z)) (sym (sum_same_sign false b false a (down d * down e) refl)) (round_plain binary64 (b + a) (down d * down e))
gap_plain (fin true m e) (fin true n d) p q l =
    let a = m * up e * down d in
    let b = n * up d * down e in
    subst (λ (z : Float). T (plain z)) (sym (sum_less true b false a (down d * down e) refl (ltb→lt b a l))) (round_plain binary64 (a - b) (down d * down e))

half_plain : (x : Float) → T (plain x) → T (plain (x ⊘ two_float))
unfolding div
half_plain nan p = absurd p
half_plain (inf true) p = absurd p
half_plain (inf false) p = tt
half_plain (fin true m e) p = absurd p
half_plain (fin false m e) p = round_plain binary64 (m * up e * 1) (1 * 2 ^ 1 * down e)

sum_plain : (m : ℕ) (e : ℤ) (h : Float) → T (plain h) → T (plain (fin false m e ⊕ h))
unfolding add
sum_plain m e nan p = absurd p
sum_plain m e (inf true) p = absurd p
sum_plain m e (inf false) p = tt
sum_plain m e (fin true n d) p = absurd p
sum_plain m e (fin false n d) p =
    let a = m * up e * down d in
    let b = n * up d * down e in
    subst (λ (z : Float). T (plain z)) (sym (sum_same_sign false a false b (down e * down d) refl)) (round_plain binary64 (a + b) (down e * down d))

plain_not : (x : Float) → T (plain x) → negative x ≡ false
plain_not nan p = absurd p
plain_not (inf true) p = absurd p
plain_not (inf false) p = refl
plain_not (fin true m e) p = absurd p
plain_not (fin false m e) p = refl

no_minus : (lo hi : Float) → T (finite lo) → T (finite hi) → T (lt lo hi) → negative lo ≡ false → negative (middle lo hi) ≡ false
unfolding middle
no_minus nan hi p q l n = absurd p
no_minus (inf s) hi p q l n = absurd p
no_minus (fin true m e) hi p q l n = absurd (subst T n tt)
no_minus (fin false m e) hi p q l n =
    plain_not (fin false m e ⊕ (hi ⊖ fin false m e) ⊘ two_float)
    (sum_plain m e ((hi ⊖ fin false m e) ⊘ two_float) (half_plain (hi ⊖ fin false m e) (gap_plain (fin false m e) hi p q l)))

-- ---- half of a number above zero is less than it, even of the smallest

-- x / p ≤ y / q and y / q < z / r
strict : (x y z p q r : ℕ) → 0 < p → x * q ≤ y * p → y * r < z * q → x * r < z * p
strict x y z p q r P h k =
    let a : x * r * q ≡ x * q * r = mul_right_comm x r q in
    let b : x * q * r ≤ y * p * r = mul-le-mul_right r h in
    let c : y * p * r ≡ y * r * p = mul_right_comm y p r in
    let d : y * r * p < z * q * p = mul-lt-mul_of_pos_right k P in
    let e : z * q * p ≡ z * p * q = mul_right_comm z q p in
    let g : x * r * q < z * p * q = omega arith in
    lt_of_mul-lt-mul_right q g

under_lt : (m : ℕ) (e : ℤ) (B h : Float) → T (plain h) → Within B h → num B * down e < m * up e * den B → T (lt h (fin false m e))
unfolding lt
under_lt m e B nan p w k = absurd p
under_lt m e B (inf s) p w k = absurd w.real
under_lt m e B (fin true n d) p w k = absurd p
under_lt m e B (fin false n d) p w k = lt→ltb (n * up d * down e) (m * up e * down d)
    (strict (n * up d) (num B) (m * up e) (down d) (den B) (down e) (down_pos d) w.size k)

-- B is a value of the format from half of the number up, and less than it
by_bound : (m : ℕ) (e : ℤ) (B : Float) → T (held binary64 B) → m * up e * 1 * den B ≤ num B * (2 * down e) → num B * down e < m * up e * den B
    → T (lt (fin false m e ⊘ two_float) (fin false m e))
by_bound m e B t h k = under_lt m e B (fin false m e ⊘ two_float) (half_plain (fin false m e) tt)
    (div_exact binary64 B (fin false m e) two_float t tt tt (lit< tt) h) k

-- one digit less
digit_less : (k u w : ℕ) → 0 < u → 0 < w → (suc (suc k) * u * 1 * w ≤ suc k * u * (2 * w)) × (suc k * u * w < suc (suc k) * u * w)
digit_less k u w U W =
    let v = u * w in
    let a : suc (suc k) * v ≤ suc k * 2 * v = mul-le-mul_right v (omega arith) in
    let b : suc (suc k) * u * 1 * w ≡ suc (suc k) * v = ap (λ (z : ℕ). z * w) (mul-one (suc (suc k) * u)) ∙ mul_assoc (suc (suc k)) u w in
    let c : suc k * u * (2 * w) ≡ suc k * 2 * v = mul-mul-mul_comm (suc k) u 2 w in
    (le_trans (le_of_eq b) (le_trans a (le_of_eq (sym c))), mul-lt-mul_of_pos_right (mul-lt-mul_of_pos_right {m = suc k} {n = suc (suc k)} (omega arith) U) W)

held_digit : (k : ℕ) (e : ℤ) → T (held binary64 (fin false (suc (suc k)) e)) → T (held binary64 (fin false (suc k) e))
held_digit k e t =
    let a = ltb (suc (suc k)) (2 ^ 53) in
    let b = leb (down e) (2 ^ 1074) in
    let c = ltb (suc (suc k) * up e) (2 ^ 1024 * down e) in
    let d = ltb (suc k * up e) (2 ^ 1024 * down e) in
    and_i (nat_lt (suc k) (2 ^ 53)) (b && d) (lt→ltb (suc k) (2 ^ 53) (lt_trans (lt-suc_self (suc k)) (ltb→lt (suc (suc k)) (2 ^ 53) (and_l a (b && c) t))))
    (and_i b d (and_l b c (and_r a (b && c) t))
    (lt→ltb (suc k * up e) (2 ^ 1024 * down e) (lt_of_le_of_lt (mul-le-mul_right (up e) (le-suc (suc k)))
    (ltb→lt (suc (suc k) * up e) (2 ^ 1024 * down e) (and_r b c (and_r a (b && c) t))))))

-- one binary place less
held_up : (k : ℕ) → T (held binary64 (fin false 1 (pos (suc k)))) → T (held binary64 (fin false 1 (pos k)))
held_up k t = lt→ltb (1 * 2 ^ k) (2 ^ 1024 * 1) (lt_of_le_of_lt (mul-le-mul_left 1 (pow_mono {i = k} {j = suc k} (le-suc k)))
    (ltb→lt (1 * 2 ^ suc k) (2 ^ 1024 * 1) t))

held_down : (k : ℕ) → k < 1073 → T (held binary64 (fin false 1 (negsuc (suc k))))
held_down k h =
    and_i (nat_le (2 ^ suc (suc k)) (2 ^ 1074)) (nat_lt 1 (2 ^ 1024 * 2 ^ suc (suc k)))
    (le→leb (2 ^ suc (suc k)) (2 ^ 1074) (pow_mono {i = suc (suc k)} {j = 1074} (suc-le-suc h)))
    (lt→ltb 1 (2 ^ 1024 * 2 ^ suc (suc k)) (lt_of_lt_of_le {n = 1} {m = 2 ^ 1024 * 1} (lit< tt) (mul-le-mul_left (2 ^ 1024) (pow_pos (suc (suc k))))))

-- the smallest number: its half is zero
held_place : (k : ℕ) → T (held binary64 (fin false 1 (negsuc k))) → suc k ≤ 1074
held_place k t = drop_pow (suc k) 1074 (leb→le (2 ^ suc k) (2 ^ 1074) (and_l (nat_le (2 ^ suc k) (2 ^ 1074)) (nat_lt (1 * 1) (2 ^ 1024 * 2 ^ suc k)) t))

least_place : (k : ℕ) → suc k ≤ 1074 → (k < 1073 → ⊥) → 1073 ≡ k
least_place k h n = omega arith

smallest : T (lt (fin false 1 (negsuc 1073) ⊘ two_float) (fin false 1 (negsuc 1073)))
unfolding lt div
smallest = tt

half_less : (m : ℕ) (e : ℤ) → T (held binary64 (fin false (suc m) e)) → T (lt (fin false (suc m) e ⊘ two_float) (fin false (suc m) e))
half_less (suc k) e t = let d = digit_less k (up e) (down e) (up_pos e) (down_pos e) in
    by_bound (suc (suc k)) e (fin false (suc k) e) (held_digit k e t) d.0 d.1
half_less zero (pos zero) t = by_bound 1 (pos 0) (fin false 1 (negsuc 0)) tt (omega arith) (omega arith)
half_less zero (pos (suc k)) t =
    let u = pow_pos k in
    let e = pow-suc 2 k in
    by_bound 1 (pos (suc k)) (fin false 1 (pos k)) (held_up k t) (omega arith) (omega arith)
half_less zero (negsuc k) t = elim (dec_lt k 1073) [
  | yes h ↦
      let u = pow_pos (suc k) in
      let e = pow-suc 2 (suc k) in
      by_bound 1 (negsuc k) (fin false 1 (negsuc (suc k))) (held_down k h) (omega arith) (omega arith)
  | no h ↦ subst (λ (j : ℕ). T (lt (fin false 1 (negsuc j) ⊘ two_float) (fin false 1 (negsuc j)))) (least_place k (held_place k t) h) smallest
]

-- ---- a minus sign

-- what is added is less
sum_minus : (m : ℕ) (e : ℤ) (h : Float) → T (plain h) → T (lt h (fin false m e)) → negative (fin true m e ⊕ h) ≡ true
unfolding add lt
sum_minus m e nan p l = absurd p
sum_minus m e (inf true) p l = absurd p
sum_minus m e (inf false) p l = absurd l
sum_minus m e (fin true n d) p l = absurd p
sum_minus m e (fin false n d) p l =
    let a = m * up e * down d in
    let b = n * up d * down e in
    ap negative (sum_more true a false b (down e * down d) refl (ltb→lt b a l)) ∙ round_negative binary64 true (a - b) (down e * down d)

lt_finite : (x : Float) (m : ℕ) (e : ℤ) → T (plain x) → T (lt x (fin false m e)) → T (finite x)
unfolding lt
lt_finite nan m e p l = absurd p
lt_finite (inf true) m e p l = absurd p
lt_finite (inf false) m e p l = absurd l
lt_finite (fin s n d) m e p l = tt

fits_sign : (m : ℕ) (e : ℤ) → T (fits binary64 (fin true m e)) → T (fits binary64 (fin false m e))
unfolding fits
fits_sign zero e t = t
fits_sign (suc m) e t = t

-- of what is at most a number above zero, half is less than that number
half_under : (m : ℕ) (e : ℤ) (g : Float) → T (fits binary64 (fin false (suc m) e)) → T (plain g) → Within (fin false (suc m) e) g
    → T (lt (g ⊘ two_float) (fin false (suc m) e))
half_under m e g t p w =
    let L = fin false (suc m) e in
    let h = g ⊘ two_float in
    let H = L ⊘ two_float in
    let a : T (le h H) = div_mono_by binary64 two_float tt tt (lit< tt) (within→Le tt tt w).0 in
    let b : T (lt H L) = half_less m e (fits→held binary64 L t tt) in
    let q : T (finite H) = lt_finite H (suc m) e (half_plain L tt) b in
    let r : T (finite h) = plain_finite h H (half_plain g p) q a in
    let s = div-fits binary64 g two_float in
    let u = div-fits binary64 L two_float in
    let x = (le_units binary64 h H s r u q).0 a in
    let y = (lt_units binary64 H L u q t tt).0 b in
    (lt_units binary64 h L s r t tt).1 (omega arith)

-- the gap between two with a minus sign is at most the lower one's size
gap_within : (m : ℕ) (e : ℤ) (i : ℕ) (d : ℤ) → T (held binary64 (fin false m e)) → i * up d * down e < m * up e * down d
    → Within (fin false m e) (fin true i d ⊖ fin true m e)
unfolding sub
gap_within m e i d t l =
    let a = m * up e * down d in
    let b = i * up d * down e in
    subst (λ (z : Float). Within (fin false m e) z) (sym (sum_less true b false a (down d * down e) refl l))
    (round_within binary64 false (a - b) (down d * down e) (fin false m e) (mul-pos (down_pos d) (down_pos e)) t
    (le_trans (mul-le-mul_right (down e) (sub-le a b)) (le_of_eq (mul_assoc (m * up e) (down d) (down e)))))

with_minus : (lo hi : Float) → T (fits binary64 lo) → T (finite lo) → T (finite hi) → T (lt lo hi) → negative hi ≡ true → negative (middle lo hi) ≡ true
unfolding middle lt
with_minus lo nan t p q l n = absurd q
with_minus lo (inf s) t p q l n = absurd q
with_minus lo (fin false i d) t p q l n = absurd (subst T (sym n) tt)
with_minus nan (fin true i d) t p q l n = absurd p
with_minus (inf s) (fin true i d) t p q l n = absurd p
with_minus (fin false m e) (fin true i d) t p q l n = absurd l
with_minus (fin true zero e) (fin true i d) t p q l n = absurd
    (not-suc-le-zero (subst (λ (z : ℕ). i * up d * down e < z) (zero_l (up e) (down d)) (ltb→lt (i * up d * down e) (0 * up e * down d) l)))
with_minus (fin true (suc m) e) (fin true i d) t p q l n =
    let g = fin true i d ⊖ fin true (suc m) e in
    let f = fits_sign (suc m) e t in
    let w = gap_within (suc m) e i d (fits→held binary64 (fin false (suc m) e) f tt) (ltb→lt (i * up d * down e) (suc m * up e * down d) l) in
    let r = gap_plain (fin true (suc m) e) (fin true i d) tt tt l in
    sum_minus (suc m) e (g ⊘ two_float) (half_plain g r) (half_under m e g f r w)

-- ---- the order

ordered : (x y : Float) → Le x y → (T (eq x y) → T (negative x || not (negative y))) → T (total_le x y)
unfolding le
ordered x y h k = go (or_split (lt x y) (eq x y) (Le→le h))
  where
    go : T (lt x y) ⊎ T (eq x y) → T (total_le x y)
    go (inl l) = total_le_lt x y l
    go (inr e) = subst T (sym (total_le_eq x y e)) (k e)

module _ {k : ℕ} {lo hi : Float} (s : Span k lo hi) (l : T (lt lo hi)) where
  pub middle_above : T (total_le lo (middle lo hi))
  middle_above = ordered lo (middle lo hi) (middle_in s).lower (λ e. go (negative lo) refl)
    where
      go : (b : Bool) → negative lo ≡ b → T (b || not (negative (middle lo hi)))
      go true b = tt
      go false b = subst (λ (z : Bool). T (not z)) (sym (no_minus lo hi s.lo_within.real s.hi_within.real l b)) tt

  pub middle_below : T (total_le (middle lo hi) hi)
  middle_below = ordered (middle lo hi) hi (middle_in s).upper (λ e. go (negative hi) refl)
    where
      go : (b : Bool) → negative hi ≡ b → T (negative (middle lo hi) || not b)
      go true b = subst (λ (z : Bool). T (z || false)) (sym (with_minus lo hi s.lo_fits s.lo_within.real s.hi_within.real l b)) tt
      go false b = or_r (negative (middle lo hi)) true tt
