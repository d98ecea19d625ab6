-- What `floor` gives: of x cut to a whole number toward zero, one less where x is below that number.
use Rattle.std.proofs.Common.{◌≡◌, ℕ, zero, suc, ◌+◌, ◌-◌, ◌*◌, ◌/◌, ◌%◌, ◌^◌, ◌<◌, ◌≤◌, min, Bool, true, false, T, eqb, ltb, ℤ, pos, negsuc, ◌-ℤ◌}
use Rattle.std.proofs.Common.{neg_ℤ, sym, refl, ap, ◌∙◌, subst, true≢false, le_trans, le_of_eq, lt_of_lt_of_le, lt_of_le_of_lt, le_of_lt, lt_irrefl}
use Rattle.std.proofs.Common.{zero-lt-suc, lt_of_mul-lt-mul_right, mul-pos, one-mul, div-add-mod', zero-mul, mul-one, div-le_self, mul_right_comm}
use Rattle.std.proofs.Common.{le_of_mul-le-mul_right, arith, eqb→eq, ltb→lt, le-ltb, lt-ltb}
use mathlib.Core.Bool.{false≢true}
use native.Mathlib.Nat.{eq_of_mul-eq-mul_right, mod-one}
use lib.Signed.{mag}
use lib.Ieee.{Float, nan, inf, fin, binary64, up, down, round, lt, le, fits, of_int, to_signed}
use lib.Ieee.Fits.{down_pos, and_l, eq→eqb}
use lib.Ieee.Back.{round_whole}
use lib.Ieee.Exact.{HasValue}
use lib.Ieee.Scale.{round_same}
use Rattle.float.specs.Number.{floor, minus}
use Rattle.float.specs.Laws.Le.{le→Le}
use Rattle.float.specs.Laws.Within.{fits→held, exact_self}

-- a fraction in other numbers
another : (z : Float) (s : Bool) (a c q : ℕ) → 0 < c → q * c ≡ a → HasValue z s a c → HasValue z s q 1
another nan s a c q C e h = absurd h
another (inf t) s a c q C e h = absurd h
another (fin t n d) s a c q C e h = (
  h.0,
  eq_of_mul-eq-mul_right c C (n * up d * 1) (q * down d)
      (ap (λ (x : ℕ). x * c) (mul-one (n * up d)) ∙ h.1 ∙ ap (λ (x : ℕ). x * down d) (sym e) ∙ mul_right_comm q c (down d)),
)

-- a value with a fraction is below 2 ^ 53
short : (s : Bool) (m : ℕ) (e : ℤ) → T (fits binary64 (fin s m e)) → (m * up e % down e ≡ 0 → ⊥) → m * up e / down e ≤ 2 ^ 53
short s m (pos k) t h = absurd (h (mod-one (m * 2 ^ k)))
short s m (negsuc k) t h =
    le_trans (div-le_self (m * 1) (2 ^ suc k))
    (le_trans (le_of_eq (mul-one m))
    (le_of_lt (ltb→lt m (2 ^ 53) (and_l (ltb m (2 ^ 53)) _ (fits→held binary64 (fin s m (negsuc k)) t tt)))))

-- the whole part, rounded to a float, is itself
whole_part : (s : Bool) (m : ℕ) (e : ℤ) → T (fits binary64 (fin s m e)) → (t : Bool) → HasValue (round binary64 t (m * up e / down e) 1) t (m * up e / down e) 1
whole_part s m e f t = go (eqb (m * up e % down e) 0) (eqb→eq (m * up e % down e) 0) (λ k. eq→eqb k)
  where
    go : (b : Bool) → (T b → m * up e % down e ≡ 0) → (m * up e % down e ≡ 0 → T b) → HasValue (round binary64 t (m * up e / down e) 1) t (m * up e / down e) 1
    go true h k =
        let z : m * up e % down e ≡ 0 = h tt in
        let w : m * up e / down e * down e + m * up e % down e ≡ m * up e = div-add-mod' (m * up e) (down e) in
        let v : m * up e / down e * down e ≡ m * up e = omega arith in
        another (round binary64 t (m * up e / down e) 1) t (m * up e) (down e) (m * up e / down e) (down_pos e) v
        (subst (λ (y : Float). HasValue y t (m * up e) (down e))
        (sym (round_same binary64 t (m * up e / down e) 1 (m * up e) (down e) (zero-lt-suc 0) (down_pos e) (v ∙ sym (mul-one (m * up e)))))
        (exact_self binary64 t (fin s m e) (fits→held binary64 (fin s m e) f tt)))
    go false h k = round_whole binary64 t (m * up e / down e) (short s m e f k)

-- ---- x beside its whole part y, whose value is q
-- q * d * D against A * d, for A = q * D + r
scale : (A D q r d n : ℕ) → q * D + r ≡ A → n * 1 ≡ q * d → n * D + r * d ≡ A * d
scale A D q r d n e h =
    ap (λ (x : ℕ). x * D + r * d) (sym (mul-one n) ∙ h) ∙ ap (λ (x : ℕ). x + r * d) (mul_right_comm q d D)
    ∙ sym (native.Mathlib.Nat.add-mul (q * D) r d) ∙ ap (λ (x : ℕ). x * d) e

module _ (m : ℕ) (e : ℤ) (q r : ℕ) (w : q * down e + r ≡ m * up e) where
  plus_above : (y : Float) → HasValue y false q 1 → lt (fin false m e) y ≡ false
  unfolding lt
  plus_above nan h = absurd h
  plus_above (inf t) h = absurd h
  plus_above (fin true n d) h = refl
  plus_above (fin false n d) h = let k = scale (m * up e) (down e) q r (down d) (n * up d) w h.1 in
      le-ltb (m * up e * down d) (n * up d * down e) (omega arith)

  minus_whole : (y : Float) → r ≡ 0 → HasValue y true q 1 → lt (fin true m e) y ≡ false
  unfolding lt
  minus_whole nan z h = absurd h
  minus_whole (inf t) z h = absurd h
  minus_whole (fin false n d) z h = absurd (false≢true h.0)
  minus_whole (fin true n d) z h =
      let k = scale (m * up e) (down e) q r (down d) (n * up d) w h.1 in
      let o : r * down d ≡ 0 = ap (λ (x : ℕ). x * down d) z ∙ zero-mul (down d) in
      le-ltb (n * up d * down e) (m * up e * down d) (omega arith)

  minus_part : (y : Float) → 0 < r → HasValue y true q 1 → lt (fin true m e) y ≡ true
  unfolding lt
  minus_part nan p h = absurd h
  minus_part (inf t) p h = absurd h
  minus_part (fin false n d) p h = absurd (false≢true h.0)
  minus_part (fin true n d) p h =
      let k = scale (m * up e) (down e) q r (down d) (n * up d) w h.1 in
      let o = mul-pos p (down_pos d) in
      lt-ltb (n * up d * down e) (m * up e * down d) (omega arith)

  -- minus a value below 1, beside +0
  zero_whole : (y : Float) → q ≡ 0 → r ≡ 0 → HasValue y false q 1 → lt (fin true m e) y ≡ false
  unfolding lt
  zero_whole nan z o h = absurd h
  zero_whole (inf t) z o h = absurd h
  zero_whole (fin true n d) z o h = absurd (true≢false h.0)
  zero_whole (fin false n d) z o h =
      let k = scale (m * up e) (down e) q r (down d) (n * up d) w h.1 in
      let i : r * down d ≡ 0 = ap (λ (x : ℕ). x * down d) o ∙ zero-mul (down d) in
      let j : n * up d ≡ 0 = sym (mul-one (n * up d)) ∙ h.1 ∙ ap (λ (x : ℕ). x * down d) z ∙ zero-mul (down d) in
      let l : n * up d * down e ≡ 0 = ap (λ (x : ℕ). x * down e) j ∙ zero-mul (down e) in
      le-ltb 0 (m * up e * down d + n * up d * down e) (omega arith)

  zero_part : (y : Float) → 0 < r → HasValue y false q 1 → lt (fin true m e) y ≡ true
  unfolding lt
  zero_part nan p h = absurd h
  zero_part (inf t) p h = absurd h
  zero_part (fin true n d) p h = absurd (true≢false h.0)
  zero_part (fin false n d) p h =
      let k = scale (m * up e) (down e) q r (down d) (n * up d) w h.1 in
      let o = mul-pos p (down_pos d) in
      lt-ltb 0 (m * up e * down d + n * up d * down e) (omega arith)

-- ---- x cut toward zero, in the range of 64 bits with a sign
abbrev end : ℕ
end = 2 ^ 63

below_end : (A D q r : ℕ) → 0 < D → q * D + r ≡ A → A * 1 < 1 * end * D → q < end
below_end A D q r P w h =
    lt_of_mul-lt-mul_right D (lt_of_le_of_lt (le_trans (native.Mathlib.Nat.le-add_right (q * D) r) (le_of_eq (w ∙ sym (mul-one A))))
    (lt_of_lt_of_le h (le_of_eq (ap (λ (x : ℕ). x * D) (one-mul end)))))

cap_plus : (q : ℕ) → q < end → min q (end - 1) ≡ q
cap_plus q h = omega arith

cap_minus : (q : ℕ) → q ≤ end → min q end ≡ q
cap_minus q h = omega arith

module _ (m : ℕ) (e : ℤ) where
  abbrev A : ℕ
  A = m * up e

  abbrev D : ℕ
  D = down e

  split : A / D * D + A % D ≡ A
  split = div-add-mod' A D

  plus_cut : T (lt (fin false m e) (fin false 1 (pos 63))) → to_signed 63 (fin false m e) ≡ pos (A / D)
  unfolding lt to_signed
  plus_cut h = ap pos (cap_plus (A / D) (below_end A D (A / D) (A % D) (down_pos e) split (ltb→lt (A * 1) (1 * end * D) h)))

  -- A is at most 2 ^ 63 * D
  minus_most : T (le (fin true 1 (pos 63)) (fin true m e)) → A ≤ end * D
  minus_most h = go (le→Le (fin true 1 (pos 63)) (fin true m e) tt tt h).cross
    where
      go : 0 * D + A * 1 ≤ 0 * 1 + 1 * end * D → A ≤ end * D
      go k = let z : 0 * D ≡ 0 = zero-mul D in let o : 1 * end * D ≡ end * D = ap (λ (x : ℕ). x * D) (one-mul end) in omega arith

  minus_cut : T (le (fin true 1 (pos 63)) (fin true m e)) → to_signed 63 (fin true m e) ≡ neg_ℤ (pos (A / D))
  unfolding to_signed
  minus_cut h =
      ap (λ (c : ℕ). neg_ℤ (pos c))
      (cap_minus (A / D) (le_of_mul-le-mul_right (le_trans (native.Mathlib.Nat.le-add_right (A / D * D) (A % D))
      (le_trans (le_of_eq split) (minus_most h))) (down_pos e)))

  minus_below : T (le (fin true 1 (pos 63)) (fin true m e)) → 0 < A % D → A / D < end
  minus_below h p = lt_of_mul-lt-mul_right D (lt_of_lt_of_le (more (A / D * D) (A % D) p) (le_trans (le_of_eq split) (minus_most h)))
    where
      more : (a b : ℕ) → 0 < b → a < a + b
      more a b p = omega arith

-- how x stands to the float of its whole part
data Stands (m : ℕ) (e : ℤ) (t : Bool) : Type 0 where
  on : m * up e % down e ≡ 0 → t ≡ false → Stands m e t
  under : 0 < m * up e % down e → t ≡ true → Stands m e t

stands : (m : ℕ) (e : ℤ) → T (fits binary64 (fin true m e)) → Stands m e (lt (fin true m e) (of_int binary64 (neg_ℤ (pos (m * up e / down e)))))
unfolding of_int
stands m e f = go (m * up e / down e) (m * up e % down e) (split m e) refl (whole_part true m e f)
  where
    other : (q : ℕ) → q * down e + m * up e % down e ≡ m * up e → ((t : Bool) → HasValue (round binary64 t q 1) t q 1) → (r : ℕ)
        → m * up e % down e ≡ r → Stands m e (lt (fin true m e) (of_int binary64 (neg_ℤ (pos q))))
    other zero w v zero z = on z (zero_whole m e 0 (m * up e % down e) w (round binary64 false 0 1) refl z (v false))
    other zero w v (suc r) z = let p : 0 < m * up e % down e = subst (λ (x : ℕ). 0 < x) (sym z) (zero-lt-suc r) in
        under p (zero_part m e 0 (m * up e % down e) w (round binary64 false 0 1) p (v false))
    other (suc q) w v zero z = on z (minus_whole m e (suc q) (m * up e % down e) w (round binary64 true (suc q) 1) z (v true))
    other (suc q) w v (suc r) z = let p : 0 < m * up e % down e = subst (λ (x : ℕ). 0 < x) (sym z) (zero-lt-suc r) in
        under p (minus_part m e (suc q) (m * up e % down e) w (round binary64 true (suc q) 1) p (v true))

    go : (q r : ℕ) → q * down e + m * up e % down e ≡ m * up e → m * up e % down e ≡ r → ((t : Bool) → HasValue (round binary64 t q 1) t q 1)
        → Stands m e (lt (fin true m e) (of_int binary64 (neg_ℤ (pos q))))
    go q r w z v = other q w v r z

less_one : (q : ℕ) → neg_ℤ (pos q) -ℤ pos 1 ≡ negsuc q
less_one zero = refl
less_one (suc q) = ap (λ (x : ℕ). negsuc (suc x)) (native.Mathlib.Nat.add-zero q)

some_rest : (r q : ℕ) → 0 < r → minus (eqb r 0) q ≡ negsuc q
some_rest r q p = ap (λ (b : Bool). minus b q) (borrow.Author.Tests.ne_eqb r 0 (λ z. lt_irrefl 0 (subst (λ (x : ℕ). 0 < x) z p)))

no_rest : (r q : ℕ) → r ≡ 0 → minus (eqb r 0) q ≡ neg_ℤ (pos q)
no_rest r q z = ap (λ (b : Bool). minus b q) (borrow.Author.Tests.eq-eqb r 0 z)

module _ (x : Float) where
  abbrev whole : ℤ
  whole = to_signed 63 x

  abbrev test : Bool
  test = lt x (of_int binary64 whole)

-- ---- the two ways
pub stay : (x : Float) → T (fits binary64 x) → T (le (fin true 1 (pos 63)) x) → T (lt x (fin false 1 (pos 63))) → test x ≡ false → whole x ≡ floor x
unfolding lt le
stay nan f a b h = absurd b
stay (inf true) f a b h = absurd a
stay (inf false) f a b h = absurd b
stay (fin false m e) f a b h = plus_cut m e b
stay (fin true m e) f a b h = minus_cut m e a ∙ go (stands m e f)
  where
    known : lt (fin true m e) (of_int binary64 (neg_ℤ (pos (m * up e / down e)))) ≡ false
    known = ap (λ (z : ℤ). lt (fin true m e) (of_int binary64 z)) (sym (minus_cut m e a)) ∙ h

    go : Stands m e (lt (fin true m e) (of_int binary64 (neg_ℤ (pos (m * up e / down e))))) → neg_ℤ (pos (m * up e / down e)) ≡ floor (fin true m e)
    go (on z t) = sym (no_rest (m * up e % down e) (m * up e / down e) z)
    go (under p t) = absurd (true≢false (sym t ∙ known))

pub record Stepped (x : Float) : Type 0 where
  pub one_less : whole x -ℤ pos 1 ≡ floor x
  pub in_range : mag (whole x -ℤ pos 1) < 2 ^ 63

pub step : (x : Float) → T (fits binary64 x) → T (le (fin true 1 (pos 63)) x) → T (lt x (fin false 1 (pos 63))) → test x ≡ true → Stepped x
unfolding lt le
step nan f a b h = absurd b
step (inf true) f a b h = absurd a
step (inf false) f a b h = absurd b
step (fin false m e) f a b h =
    absurd (false≢true (sym (plus_above m e (m * up e / down e) (m * up e % down e) (split m e) (of_int binary64 (pos (m * up e / down e))) value)
    ∙ ap (λ (z : ℤ). lt (fin false m e) (of_int binary64 z)) (sym (plus_cut m e b)) ∙ h))
  where
    value : HasValue (of_int binary64 (pos (m * up e / down e))) false (m * up e / down e) 1
    value = unfold of_int in whole_part false m e f false
step (fin true m e) f a b h = go (stands m e f)
  where
    cut : to_signed 63 (fin true m e) ≡ neg_ℤ (pos (m * up e / down e))
    cut = minus_cut m e a

    known : lt (fin true m e) (of_int binary64 (neg_ℤ (pos (m * up e / down e)))) ≡ true
    known = ap (λ (z : ℤ). lt (fin true m e) (of_int binary64 z)) (sym cut) ∙ h

    less : to_signed 63 (fin true m e) -ℤ pos 1 ≡ negsuc (m * up e / down e)
    less = ap (λ (z : ℤ). z -ℤ pos 1) cut ∙ less_one (m * up e / down e)

    go : Stands m e (lt (fin true m e) (of_int binary64 (neg_ℤ (pos (m * up e / down e))))) → Stepped (fin true m e)
    go (on z t) = absurd (false≢true (sym t ∙ known))
    go (under p t) = record {
      one_less = less ∙ sym (some_rest (m * up e % down e) (m * up e / down e) p);
      in_range = subst (λ (z : ℤ). mag z < 2 ^ 63) (sym less) (minus_below m e a p);
    }
