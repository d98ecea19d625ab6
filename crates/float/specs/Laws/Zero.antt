-- Sums at binary64 by cases and in either order, what rounds to zero, and the code's tests `x - x == 0.0` (x is finite) and `x == 0.0`.
use Rattle.std.specs.Prelude.{◌≡◌, ℕ, ◌+◌, ◌-◌, ◌*◌, ◌<◌, Bool, true, false, cond, not, ◌&&◌, ◌||◌, T, ◌⊎◌, ℤ, pos, ◌==◌, nat_lt, refl, Float}
use Rattle.std.proofs.Common.{sym, ◌∙◌, subst, inl, inr, true≢false, eq-zero-or-pos, zero-mul, mul-one, mul-pos, lt_irrefl, zero-lt-suc, add_comm}
use Rattle.std.proofs.Common.{arith, eqb→eq, lt-ltb, le-ltb}
use Rattle.std.proofs.Math.Path.{ap}
use Rattle.std.specs.Bool.{beq}
use Rattle.std.proofs.lemmas.Bool.{false≢true}
use Rattle.std.proofs.Math.Bool.{and-true, and-false}
use Prim.Native.Nat.{compare, Ordering}
use Rattle.std.specs.Float.{nan, inf, fin}
use Rattle.std.specs.Float.Ieee.{binary64, up, down, round, sum, sub, eq, ne, level, of_bits}
use Rattle.std.specs.Float.Ieee.Fits.{up_pos, down_pos}
use Rattle.std.specs.Float.Ieee.Scale.{round_same, finite}
use Rattle.float.specs.Laws.Near.{Cmp, cmp}

-- ---- a zero
round_none : (s : Bool) → round binary64 s 0 1 ≡ fin s 0 (pos 0)
unfolding round
round_none s = refl

pub round_of_zero : (s : Bool) (a c : ℕ) → 0 < c → a ≡ 0 → round binary64 s a c ≡ fin s 0 (pos 0)
round_of_zero s a c C e =
    ap (λ (x : ℕ). round binary64 s x c) e
    ∙ round_same binary64 s 0 c 0 1 C (zero-lt-suc 0) (sym (zero-mul c))
    ∙ round_none s

-- ---- the cases
module _ (s : Bool) (a : ℕ) (t : Bool) (b c : ℕ) where
  pub sum_same_sign : beq s t ≡ true → sum binary64 s a t b c ≡ round binary64 s (a + b) c
  unfolding sum
  sum_same_sign e = ap (λ (z : Bool). cond z (round binary64 s (a + b) c)
      (cond (nat_lt a b) (round binary64 t (b - a) c) (round binary64 (s && nat_lt b a) (a - b) c))) e

  unlike_signs : beq s t ≡ false → sum binary64 s a t b c ≡ cond (nat_lt a b) (round binary64 t (b - a) c) (round binary64 (s && nat_lt b a) (a - b) c)
  unfolding sum
  unlike_signs e = ap (λ (z : Bool). cond z (round binary64 s (a + b) c)
      (cond (nat_lt a b) (round binary64 t (b - a) c) (round binary64 (s && nat_lt b a) (a - b) c))) e

  pub sum_less : beq s t ≡ false → a < b → sum binary64 s a t b c ≡ round binary64 t (b - a) c
  sum_less e h = unlike_signs e ∙ ap (λ (z : Bool). cond z (round binary64 t (b - a) c) (round binary64 (s && nat_lt b a) (a - b) c)) (lt-ltb a b h)

  pub sum_more : beq s t ≡ false → b < a → sum binary64 s a t b c ≡ round binary64 s (a - b) c
  sum_more e h =
      unlike_signs e
      ∙ ap (λ (z : Bool). cond z (round binary64 t (b - a) c) (round binary64 (s && nat_lt b a) (a - b) c)) (le-ltb a b (omega arith))
      ∙ ap (λ (z : Bool). round binary64 z (a - b) c) (ap (λ (z : Bool). s && z) (lt-ltb b a h) ∙ and-true s)

  pub sum_none : 0 < c → beq s t ≡ false → a ≡ b → sum binary64 s a t b c ≡ fin false 0 (pos 0)
  sum_none C e h =
      unlike_signs e
      ∙ ap (λ (z : Bool). cond z (round binary64 t (b - a) c) (round binary64 (s && nat_lt b a) (a - b) c)) (le-ltb a b (omega arith))
      ∙ ap (λ (z : Bool). round binary64 z (a - b) c) (ap (λ (z : Bool). s && z) (le-ltb b a (omega arith)) ∙ and-false s)
      ∙ round_of_zero false (a - b) c C (omega arith)

-- ---- the order of the two does not matter
beq_comm : (s t : Bool) → beq s t ≡ beq t s
beq_comm true true = refl
beq_comm true false = refl
beq_comm false true = refl
beq_comm false false = refl

beq_is : (s t : Bool) → beq s t ≡ true → s ≡ t
beq_is true true e = refl
beq_is true false e = sym e
beq_is false true e = e
beq_is false false e = refl

pub sum_comm : (s : Bool) (a : ℕ) (t : Bool) (b c : ℕ) → 0 < c → sum binary64 s a t b c ≡ sum binary64 t b s a c
sum_comm s a t b c C = go (beq s t) refl
  where
    apart : (o : Ordering) → Cmp o a b → beq s t ≡ false → sum binary64 s a t b c ≡ sum binary64 t b s a c
    apart Ordering.lt h e = sum_less s a t b c e h ∙ sym (sum_more t b s a c (beq_comm t s ∙ e) h)
    apart Ordering.eq h e = sum_none s a t b c C e h ∙ sym (sum_none t b s a c C (beq_comm t s ∙ e) (sym h))
    apart Ordering.gt h e = sum_more s a t b c e h ∙ sym (sum_less t b s a c (beq_comm t s ∙ e) h)

    go : (z : Bool) → beq s t ≡ z → sum binary64 s a t b c ≡ sum binary64 t b s a c
    go true e =
        sum_same_sign s a t b c e
        ∙ ap (λ (z : Bool). round binary64 z (a + b) c) (beq_is s t e)
        ∙ ap (λ (n : ℕ). round binary64 t n c) (add_comm a b)
        ∙ sym (sum_same_sign t b s a c (beq_comm t s ∙ e))
    go false e = apart (compare a b) (cmp a b) e

-- ---- x - x is 0.0 where x is finite, and a NaN where it is not
beq_not : (s : Bool) → beq s (not s) ≡ false
beq_not true = refl
beq_not false = refl

itself : (s : Bool) (m : ℕ) (e : ℤ) → sub binary64 (fin s m e) (fin s m e) ≡ fin false 0 (pos 0)
unfolding sub
itself s m e = sum_none s (m * up e * down e) (not s) (m * up e * down e) (down e * down e) (mul-pos (down_pos e) (down_pos e)) (beq_not s) refl

zero_is : ne (fin false 0 (pos 0)) (of_bits binary64 0) ≡ false
unfolding ne of_bits
zero_is = refl

pub not_finite : (x : Float) → ne (sub binary64 x x) (of_bits binary64 0) ≡ true → T (not (finite x))
not_finite nan h = tt
not_finite (inf s) h = tt
not_finite (fin s m e) h = absurd (true≢false (sym h ∙ ap (λ (v : Float). ne v (of_bits binary64 0)) (itself s m e) ∙ zero_is))

pub is_finite : (x : Float) → ne (sub binary64 x x) (of_bits binary64 0) ≡ false → T (finite x)
unfolding sub ne
is_finite nan h = absurd (true≢false h)
is_finite (inf true) h = absurd (true≢false h)
is_finite (inf false) h = absurd (true≢false h)
is_finite (fin s m e) h = tt

-- ---- x == 0.0
pub zero_bits : of_bits binary64 0 ≡ fin false 0 (pos 0)
unfolding of_bits
zero_bits = refl

pub equals_zero : (s : Bool) (m : ℕ) (e : ℤ) → eq (fin s m e) (fin false 0 (pos 0)) ≡ level s (m * up e * 1) false (0 * 1 * down e)
unfolding eq
equals_zero s m e = refl

-- the test from the fact, whatever the sign
pub level_zero : (s : Bool) (a b : ℕ) → a ≡ 0 → b ≡ 0 → level s a false b ≡ true
level_zero s a b x y = ap (λ (z : ℕ). level s z false b) x ∙ ap (λ (z : ℕ). level s 0 false z) y ∙ go s
  where
    go : (s : Bool) → level s 0 false 0 ≡ true
    go true = refl
    go false = refl

level_says : (s : Bool) (a b : ℕ) → level s a false b ≡ true → a ≡ b
level_says s a b h = go (a == b) (eqb→eq a b) h
  where
    go : (z : Bool) → (T z → a ≡ b) → (z && (beq s false || a == 0)) ≡ true → a ≡ b
    go true k h = k tt
    go false k h = absurd (false≢true h)

pub no_up : (m : ℕ) (e : ℤ) → m * up e ≡ 0 → m ≡ 0
no_up m e h = go (eq-zero-or-pos m)
  where
    go : (m ≡ 0) ⊎ (0 < m) → m ≡ 0
    go (inl z) = z
    go (inr p) = absurd (lt_irrefl 0 (subst (λ (x : ℕ). 0 < x) h (mul-pos p (up_pos e))))

pub zero_of : (s : Bool) (m : ℕ) (e : ℤ) → eq (fin s m e) (of_bits binary64 0) ≡ true → m ≡ 0
zero_of s m e h =
    no_up m e
    (sym (mul-one (m * up e))
    ∙ level_says s (m * up e * 1) (0 * 1 * down e) (sym (equals_zero s m e) ∙ ap (λ (v : Float). eq (fin s m e) v) (sym zero_bits) ∙ h)
    ∙ zero-mul (down e))

pub minus_itself : (x : Float) → eq (sub binary64 x x) (of_bits binary64 0) ≡ finite x
unfolding sub eq
minus_itself nan = refl
minus_itself (inf true) = refl
minus_itself (inf false) = refl
minus_itself (fin s m e) = go
  where
    go : eq (sub binary64 (fin s m e) (fin s m e)) (of_bits binary64 0) ≡ true
    go = ap (λ (v : Float). eq v (of_bits binary64 0)) (itself s m e) ∙ ap (λ (v : Float). eq (fin false 0 (pos 0)) v) zero_bits
