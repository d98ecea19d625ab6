-- The tests of code in the words of the definitions: the sign's bit, `<` and `==` beside the total order, `x != x`, std's tests, and the parts of a true `&&`.
use Rattle.std.specs.Prelude.{◌≡◌, ℕ, zero, suc, ◌+◌, ◌*◌, ◌/◌, ◌%◌, ◌^◌, ◌<◌, Bool, true, false, cond, not, ◌&&◌, ◌||◌, T, ◌==◌, nat_le, nat_lt}
use Rattle.std.specs.Prelude.{to_bits, refl, Float}
use Rattle.std.proofs.Common.{sym, ap, subst, ◌∙◌, arith, ne_eqb, ltb→lt}
use Rattle.std.proofs.Math.Bool.{not-not}
use Rattle.std.proofs.lemmas.Bool.{false≢true}
use Rattle.std.proofs.Math.Dec.{eqb_refl}
use Rattle.std.specs.Float.{nan, inf, fin, Format, binary64, float_is_finite, is_sign_negative}
use Rattle.std.specs.Float.Ieee.{lt, eq, ne, is_nan, up, down, below, level, fits, prec, emax, low, ones, hid, top, odd, units, round, of_fields, of_bits}
use Rattle.std.specs.Float.Ieee.Bits.{is_true, of_bits-to_bits}
use Rattle.std.specs.Float.Ieee.Compare.{differs_from_itself}
use Rattle.std.specs.Float.Ieee.Scale.{finite}
use Rattle.float.specs.Number.{total_le, negative}
use Rattle.float.specs.Laws.Total.{apart, total_le_eq, eq_comm, eq_both}

-- ---- the sign's bit

odd_negative : (d : ℕ) (s : Bool) (q k l : ℕ) → negative (odd d s q k l) ≡ s
unfolding odd
odd_negative d s zero k l = refl
odd_negative d s (suc q) k l = refl

units_negative : (f : Format) (s : Bool) (q k : ℕ) → negative (units f s q k) ≡ s
unfolding units
units_negative f s q k = go (nat_lt (q * 2 ^ k) (2 ^ (low f + suc (emax f))))
  where
    go : (b : Bool) → negative (cond b (odd (suc (prec f)) s q k (low f)) (inf s)) ≡ s
    go true = odd_negative (suc (prec f)) s q k (low f)
    go false = refl

pub round_negative : (f : Format) (s : Bool) (v c : ℕ) → negative (round f s v c) ≡ s
unfolding round
round_negative f s v c = units_negative f s _ _

fields_negative : (f : Format) (s : Bool) (x t : ℕ) → T (not (is_nan (of_fields f s x t))) → negative (of_fields f s x t) ≡ s
unfolding of_fields is_nan
fields_negative f s zero t h = odd_negative (prec f) s t 0 (low f)
fields_negative f s (suc x) t h = go (suc x == ones f) (t == 0) h
  where
    go : (a b : Bool) → T (not (is_nan (cond a (cond b (inf s) nan) (odd (prec f) s (hid f + t) x (low f)))))
        → negative (cond a (cond b (inf s) nan) (odd (prec f) s (hid f + t) x (low f))) ≡ s
    go true true n = refl
    go true false n = absurd n
    go false b n = odd_negative (prec f) s (hid f + t) x (low f)

pub sign_bit : (x : Float) → T (fits binary64 x) → T (not (is_nan x)) → nat_le (2 ^ 63) (to_bits binary64 x) ≡ negative x
unfolding of_bits
sign_bit x h n =
    let b : ℕ = to_bits binary64 x in
    let e : of_bits binary64 b ≡ x = of_bits-to_bits binary64 x h in
    sym (fields_negative binary64 (nat_le (top binary64) b) (b % top binary64 / hid binary64) (b % hid binary64)
    (subst (λ (y : Float). T (not (is_nan y))) (sym e) n))
    ∙ ap negative e

-- ---- `<` beside `==`

pub lt_not_eq : (x y : Float) → T (lt x y) → eq x y ≡ false
unfolding lt eq
lt_not_eq nan y h = absurd h
lt_not_eq (inf s) nan h = absurd h
lt_not_eq (inf true) (inf true) h = absurd h
lt_not_eq (inf true) (inf false) h = refl
lt_not_eq (inf false) (inf t) h = absurd h
lt_not_eq (inf s) (fin t n d) h = refl
lt_not_eq (fin s m e) nan h = absurd h
lt_not_eq (fin s m e) (inf t) h = refl
lt_not_eq (fin s m e) (fin t n d) h = go s t (m * up e * down d) (n * up d * down e) h
  where
    go : (s t : Bool) (a b : ℕ) → T (below s a t b) → level s a t b ≡ false
    go false false a b h = let l : a < b = ltb→lt a b h in simp (ne_eqb a b (omega arith))
    go false true a b h = absurd h
    go true false a b h = apart a b (ltb→lt 0 (a + b) h)
    go true true a b h = let l : b < a = ltb→lt b a h in simp (ne_eqb a b (omega arith))

lt_numbers : (x y : Float) → T (lt x y) → T (not (is_nan x)) × T (not (is_nan y))
unfolding lt is_nan
lt_numbers nan y h = absurd h
lt_numbers (inf s) nan h = absurd h
lt_numbers (inf s) (inf t) h = (tt, tt)
lt_numbers (inf s) (fin t n d) h = (tt, tt)
lt_numbers (fin s m e) nan h = absurd h
lt_numbers (fin s m e) (inf t) h = (tt, tt)
lt_numbers (fin s m e) (fin t n d) h = (tt, tt)

pub finite_number : (x : Float) → T (finite x) → T (not (is_nan x))
unfolding is_nan
finite_number nan p = absurd p
finite_number (inf s) p = tt
finite_number (fin s m e) p = tt

-- only NaN does not equal itself
pub eq_self : (x : Float) → eq x x ≡ not (is_nan x)
unfolding eq is_nan
eq_self nan = refl
eq_self (inf true) = refl
eq_self (inf false) = refl
eq_self (fin true m e) = simp (is_true (m * up e * down e == m * up e * down e) (eqb_refl (m * up e * down e)))
eq_self (fin false m e) = simp (is_true (m * up e * down e == m * up e * down e) (eqb_refl (m * up e * down e)))

-- x stands before y
pub total_le_lt : (x y : Float) → T (lt x y) → T (total_le x y)
unfolding total_le
total_le_lt x y h = simp (lt_not_eq x y h, is_true (lt x y) h) tt

-- what is below stands before, and not the other way round
pub lt_before : (w v : Float) → T (lt w v) → total_le v w ≡ false
lt_before w v h = go (total_le v w) refl
  where
    go : (b : Bool) → total_le v w ≡ b → total_le v w ≡ false
    go true b = absurd (subst T (lt_not_eq w v h) (eq_both w v (total_le_lt w v h) (subst T (sym b) tt) (lt_numbers w v h).0))
    go false b = b

-- of two equals, by their signs
pub total_le_signs : (v y : Float) (a b : Bool) → eq y v ≡ true → a ≡ negative v → b ≡ negative y → total_le v y ≡ a || not b
total_le_signs v y a b e p q = total_le_eq v y (subst T (sym (eq_comm v y ∙ e)) tt) ∙ (λ i. sym p i || not (sym q i))

-- of two that are not equal, by `<`
pub total_le_unequal : (x y : Float) (b : Bool) → eq x y ≡ false → lt x y ≡ b → total_le x y ≡ b || is_nan y
unfolding total_le
total_le_unequal x y b e l = simp (e, l)

pub ne_self : (x : Float) → ne x x ≡ is_nan x
unfolding ne
ne_self x = ap not (eq_self x) ∙ not-not (is_nan x)

-- `x != x` fails of numbers alone
pub number_of : (x : Float) → ne x x ≡ false → T (not (is_nan x))
number_of x h = subst (λ (b : Bool). T (not b)) (sym (sym (ne_self x) ∙ h)) tt

pub nan_of : (x : Float) → ne x x ≡ true → x ≡ nan
nan_of x h = differs_from_itself x (subst T (sym h) tt)

-- ---- std's tests
pub finite_test : (x : Float) → float_is_finite x ≡ finite x
unfolding float_is_finite
finite_test nan = refl
finite_test (inf s) = refl
finite_test (fin s m e) = refl

pub sign_test : (x : Float) → is_sign_negative x ≡ negative x
unfolding is_sign_negative
sign_test nan = refl
sign_test (inf s) = refl
sign_test (fin s m e) = refl

pub nan_test : (x : Float) → is_nan x ≡ true → x ≡ nan
unfolding is_nan
nan_test nan h = refl
nan_test (inf s) h = absurd (false≢true h)
nan_test (fin s m e) h = absurd (false≢true h)

-- ---- the parts of a true `&&`
pub and_left : (a b : Bool) → (a && b) ≡ true → a ≡ true
and_left true b h = refl
and_left false b h = absurd (false≢true h)

pub and_right : (a b : Bool) → (a && b) ≡ true → b ≡ true
and_right true b h = h
and_right false b h = absurd (false≢true h)

pub three : (a b c : Bool) → (a && b && c) ≡ true → (a ≡ true) × (b ≡ true) × (c ≡ true)
three true true c h = (refl, refl, h)
three true false c h = absurd (false≢true h)
three false b c h = absurd (false≢true h)
