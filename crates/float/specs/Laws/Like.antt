-- The operations respect `Like`, so they see only the numbers and not the sign of a zero; and
-- `Opp x x'`, x' is minus x as a number, goes through `add`, `sub`, `mul`.
--
use Rattle.std.specs.Prelude.{◌≡◌, ℕ, zero, suc, ◌+◌, ◌-◌, ◌*◌, ◌<◌, ◌≤◌, Bool, true, false, cond, not, ◌&&◌, T, nat_lt, refl, Float}
use Rattle.std.proofs.Common.{sym, ap, ap₂, ◌∙◌, zero-mul, mul-zero, mul-one, one-mul, mul-pos, mul_assoc, mul_comm, mul_left_comm, zero-lt-suc, arith}
use Rattle.std.proofs.Common.{ltb→lt, nltb→le}
use Rattle.std.specs.Bool.{beq}
use Rattle.std.proofs.Math.Bool.{and-true}
use Rattle.std.specs.Float.{nan, inf, fin, Format}
use Rattle.std.specs.Float.Ieee.{unlike, up, down, round, neg, sum, add, sub, mul}
use Rattle.std.specs.Float.Ieee.Fits.{down_pos}
use Rattle.std.specs.Float.Ieee.Scale.{round_same}
use Rattle.float.specs.Laws.Sign.{strip, Alike, round_zero, add_neg, mul_neg_l, mul_neg_r}

-- ---- a product
pub zero_l : (u v : ℕ) → 0 * u * v ≡ 0
zero_l u v = ap (λ (z : ℕ). z * v) (zero-mul u) ∙ zero-mul v

pub zero_r : (u v : ℕ) → u * (0 * v) ≡ 0
zero_r u v = ap (λ (z : ℕ). u * z) (zero-mul v) ∙ mul-zero u

mul_strip : (f : Format) (x y : Float) → strip (mul f x y) ≡ strip (mul f (strip x) (strip y))
unfolding strip mul
mul_strip f nan y = refl
mul_strip f (inf s) nan = refl
mul_strip f (inf s) (inf t) = refl
mul_strip f (inf s) (fin t zero d) = refl
mul_strip f (inf s) (fin t (suc n) d) = refl
mul_strip f (fin s zero e) nan = refl
mul_strip f (fin s (suc m) e) nan = refl
mul_strip f (fin s zero e) (inf t) = refl
mul_strip f (fin s (suc m) e) (inf t) = refl
mul_strip f (fin s zero e) (fin t zero d) =
    round_zero f (unlike s t) _ _ (mul-pos (down_pos e) (down_pos d)) (zero_l (up e) (0 * up d))
    ∙ sym (round_zero f (unlike false false) _ _ (zero-lt-suc 0) refl)
mul_strip f (fin s zero e) (fin t (suc n) d) =
    round_zero f (unlike s t) _ _ (mul-pos (down_pos e) (down_pos d)) (zero_l (up e) (suc n * up d))
    ∙ sym (round_zero f (unlike false t) _ _ (mul-pos (zero-lt-suc 0) (down_pos d)) (zero_l 1 (suc n * up d)))
mul_strip f (fin s (suc m) e) (fin t zero d) =
    round_zero f (unlike s t) _ _ (mul-pos (down_pos e) (down_pos d)) (zero_r (suc m * up e) (up d))
    ∙ sym (round_zero f (unlike s false) _ _ (mul-pos (down_pos e) (zero-lt-suc 0)) (zero_r (suc m * up e) 1))
mul_strip f (fin s (suc m) e) (fin t (suc n) d) = refl

-- ---- a sum
-- a zero on one side leaves the other operand's fraction
pub first_zero : (f : Format) (s : Bool) (a : ℕ) (t : Bool) (b c : ℕ) → 0 < c → a ≡ 0 → Alike (sum f s a t b c) (round f t b c)
unfolding sum
first_zero f s a t b c C z = go s t
  where
    sums : a + b ≡ b
    sums = omega arith

    subs : b - a ≡ b
    subs = omega arith

    none : a - b ≡ 0
    none = omega arith

    flat : b ≤ a → b ≡ 0
    flat h = omega arith

    apart : (s t : Bool) → Alike (cond (nat_lt a b) (round f t (b - a) c) (round f (s && nat_lt b a) (a - b) c)) (round f t b c)
    apart s t = pick (nat_lt a b) (nltb→le a b)
      where
        pick : (p : Bool) → (T (not p) → b ≤ a) → Alike (cond p (round f t (b - a) c) (round f (s && nat_lt b a) (a - b) c)) (round f t b c)
        pick true h = ap (λ (n : ℕ). strip (round f t n c)) subs
        pick false h = round_zero f (s && nat_lt b a) (a - b) c C none ∙ sym (round_zero f t b c C (flat (h tt)))

    go : (s t : Bool) → Alike (cond (beq s t) (round f s (a + b) c) (cond (nat_lt a b) (round f t (b - a) c) (round f (s && nat_lt b a) (a - b) c)))
        (round f t b c)
    go true true = ap (λ (n : ℕ). strip (round f true n c)) sums
    go false false = ap (λ (n : ℕ). strip (round f false n c)) sums
    go true false = apart true false
    go false true = apart false true

pub second_zero : (f : Format) (s : Bool) (a : ℕ) (t : Bool) (b c : ℕ) → 0 < c → b ≡ 0 → Alike (sum f s a t b c) (round f s a c)
unfolding sum
second_zero f s a t b c C z = go s t
  where
    sums : a + b ≡ a
    sums = omega arith

    subs : a - b ≡ a
    subs = omega arith

    none : a < b → ⊥
    none h = omega arith

    flat : a ≤ b → a ≡ 0
    flat h = omega arith

    apart : (s t : Bool) → Alike (cond (nat_lt a b) (round f t (b - a) c) (round f (s && nat_lt b a) (a - b) c)) (round f s a c)
    apart s t = pick (nat_lt a b) (nat_lt b a) (ltb→lt a b) (nltb→le b a)
      where
        pick : (p q : Bool) → (T p → a < b) → (T (not q) → a ≤ b) → Alike (cond p (round f t (b - a) c) (round f (s && q) (a - b) c)) (round f s a c)
        pick true q h k = absurd (none (h tt))
        pick false true h k = ap strip (ap₂ (λ (r : Bool) (n : ℕ). round f r n c) (and-true s) subs)
        pick false false h k = round_zero f (s && false) (a - b) c C (subs ∙ flat (k tt)) ∙ sym (round_zero f s a c C (flat (k tt)))

    go : (s t : Bool) → Alike (cond (beq s t) (round f s (a + b) c) (cond (nat_lt a b) (round f t (b - a) c) (round f (s && nat_lt b a) (a - b) c)))
        (round f s a c)
    go true true = ap (λ (n : ℕ). strip (round f true n c)) sums
    go false false = ap (λ (n : ℕ). strip (round f false n c)) sums
    go true false = apart true false
    go false true = apart false true

add_strip : (f : Format) (x y : Float) → strip (add f x y) ≡ strip (add f (strip x) (strip y))
unfolding strip add
add_strip f nan y = refl
add_strip f (inf s) nan = refl
add_strip f (inf s) (inf t) = refl
add_strip f (inf s) (fin t zero d) = refl
add_strip f (inf s) (fin t (suc n) d) = refl
add_strip f (fin s zero e) nan = refl
add_strip f (fin s (suc m) e) nan = refl
add_strip f (fin s zero e) (inf t) = refl
add_strip f (fin s (suc m) e) (inf t) = refl
add_strip f (fin s zero e) (fin t zero d) =
    first_zero f s _ t _ _ (mul-pos (down_pos e) (down_pos d)) (zero_l (up e) (down d))
    ∙ round_zero f t _ _ (mul-pos (down_pos e) (down_pos d)) (zero_l (up d) (down e))
    ∙ sym (first_zero f false _ false _ _ (zero-lt-suc 0) refl ∙ round_zero f false _ _ (zero-lt-suc 0) refl)
add_strip f (fin s zero e) (fin t (suc n) d) =
    first_zero f s _ t _ _ (mul-pos (down_pos e) (down_pos d)) (zero_l (up e) (down d))
    ∙ ap strip (round_same f t (suc n * up d * down e) (down e * down d) (suc n * up d * 1) (1 * down d) (mul-pos (down_pos e) (down_pos d))
    (mul-pos (zero-lt-suc 0) (down_pos d)) (simp (mul-one, one-mul, mul_assoc, mul_comm, mul_left_comm)))
    ∙ sym (first_zero f false _ t _ _ (mul-pos (zero-lt-suc 0) (down_pos d)) (zero_l 1 (down d)))
add_strip f (fin s (suc m) e) (fin t zero d) =
    second_zero f s _ t _ _ (mul-pos (down_pos e) (down_pos d)) (zero_l (up d) (down e))
    ∙ ap strip (round_same f s (suc m * up e * down d) (down e * down d) (suc m * up e * 1) (down e * 1) (mul-pos (down_pos e) (down_pos d))
    (mul-pos (down_pos e) (zero-lt-suc 0)) (simp (mul-one, mul_assoc, mul_comm, mul_left_comm)))
    ∙ sym (second_zero f s _ false _ _ (mul-pos (down_pos e) (zero-lt-suc 0)) (zero_l 1 (down e)))
add_strip f (fin s (suc m) e) (fin t (suc n) d) = refl

-- ---- so the operations respect `Like`. It is a record, and so is `Opp`, so that antt finds the two values from a proof of it.
pub record Like (x y : Float) : Type 0 where
  pub same : Alike x y

-- x' is minus x, as a number
pub record Opp (x x' : Float) : Type 0 where
  pub negated : Alike x' (neg x)

pub like_refl : (x : Float) → Like x x
like_refl x = record { same = refl }

pub add_like : (f : Format) {x x' y y' : Float} → Like x x' → Like y y' → Like (add f x y) (add f x' y')
add_like f {x} {x'} {y} {y'} p q = record { same = add_strip f x y ∙ ap₂ (λ (a b : Float). strip (add f a b)) p.same q.same ∙ sym (add_strip f x' y') }

pub mul_like : (f : Format) {x x' y y' : Float} → Like x x' → Like y y' → Like (mul f x y) (mul f x' y')
mul_like f {x} {x'} {y} {y'} p q = record { same = mul_strip f x y ∙ ap₂ (λ (a b : Float). strip (mul f a b)) p.same q.same ∙ sym (mul_strip f x' y') }

neg_strip : (x : Float) → strip (neg x) ≡ strip (neg (strip x))
unfolding strip neg
neg_strip nan = refl
neg_strip (inf s) = refl
neg_strip (fin s zero e) = refl
neg_strip (fin s (suc m) e) = refl

pub neg_like : {x x' : Float} → Like x x' → Like (neg x) (neg x')
neg_like {x} {x'} p = record { same = neg_strip x ∙ ap (λ (a : Float). strip (neg a)) p.same ∙ sym (neg_strip x') }

pub sub_like : (f : Format) {x x' y y' : Float} → Like x x' → Like y y' → Like (sub f x y) (sub f x' y')
unfolding sub
sub_like f p q = add_like f p (neg_like q)

-- ---- minus goes through
pub from_opp : {x x' : Float} → Opp x x' → Like x' (neg x)
from_opp p = record { same = p.negated }

pub to_opp : {x x' : Float} → Like x' (neg x) → Opp x x'
to_opp p = record { negated = p.same }

pub like_trans : {x y z : Float} → Like x y → Like y z → Like x z
like_trans p q = record { same = p.same ∙ q.same }

pub like_sym : {x y : Float} → Like x y → Like y x
like_sym p = record { same = sym p.same }

of_eq : {x y : Float} → x ≡ y → Like x y
of_eq p = record { same = ap strip p }

pub add_opp : (f : Format) {x x' y y' : Float} → Opp x x' → Opp y y' → Opp (add f x y) (add f x' y')
add_opp f {x} {x'} {y} {y'} p q = to_opp (like_trans (add_like f (from_opp p) (from_opp q)) (record { same = add_neg f x y }))

pub mul_opp_l : (f : Format) {x x' y y' : Float} → Opp x x' → Like y y' → Opp (mul f x y) (mul f x' y')
mul_opp_l f {x} {x'} {y} {y'} p q = to_opp (like_trans (mul_like f (from_opp p) (like_sym q)) (of_eq (mul_neg_l f x y)))

pub mul_opp_r : (f : Format) {x x' y y' : Float} → Like x x' → Opp y y' → Opp (mul f x y) (mul f x' y')
mul_opp_r f {x} {x'} {y} {y'} p q = to_opp (like_trans (mul_like f (like_sym p) (from_opp q)) (of_eq (mul_neg_r f x y)))

pub neg_opp : {x x' : Float} → Opp x x' → Opp (neg x) (neg x')
neg_opp p = to_opp (neg_like (from_opp p))

pub sub_opp : (f : Format) {x x' y y' : Float} → Opp x x' → Opp y y' → Opp (sub f x y) (sub f x' y')
unfolding sub
sub_opp f p q = add_opp f p (neg_opp q)
