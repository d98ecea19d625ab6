-- What is not negative: squares, products of such, and sums, which do not go down: a ≤ a + b for b ≥ 0, rounding included, for an a of the format.
-- So a rounded sum of squares is no less than each rounded square.
use Rattle.std.specs.Prelude.{◌≡◌, ℕ, ◌*◌, ◌<◌, Bool, true, false, T, ℤ, refl, Float}
use Rattle.std.proofs.Common.{sym, ap, ◌∙◌, subst, true≢false, mul-one, zero-mul, mul-zero, mul-pos, zero-lt-suc, mul_comm, arith}
use Rattle.std.proofs.lemmas.Bool.{false≢true}
use Rattle.std.specs.Float.{nan, inf, fin, binary64}
use Rattle.std.specs.Float.Ieee.{unlike, up, down, round, add, mul, sum, fits}
use Rattle.std.specs.Float.Ieee.Fits.{down_pos, add-fits, mul-fits}
use Rattle.std.specs.Float.Ieee.Exact.{HasValue}
use Rattle.std.specs.Float.Ieee.Scale.{finite, round_same}
use Rattle.std.specs.Float.Ieee.Positive.{num, den}
use Rattle.float.specs.Number.{◌⊕◌, ◌⊗◌, zero_float}
use Rattle.float.specs.Laws.Sign.{strip, Alike, round_zero}
use Rattle.float.specs.Laws.Like.{second_zero}
use Rattle.float.specs.Promises.Order.{Le}
use Rattle.float.specs.Laws.Le.{le→Le, Le→le, plain, round_plain, add_mono, le_alike, finite_alike, unstrip_Le_r}
use Rattle.float.specs.Laws.Within.{held, exact_self, value_finite, fits→held}
use Rattle.float.specs.Laws.Interval.{Le-refl, Le-trans}
use Rattle.float.specs.Laws.Zero.{sum_comm}

-- ---- a + 0 is a, as a number
value_Le : (s : Bool) (m : ℕ) (e : ℤ) (z : Float) → HasValue z s (m * up e) (down e) → Le (fin s m e) z
value_Le s m e nan h = absurd h
value_Le s m e (inf t) h = absurd h
value_Le s m e (fin t n d) h = go s t h.0 h.1
  where
    go : (s t : Bool) → t ≡ s → n * up d * down e ≡ m * up e * down d → Le (fin s m e) (fin t n d)
    go true true p q = record { first = tt; second = tt; cross = omega arith }
    go false false p q = record { first = tt; second = tt; cross = omega arith }
    go true false p q = absurd (false≢true p)
    go false true p q = absurd (true≢false p)

same_frac : (n d : ℕ) → n * 1 * d ≡ n * (d * 1)
same_frac n d = ap (λ (z : ℕ). z * d) (mul-one n) ∙ sym (ap (λ (z : ℕ). n * z) (mul-one d))

add_zero_is : (s : Bool) (m : ℕ) (e : ℤ) → Alike (fin s m e ⊕ zero_float) (round binary64 s (m * up e) (down e))
unfolding add
add_zero_is s m e =
    second_zero binary64 s (m * up e * 1) false (0 * 1 * down e) (down e * 1) (mul-pos (down_pos e) (zero-lt-suc 0)) (zero-mul (down e))
    ∙ ap strip (round_same binary64 s (m * up e * 1) (down e * 1) (m * up e) (down e) (mul-pos (down_pos e) (zero-lt-suc 0)) (down_pos e)
    (same_frac (m * up e) (down e)))

add_zero : (a : Float) → T (held binary64 a) → Le a (a ⊕ zero_float)
add_zero nan t = absurd t
add_zero (inf s) t = absurd t
add_zero (fin s m e) t =
    let r = round binary64 s (m * up e) (down e) in
    let v : HasValue r s (m * up e) (down e) = exact_self binary64 s (fin s m e) t in
    let z = sym (add_zero_is s m e) in
    le→Le (fin s m e) (fin s m e ⊕ zero_float) tt (finite_alike r (fin s m e ⊕ zero_float) z (value_finite r s (m * up e) (down e) v))
    (le_alike (fin s m e) (fin s m e) r (fin s m e ⊕ zero_float) refl z (Le→le (value_Le s m e r v)))

-- ---- a sum
pub add_grows : (a b : Float) → T (held binary64 a) → Le zero_float b → T (finite (a ⊕ b)) → Le a (a ⊕ b)
add_grows a b t h f = let z = add_zero a t in Le-trans z (le→Le (a ⊕ zero_float) (a ⊕ b) z.second f (add_mono binary64 (Le-refl a z.first) h))

add_swap : (x y : Float) → T (finite x) → T (finite y) → x ⊕ y ≡ y ⊕ x
unfolding add
add_swap nan y p q = absurd p
add_swap (inf s) y p q = absurd p
add_swap (fin s m e) nan p q = absurd q
add_swap (fin s m e) (inf t) p q = absurd q
add_swap (fin s m e) (fin t n d) p q =
    sum_comm s (m * up e * down d) t (n * up d * down e) (down e * down d) (mul-pos (down_pos e) (down_pos d))
    ∙ ap (λ (z : ℕ). sum binary64 t (n * up d * down e) s (m * up e * down d) z) (mul_comm (down e) (down d))

terms_finite : (x y : Float) → T (finite (x ⊕ y)) → T (finite x) × T (finite y)
unfolding add
terms_finite nan y h = absurd h
terms_finite (inf s) nan h = absurd h
terms_finite (inf true) (inf true) h = absurd h
terms_finite (inf true) (inf false) h = absurd h
terms_finite (inf false) (inf true) h = absurd h
terms_finite (inf false) (inf false) h = absurd h
terms_finite (inf s) (fin t n d) h = absurd h
terms_finite (fin s m e) nan h = absurd h
terms_finite (fin s m e) (inf t) h = absurd h
terms_finite (fin s m e) (fin t n d) h = (tt, tt)

record Grown (a b : Float) : Type 0 where
  left : Le a (a ⊕ b)
  right : Le b (a ⊕ b)
  plus : Le zero_float (a ⊕ b)

grown : (a b : Float) → T (fits binary64 a) → T (fits binary64 b) → Le zero_float a → Le zero_float b → T (finite (a ⊕ b)) → Grown a b
grown a b t u h k f =
    let l : Le a (a ⊕ b) = add_grows a b (fits→held binary64 a t h.second) k f in
    let s : b ⊕ a ≡ a ⊕ b = add_swap b a k.second h.second in
    let r : Le b (b ⊕ a) = add_grows b a (fits→held binary64 b u k.second) h (subst (λ (z : Float). T (finite z)) (sym s) f) in
    record { left = l; right = subst (λ (z : Float). Le b z) s r; plus = Le-trans h l }

-- ---- a square
plain_plus : (x : Float) → T (plain x) → T (finite x) → Le zero_float x
plain_plus nan p q = absurd p
plain_plus (inf s) p q = absurd q
plain_plus (fin true m e) p q = absurd p
plain_plus (fin false m e) p q = record { first = tt; second = tt; cross = omega arith }

pub square_is : (x : Float) → T (finite x) → x ⊗ x ≡ round binary64 false (num x * num x) (den x * den x)
unfolding mul
square_is nan p = absurd p
square_is (inf s) p = absurd p
square_is (fin true m e) p = refl
square_is (fin false m e) p = refl

pub square_plus : (x : Float) → T (finite x) → T (finite (x ⊗ x)) → Le zero_float (x ⊗ x)
square_plus x p f = plain_plus (x ⊗ x) (subst (λ (z : Float). T (plain z)) (sym (square_is x p)) (round_plain binary64 (num x * num x) (den x * den x))) f

-- ---- a sum of four squares is no less than each
pub record Squares (x y z w S : Float) : Type 0 where
  pub of_x : Le (x ⊗ x) S
  pub of_y : Le (y ⊗ y) S
  pub of_z : Le (z ⊗ z) S
  pub of_w : Le (w ⊗ w) S

pub squares : (x y z w : Float) → T (finite x) → T (finite y) → T (finite z) → T (finite w) → T (finite (x ⊗ x ⊕ y ⊗ y ⊕ z ⊗ z ⊕ w ⊗ w))
    → Squares x y z w (x ⊗ x ⊕ y ⊗ y ⊕ z ⊗ z ⊕ w ⊗ w)
squares x y z w px py pz pw f =
    let f3 = terms_finite (x ⊗ x ⊕ y ⊗ y ⊕ z ⊗ z) (w ⊗ w) f in
    let f2 = terms_finite (x ⊗ x ⊕ y ⊗ y) (z ⊗ z) f3.0 in
    let f1 = terms_finite (x ⊗ x) (y ⊗ y) f2.0 in
    let two = grown (x ⊗ x) (y ⊗ y) (mul-fits binary64 x x) (mul-fits binary64 y y) (square_plus x px f1.0) (square_plus y py f1.1) f2.0 in
    let three = grown (x ⊗ x ⊕ y ⊗ y) (z ⊗ z) (add-fits binary64 (x ⊗ x) (y ⊗ y)) (mul-fits binary64 z z) two.plus (square_plus z pz f2.1) f3.0 in
    let four = grown (x ⊗ x ⊕ y ⊗ y ⊕ z ⊗ z) (w ⊗ w) (add-fits binary64 (x ⊗ x ⊕ y ⊗ y) (z ⊗ z)) (mul-fits binary64 w w) three.plus
    (square_plus w pw f3.1) f in
    record {
      of_x = Le-trans two.left (Le-trans three.left four.left);
      of_y = Le-trans two.right (Le-trans three.left four.left);
      of_z = Le-trans three.right four.left;
      of_w = four.right;
    }

-- ---- a product
-- what is not negative and has a minus sign is a zero
pub minus_zero : (m : ℕ) (e : ℤ) → Le zero_float (fin true m e) → m * up e ≡ 0
minus_zero m e h = let k = h.cross in omega arith

zero_plus : (s : Bool) (a c : ℕ) → 0 < c → a ≡ 0 → Le zero_float (round binary64 s a c)
zero_plus s a c C z = unstrip_Le_r (round binary64 s a c) (subst (λ (y : Float). Le zero_float y) (sym (round_zero binary64 s a c C z)) (Le-refl zero_float tt))

pub mul_plus : {x y : Float} → Le zero_float x → Le zero_float y → T (finite (x ⊗ y)) → Le zero_float (x ⊗ y)
unfolding mul
mul_plus {x = nan} {y} h k f = absurd h.second
mul_plus {x = inf s} {y} h k f = absurd h.second
mul_plus {x = fin s m e} {y = nan} h k f = absurd k.second
mul_plus {x = fin s m e} {y = inf t} h k f = absurd k.second
mul_plus {x = fin false m e} {y = fin false n d} h k f = plain_plus _ (round_plain binary64 (m * up e * (n * up d)) (down e * down d)) f
mul_plus {x = fin true m e} {y = fin t n d} h k f =
    zero_plus (unlike true t) (m * up e * (n * up d)) (down e * down d) (mul-pos (down_pos e) (down_pos d))
    (ap (λ (z : ℕ). z * (n * up d)) (minus_zero m e h) ∙ zero-mul (n * up d))
mul_plus {x = fin false m e} {y = fin true n d} h k f =
    zero_plus (unlike false true) (m * up e * (n * up d)) (down e * down d) (mul-pos (down_pos e) (down_pos d))
    (ap (λ (z : ℕ). m * up e * z) (minus_zero n d k) ∙ mul-zero (m * up e))
