-- The fused product does not see the sign of a zero (`Like`), and minus goes through it (`Opp`).
-- `by-parts-srnd`: of finite values it is one rounded difference.
-- The laws are proved of `by_parts`, another text of it, by the product and then the addend: `mul-add-is` says that the two are one.
use Rattle.std.specs.Prelude.{◌≡◌, ℕ, zero, suc, ◌+◌, ◌*◌, ◌<◌, Bool, true, false, cond, not, T, ◌==◌, refl, Float}
use Rattle.std.proofs.Common.{add-zero, zero-add, add_comm, zero-mul, mul-zero, mul-one, mul-pos, mul_assoc, mul_comm, mul_left_comm, zero-lt-suc, sym}
use Rattle.std.proofs.Common.{ap, ap₂, ◌∙◌}
use Rattle.std.specs.Bool.{beq}
use Rattle.std.specs.Float.{nan, inf, fin, Format}
use Rattle.std.specs.Float.Ieee.{unlike, up, down, neg, sum, add}
use Rattle.std.specs.Float.Ieee.Fits.{down_pos}
use Rattle.std.specs.Float.Ieee.Scale.{round_same, finite}
use Rattle.std.specs.Float.Ieee.Positive.{den}
use Rattle.float.specs.MulAdd.{mul_add}
use Rattle.float.specs.Laws.Sign.{strip, Alike, sum_neg, unlike_l, unlike_r}
use Rattle.float.specs.Promises.Order.{pl, mi}
use Rattle.float.specs.Laws.Le.{srnd, sum_srnd}
use Rattle.float.specs.Laws.Like.{Like, Opp, first_zero, second_zero, from_opp, to_opp, like_trans, like_sym, zero_l, zero_r}

-- ±a / c, exact, plus z
unfoldable pub plus : Format → Bool → ℕ → ℕ → Float → Float
unfolding sum
plus f s a c nan = nan
plus f s a c (inf u) = inf u
plus f s a c (fin u k g) = sum f s (a * down g) u (k * up g * c) (c * down g)

-- an infinite product with the sign s, plus z
unfoldable pub plus_inf : Bool → Float → Float
plus_inf s nan = nan
plus_inf s (inf u) = cond (beq s u) (inf s) nan
plus_inf s (fin u k g) = inf s

unfoldable pub by_parts : Format → Float → Float → Float → Float
unfolding plus plus_inf
by_parts f nan y z = nan
by_parts f (inf s) nan z = nan
by_parts f (inf s) (inf t) z = plus_inf (unlike s t) z
by_parts f (inf s) (fin t n d) z = cond (n == 0) nan (plus_inf (unlike s t) z)
by_parts f (fin s m e) nan z = nan
by_parts f (fin s m e) (inf t) z = cond (m == 0) nan (plus_inf (unlike s t) z)
by_parts f (fin s m e) (fin t n d) z = plus f (unlike s t) (m * up e * (n * up d)) (down e * down d) z

-- ---- it sees the numbers and not the sign of a zero
plus_strip : (f : Format) (s : Bool) (a c : ℕ) (z : Float) → 0 < c → Alike (plus f s a c z) (plus f s a c (strip z))
unfolding plus strip
plus_strip f s a c nan C = refl
plus_strip f s a c (inf u) C = refl
plus_strip f s a c (fin u zero g) C =
    second_zero f s (a * down g) u (0 * up g * c) (c * down g) (mul-pos C (down_pos g)) (zero_l (up g) c)
    ∙ ap strip (round_same f s (a * down g) (c * down g) (a * 1) (c * 1) (mul-pos C (down_pos g)) (mul-pos C (zero-lt-suc 0))
    (simp (mul-one, mul_assoc, mul_comm)))
    ∙ sym (second_zero f s (a * 1) false (0 * 1 * c) (c * 1) (mul-pos C (zero-lt-suc 0)) (zero_l 1 c))
plus_strip f s a c (fin u (suc k) g) C = refl

-- stated by itself: a `simp` inside a clause that matches may be compiled to another proof than the one that the clause is checked against
same_scale : (k u c d c' : ℕ) → k * u * c * (c' * d) ≡ k * u * c' * (c * d)
same_scale k u c d c' = simp (mul_assoc, mul_comm, mul_left_comm)

plus_zero : (f : Format) (s s' : Bool) (a a' c c' : ℕ) (z : Float) → 0 < c → 0 < c' → a ≡ 0 → a' ≡ 0 → Alike (plus f s a c z) (plus f s' a' c' z)
unfolding plus
plus_zero f s s' a a' c c' nan C C' p q = refl
plus_zero f s s' a a' c c' (inf u) C C' p q = refl
plus_zero f s s' a a' c c' (fin u k g) C C' p q =
    first_zero f s (a * down g) u (k * up g * c) (c * down g) (mul-pos C (down_pos g)) (ap (λ (n : ℕ). n * down g) p ∙ zero-mul (down g))
    ∙ ap strip (round_same f u (k * up g * c) (c * down g) (k * up g * c') (c' * down g) (mul-pos C (down_pos g)) (mul-pos C' (down_pos g))
    (same_scale k (up g) c (down g) c'))
    ∙ sym (first_zero f s' (a' * down g) u (k * up g * c') (c' * down g) (mul-pos C' (down_pos g)) (ap (λ (n : ℕ). n * down g) q ∙ zero-mul (down g)))

plus_inf_strip : (s : Bool) (z : Float) → Alike (plus_inf s z) (plus_inf s (strip z))
unfolding plus_inf strip
plus_inf_strip s nan = refl
plus_inf_strip s (inf u) = refl
plus_inf_strip s (fin u zero g) = refl
plus_inf_strip s (fin u (suc k) g) = refl

cond_alike : (b : Bool) (x y : Float) → Alike x y → Alike (cond b nan x) (cond b nan y)
cond_alike true x y h = refl
cond_alike false x y h = h

by_parts_strip : (f : Format) (x y z : Float) → Alike (by_parts f x y z) (by_parts f (strip x) (strip y) (strip z))
unfolding by_parts strip
by_parts_strip f nan y z = refl
by_parts_strip f (inf s) nan z = refl
by_parts_strip f (inf s) (inf t) z = plus_inf_strip (unlike s t) z
by_parts_strip f (inf s) (fin t zero d) z = refl
by_parts_strip f (inf s) (fin t (suc n) d) z = cond_alike (suc n == 0) (plus_inf (unlike s t) z) (plus_inf (unlike s t) (strip z))
    (plus_inf_strip (unlike s t) z)
by_parts_strip f (fin s zero e) nan z = refl
by_parts_strip f (fin s (suc m) e) nan z = refl
by_parts_strip f (fin s zero e) (inf t) z = refl
by_parts_strip f (fin s (suc m) e) (inf t) z = cond_alike (suc m == 0) (plus_inf (unlike s t) z) (plus_inf (unlike s t) (strip z))
    (plus_inf_strip (unlike s t) z)
by_parts_strip f (fin s zero e) (fin t zero d) z =
    plus_zero f (unlike s t) false (0 * up e * (0 * up d)) (0 * 1 * (0 * 1)) (down e * down d) (1 * 1) z (mul-pos (down_pos e) (down_pos d))
    (zero-lt-suc 0) (zero_l (up e) (0 * up d)) refl ∙ plus_strip f false (0 * 1 * (0 * 1)) (1 * 1) z (zero-lt-suc 0)
by_parts_strip f (fin s zero e) (fin t (suc n) d) z =
    plus_zero f (unlike s t) (unlike false t) (0 * up e * (suc n * up d)) (0 * 1 * (suc n * up d)) (down e * down d) (1 * down d) z
    (mul-pos (down_pos e) (down_pos d)) (mul-pos (zero-lt-suc 0) (down_pos d)) (zero_l (up e) (suc n * up d)) (zero_l 1 (suc n * up d))
    ∙ plus_strip f (unlike false t) (0 * 1 * (suc n * up d)) (1 * down d) z (mul-pos (zero-lt-suc 0) (down_pos d))
by_parts_strip f (fin s (suc m) e) (fin t zero d) z =
    plus_zero f (unlike s t) (unlike s false) (suc m * up e * (0 * up d)) (suc m * up e * (0 * 1)) (down e * down d) (down e * 1) z
    (mul-pos (down_pos e) (down_pos d)) (mul-pos (down_pos e) (zero-lt-suc 0)) (zero_r (suc m * up e) (up d)) (zero_r (suc m * up e) 1)
    ∙ plus_strip f (unlike s false) (suc m * up e * (0 * 1)) (down e * 1) z (mul-pos (down_pos e) (zero-lt-suc 0))
by_parts_strip f (fin s (suc m) e) (fin t (suc n) d) z = plus_strip f (unlike s t) (suc m * up e * (suc n * up d)) (down e * down d) z
    (mul-pos (down_pos e) (down_pos d))

pub by_parts_like : (f : Format) {x x' y y' z z' : Float} → Like x x' → Like y y' → Like z z' → Like (by_parts f x y z) (by_parts f x' y' z')
by_parts_like f {x} {x'} {y} {y'} {z} {z'} p q r = record {
  same =
      by_parts_strip f x y z
      ∙ ap (λ (a : Float). strip (by_parts f a (strip y) (strip z))) p.same
      ∙ ap (λ (a : Float). strip (by_parts f (strip x') a (strip z))) q.same
      ∙ ap (λ (a : Float). strip (by_parts f (strip x') (strip y') a)) r.same
      ∙ sym (by_parts_strip f x' y' z');
}

-- ---- minus goes through
plus_neg : (f : Format) (s s' : Bool) (a c : ℕ) (z : Float) → 0 < c → s' ≡ not s → Alike (plus f s' a c (neg z)) (neg (plus f s a c z))
unfolding plus neg
plus_neg f s s' a c nan C h = refl
plus_neg f s s' a c (inf u) C h = refl
plus_neg f s s' a c (fin u k g) C h =
    ap (λ (r : Bool). strip (sum f r (a * down g) (not u) (k * up g * c) (c * down g))) h
    ∙ sum_neg f s (a * down g) u (k * up g * c) (c * down g) (mul-pos C (down_pos g))

plus_inf_neg : (s s' : Bool) (z : Float) → s' ≡ not s → plus_inf s' (neg z) ≡ neg (plus_inf s z)
unfolding plus_inf neg
plus_inf_neg s s' nan h = refl
plus_inf_neg s s' (fin u k g) h = ap inf h
plus_inf_neg s s' (inf u) h = ap (λ (r : Bool). cond (beq r (not u)) (inf r) nan) h ∙ go s u
  where
    go : (s u : Bool) → cond (beq (not s) (not u)) (inf (not s)) nan ≡ neg (cond (beq s u) (inf s) nan)
    go true true = refl
    go true false = refl
    go false true = refl
    go false false = refl

cond_neg : (b : Bool) (x y : Float) → x ≡ neg y → Alike (cond b nan x) (neg (cond b nan y))
unfolding neg
cond_neg true x y h = refl
cond_neg false x y h = ap strip h

by_parts_neg : (f : Format) (x y z : Float) → Alike (by_parts f (neg x) y (neg z)) (neg (by_parts f x y z))
unfolding by_parts neg
by_parts_neg f nan y z = refl
by_parts_neg f (inf s) nan z = refl
by_parts_neg f (inf s) (inf t) z = ap strip (plus_inf_neg (unlike s t) (unlike (not s) t) z (unlike_l s t))
by_parts_neg f (inf s) (fin t n d) z = cond_neg (n == 0) _ _ (plus_inf_neg (unlike s t) (unlike (not s) t) z (unlike_l s t))
by_parts_neg f (fin s m e) nan z = refl
by_parts_neg f (fin s m e) (inf t) z = cond_neg (m == 0) _ _ (plus_inf_neg (unlike s t) (unlike (not s) t) z (unlike_l s t))
by_parts_neg f (fin s m e) (fin t n d) z = plus_neg f (unlike s t) (unlike (not s) t) (m * up e * (n * up d)) (down e * down d) z
    (mul-pos (down_pos e) (down_pos d)) (unlike_l s t)

by_parts_neg_r : (f : Format) (x y z : Float) → Alike (by_parts f x (neg y) (neg z)) (neg (by_parts f x y z))
unfolding by_parts neg
by_parts_neg_r f nan y z = refl
by_parts_neg_r f (inf s) nan z = refl
by_parts_neg_r f (inf s) (inf t) z = ap strip (plus_inf_neg (unlike s t) (unlike s (not t)) z (unlike_r s t))
by_parts_neg_r f (inf s) (fin t n d) z = cond_neg (n == 0) _ _ (plus_inf_neg (unlike s t) (unlike s (not t)) z (unlike_r s t))
by_parts_neg_r f (fin s m e) nan z = refl
by_parts_neg_r f (fin s m e) (inf t) z = cond_neg (m == 0) _ _ (plus_inf_neg (unlike s t) (unlike s (not t)) z (unlike_r s t))
by_parts_neg_r f (fin s m e) (fin t n d) z = plus_neg f (unlike s t) (unlike s (not t)) (m * up e * (n * up d)) (down e * down d) z
    (mul-pos (down_pos e) (down_pos d)) (unlike_r s t)

-- a negated coefficient times an unchanged one, with the product negated
pub by_parts_opp : (f : Format) {x x' y y' z z' : Float} → Opp x x' → Like y y' → Opp z z' → Opp (by_parts f x y z) (by_parts f x' y' z')
by_parts_opp f {x} {y} {z} p q r = to_opp (like_trans (by_parts_like f (from_opp p) (like_sym q) (from_opp r)) (record { same = by_parts_neg f x y z }))

pub by_parts_opp_r : (f : Format) {x x' y y' z z' : Float} → Like x x' → Opp y y' → Opp z z' → Opp (by_parts f x y z) (by_parts f x' y' z')
by_parts_opp_r f {x} {y} {z} p q r = to_opp (like_trans (by_parts_like f (like_sym p) (from_opp q) (from_opp r)) (record { same = by_parts_neg_r f x y z }))

-- ---- the fused product as a rounded difference
prod_plus : (s t : Bool) (M N w : ℕ) → (cond s 0 M * cond t 0 N + cond s M 0 * cond t N 0) * w ≡ cond (unlike s t) 0 (M * N * w)
prod_plus true true M N w = ap (λ (z : ℕ). z * w) (zero-add (M * N))
prod_plus true false M N w = ap (λ (z : ℕ). z * w) (ap₂ (λ (x y : ℕ). x + y) (zero-mul N) (mul-zero M)) ∙ zero-mul w
prod_plus false true M N w = ap (λ (z : ℕ). z * w) (ap₂ (λ (x y : ℕ). x + y) (mul-zero M) (zero-mul N)) ∙ zero-mul w
prod_plus false false M N w = ap (λ (z : ℕ). z * w) (add-zero (M * N))

prod_minus : (s t : Bool) (M N w : ℕ) → (cond s 0 M * cond t N 0 + cond s M 0 * cond t 0 N) * w ≡ cond (unlike s t) (M * N * w) 0
prod_minus true true M N w = ap (λ (z : ℕ). z * w) (ap₂ (λ (x y : ℕ). x + y) (zero-mul N) (mul-zero M)) ∙ zero-mul w
prod_minus true false M N w = ap (λ (z : ℕ). z * w) (zero-add (M * N))
prod_minus false true M N w = ap (λ (z : ℕ). z * w) (add-zero (M * N))
prod_minus false false M N w = ap (λ (z : ℕ). z * w) (ap₂ (λ (x y : ℕ). x + y) (mul-zero M) (zero-mul N)) ∙ zero-mul w

one_plus : (u : Bool) (K c : ℕ) → cond u 0 K * c ≡ cond u 0 (K * c)
one_plus true K c = zero-mul c
one_plus false K c = refl

one_minus : (u : Bool) (K c : ℕ) → cond u K 0 * c ≡ cond u (K * c) 0
one_minus true K c = refl
one_minus false K c = zero-mul c

pl_is : (s : Bool) (m : ℕ) (e : lib.IntN.ℤ) → pl (fin s m e) ≡ cond s 0 (m * up e)
pl_is true m e = refl
pl_is false m e = refl

mi_is : (s : Bool) (m : ℕ) (e : lib.IntN.ℤ) → mi (fin s m e) ≡ cond s (m * up e) 0
mi_is true m e = refl
mi_is false m e = refl

pub by_parts_srnd : (f : Format) (x y z : Float) → T (finite x) → T (finite y) → T (finite z)
    → Alike (by_parts f x y z) (srnd f ((pl x * pl y + mi x * mi y) * den z + pl z * (den x * den y))
    ((pl x * mi y + mi x * pl y) * den z + mi z * (den x * den y)) (den x * den y * den z))
unfolding by_parts
by_parts_srnd f nan y z p q r = absurd p
by_parts_srnd f (inf s) y z p q r = absurd p
by_parts_srnd f (fin s m e) nan z p q r = absurd q
by_parts_srnd f (fin s m e) (inf t) z p q r = absurd q
by_parts_srnd f (fin s m e) (fin t n d) nan p q r = absurd r
by_parts_srnd f (fin s m e) (fin t n d) (inf u) p q r = absurd r
by_parts_srnd f (fin s m e) (fin t n d) (fin u k g) p q r =
    sum_srnd f (unlike s t) (m * up e * (n * up d) * down g) u (k * up g * (down e * down d)) (down e * down d * down g) P N
    (mul-pos (mul-pos (down_pos e) (down_pos d)) (down_pos g)) (ap₂ (λ (x y : ℕ). x + y) is_p (sym is_n) ∙ add_comm _ _)
  where
    X : Float
    X = fin s m e

    Y : Float
    Y = fin t n d

    Z : Float
    Z = fin u k g

    P : ℕ
    P = (pl (fin s m e) * pl (fin t n d) + mi (fin s m e) * mi (fin t n d)) * down g + pl (fin u k g) * (down e * down d)

    N : ℕ
    N = (pl (fin s m e) * mi (fin t n d) + mi (fin s m e) * pl (fin t n d)) * down g + mi (fin u k g) * (down e * down d)

    is_p : (pl (fin s m e) * pl (fin t n d) + mi (fin s m e) * mi (fin t n d)) * down g + pl (fin u k g) * (down e * down d) ≡ cond (unlike s t) 0
        (m * up e * (n * up d) * down g) + cond u 0 (k * up g * (down e * down d))
    is_p =
        ap₂ (λ (x y : ℕ). x + y)
        (ap₂ (λ (x y : ℕ). (x + y) * down g) (ap₂ (λ (x y : ℕ). x * y) (pl_is s m e) (pl_is t n d))
        (ap₂ (λ (x y : ℕ). x * y) (mi_is s m e) (mi_is t n d)) ∙ prod_plus s t (m * up e) (n * up d) (down g))
        (ap (λ (x : ℕ). x * (down e * down d)) (pl_is u k g) ∙ one_plus u (k * up g) (down e * down d))

    is_n : (pl (fin s m e) * mi (fin t n d) + mi (fin s m e) * pl (fin t n d)) * down g + mi (fin u k g) * (down e * down d) ≡ cond (unlike s t)
        (m * up e * (n * up d) * down g) 0 + cond u (k * up g * (down e * down d)) 0
    is_n =
        ap₂ (λ (x y : ℕ). x + y)
        (ap₂ (λ (x y : ℕ). (x + y) * down g) (ap₂ (λ (x y : ℕ). x * y) (pl_is s m e) (mi_is t n d))
        (ap₂ (λ (x y : ℕ). x * y) (mi_is s m e) (pl_is t n d)) ∙ prod_minus s t (m * up e) (n * up d) (down g))
        (ap (λ (x : ℕ). x * (down e * down d)) (mi_is u k g) ∙ one_minus u (k * up g) (down e * down d))

-- ---- the definition's own text
plus_inf_is : (f : Format) (s : Bool) (z : Float) → plus_inf s z ≡ add f (inf s) z
unfolding plus_inf add
plus_inf_is f s nan = refl
plus_inf_is f s (inf u) = refl
plus_inf_is f s (fin u k g) = refl

cond_is : (f : Format) (b s : Bool) (z : Float) → cond b nan (plus_inf s z) ≡ add f (cond b nan (inf s)) z
unfolding add
cond_is f true s z = refl
cond_is f false s z = plus_inf_is f s z

pub mul_add_is : (f : Format) (x y z : Float) → by_parts f x y z ≡ mul_add f x y z
unfolding by_parts mul_add
mul_add_is f nan y z = refl
mul_add_is f (inf s) nan z = refl
mul_add_is f (inf s) (inf t) z = plus_inf_is f (unlike s t) z
mul_add_is f (inf s) (fin t n d) z = cond_is f (n == 0) (unlike s t) z
mul_add_is f (fin s m e) nan z = refl
mul_add_is f (fin s m e) (inf t) z = cond_is f (m == 0) (unlike s t) z
mul_add_is f (fin s m e) (fin t n d) nan = refl
mul_add_is f (fin s m e) (fin t n d) (inf u) = refl
mul_add_is f (fin s m e) (fin t n d) (fin u p g) = refl
