-- The range reduction of `sin-cos`: for |x| ≤ 32 and k the greatest whole number not above x·I
-- + 0.5, r = (x − k·H) − k·L has |r| ≤ 203/256 < 0.793, and |k| ≤ 20.
-- For each k the values x that have it lie in an interval around k·H, since x·I + 0.5 grows with x; on that interval r grows with x, so its two ends bound it.
-- All 41 intervals are tested by one computation, `table`.
use Rattle.std.specs.Prelude.{◌≡◌, ℕ, zero, suc, ◌+◌, ◌-◌, ◌*◌, ◌^◌, ◌<◌, ◌≤◌, Bool, true, false, cond, not, ◌&&◌, T, List, [], ◌∷◌, ℤ, pos, negsuc}
use Rattle.std.specs.Prelude.{neg_ℤ, nat_le, refl, Float}
use Rattle.std.proofs.Common.{sym, ap, ◌∙◌, subst, le_of_suc-le-suc, eq-or-lt_of_le, arith, inl, inr}
use Rattle.std.proofs.Math.IntN.{suc_ℤ}
use Rattle.std.specs.Int.Signed.{mag}
use lib.Dec.{T_not}
use Rattle.std.specs.Float.{fin, binary64}
use Rattle.std.specs.Float.Ieee.{neg, add, sub, mul, lt, le, of_int}
use Rattle.std.specs.Float.Ieee.Bits.{is_true}
use Rattle.std.specs.Float.Ieee.Fits.{and_l, and_r}
use Rattle.std.specs.Float.Ieee.Scale.{finite}
use Rattle.std.specs.Float.Ieee.Positive.{num}
use Rattle.float.specs.Number.{◌⊕◌, ◌⊗◌, floor, floor_i64, zero_float, end_float}
use Rattle.float.specs.Trig.{I, H, L, half, widest, quarters, reduced}
use Rattle.float.specs.Laws.Floor.{Floor, int, floor_is}
use Rattle.float.specs.Laws.Range.{nlt→Le}
use Rattle.float.specs.Promises.Order.{Le}
use Rattle.float.specs.Laws.Le.{le→Le, Le→le, neg_finite, add_mono, mul_mono_by}
use Rattle.float.specs.Promises.Order.{Within}
use Rattle.float.specs.Laws.Within.{add_within, mul_within, numeral, Le→within}
use Rattle.float.specs.Laws.Interval.{Le-refl, Le-trans, Le-total, In, in_self, in_wider, add_in, sub_in, mul_in_by, within_in}

-- ---- the bound on |r|, and half the width of an interval
abbrev pub R : Float
R = fin false 203 (negsuc 7)

abbrev margin : Float
margin = fin false 101 (negsuc 6)

-- x·I + 0.5
abbrev pub quad : Float → Float
quad x = x ⊗ I ⊕ half

-- ---- many tests at once
abbrev allb : List Bool → Bool
allb [] = true
allb (c ∷ cs) = c && allb cs

abbrev All : List Bool → Type 0
All [] = Unit {0}
All (c ∷ cs) = T c × All cs

all→ : (cs : List Bool) → T (allb cs) → All cs
all→ [] t = tt
all→ (c ∷ cs) t = (and_l c (allb cs) t, all→ cs (and_r c (allb cs) t))

-- ---- the test for one k: below a the whole number k is not reached, from b on the next one is, and r at a and at b is within R
abbrev tests : ℤ → List Bool
tests k =
    let KH = mul binary64 (of_int binary64 k) H in
    let KL = mul binary64 (of_int binary64 k) L in
    let a = sub binary64 KH margin in
    let b = add binary64 KH margin in
    finite KH ∷ finite KL ∷ finite a ∷ finite b ∷ finite (mul binary64 a I) ∷ finite (mul binary64 b I) ∷ finite (quad a) ∷ finite (quad b)
    ∷ not (le (int k) (quad a)) ∷ le (int (suc_ℤ k)) (quad b) ∷ finite (int (suc_ℤ k))
    ∷ (finite (sub binary64 a KH) && finite (sub binary64 b KH)) ∷ (finite (reduced k a) && finite (reduced k b)) ∷ le (neg R) (reduced k a) ∷ le
    (reduced k b) R ∷ []

abbrev test : ℤ → Bool
test k = allb (tests k)

-- x·I + 0.5 grows with x
quad_mono : {x y : Float} → T (finite (mul binary64 x I)) → T (finite (mul binary64 y I)) → Le x y → T (le (quad x) (quad y))
quad_mono {x} {y} p q h = add_mono binary64 (le→Le (mul binary64 x I) (mul binary64 y I) p q (mul_mono_by binary64 I tt tt h)) (Le-refl half tt)

test_sound : (k : ℤ) (x : Float) → T (test k) → T (finite x) → T (finite (mul binary64 x I)) → T (finite (quad x)) → Floor (quad x) k → Within R (reduced k x)
test_sound k x t p p1 p2 fl =
    let KH = mul binary64 (of_int binary64 k) H in
    let KL = mul binary64 (of_int binary64 k) L in
    let a = sub binary64 KH margin in
    let b = add binary64 KH margin in
    let c = all→ (tests k) t in
    let c4 = c.1.1.1.1 in
    let c8 = c4.1.1.1.1 in
    let above : Le a x = elim (Le-total x a p c.1.1.0) [
      | inl h ↦ absurd (T_not (le (int k) (quad a)) c8.0 (Le→le
          (Le-trans fl.reached (le→Le (quad x) (quad a) p2 c4.1.1.0 (quad_mono p1 c4.0 h)))))
      | inr h ↦ h
    ] in
    let under : Le x b = elim (Le-total b x c.1.1.1.0 p) [
      | inl h ↦ absurd (fl.last (Le-trans (le→Le (int (suc_ℤ k)) (quad b) c8.1.1.0 c4.1.1.1.0 c8.1.0)
          (le→Le (quad b) (quad x) c4.1.1.1.0 p2 (quad_mono c4.1.0 p1 h))))
      | inr h ↦ h
    ] in
    let first : In (sub binary64 a KH) (sub binary64 b KH) (sub binary64 x KH) = sub_in binary64 c8.1.1.1.0
    (record { lower = above; upper = under }) (in_self KH c.0) in
    let both : In (reduced k a) (reduced k b) (reduced k x) = sub_in binary64 c8.1.1.1.1.0 first (in_self KL c.1.0) in
    let fa = and_l (finite (reduced k a)) (finite (reduced k b)) c8.1.1.1.1.0 in
    let fb = and_r (finite (reduced k a)) (finite (reduced k b)) c8.1.1.1.1.0 in
    Le→within tt (Le-trans both.upper (le→Le (reduced k b) R fb tt c8.1.1.1.1.1.1.0))
    (Le-trans (le→Le (neg R) (reduced k a) (neg_finite R tt) fa c8.1.1.1.1.1.0) both.lower)

-- ---- |k| ≤ 20
-- x·I + 0.5 for |x| ≤ 32 lies between -159/8 and 167/8
quad_in : (x : Float) → Within widest x → In (fin true 159 (negsuc 2)) (fin false 167 (negsuc 2)) (quad x)
unfolding neg add mul le
quad_in x h = in_wider (fin true 159 (negsuc 2)) (fin false 167 (negsuc 2)) tt
    (add_in binary64 tt (mul_in_by binary64 I tt tt (within_in tt tt h)) (in_self half tt))

few_above : (n : ℕ) (y : Float) → Le (int (pos n)) y → Le y (fin false 167 (negsuc 2)) → n ≤ 20
few_above n y h k = let l = (Le-trans h k).cross in omega arith

few_below : (n : ℕ) (y : Float) → (Le (int (suc_ℤ (negsuc n))) y → ⊥) → Le (fin true 159 (negsuc 2)) y → n ≤ 19
few_below zero y h k = omega arith
few_below (suc n) y h k = go (nat_le n 18) (lib.Dec.leb→le n 18) (lib.Dec.nleb→lt n 18)
  where
    go : (b : Bool) → (T b → n ≤ 18) → (T (not b) → 18 < n) → suc n ≤ 19
    go true a b = let l : n ≤ 18 = a tt in omega arith
    go false a b = let l : 18 < n = b tt in absurd (h (Le-trans (record { first = tt; second = tt; cross = omega arith }) k))

-- ---- the 41 tests
abbrev up_to : ℕ → (ℕ → Bool) → Bool
up_to zero p = p zero
up_to (suc n) p = p (suc n) && up_to n p

up_to_sound : (n : ℕ) (p : ℕ → Bool) (m : ℕ) → T (up_to n p) → m ≤ n → T (p m)
up_to_sound zero p m t h = subst (λ (z : ℕ). T (p z)) (sym (lib.Arith.le-zero h)) t
up_to_sound (suc n) p m t h = elim (eq-or-lt_of_le h) [
  | inl e ↦ subst (λ (z : ℕ). T (p z)) (sym e) (and_l (p (suc n)) (up_to n p) t)
  | inr l ↦ up_to_sound n p m (and_r (p (suc n)) (up_to n p) t) (le_of_suc-le-suc l)
]

table_up : T (up_to 20 (λ n. test (pos n)))
unfolding neg add sub mul le of_int
table_up = tt

table_down : T (up_to 19 (λ n. test (negsuc n)))
unfolding neg add sub mul le of_int
table_down = tt

-- ---- the result
pub quad_finite : (x : Float) → Within widest x → T (finite (quad x))
quad_finite x h = (add_within binary64 (fin false 1 (pos 6)) tt (mul_within binary64 widest tt h (numeral (fin false 1 (pos 0)) I tt))
    (numeral half half tt)).real

pub reduce_within : (x : Float) (k : ℤ) → Within widest x → Floor (quad x) k → Within R (reduced k x)
reduce_within x (pos n) h fl =
    test_sound (pos n) x (up_to_sound 20 (λ n. test (pos n)) n table_up (few_above n (quad x) fl.reached (quad_in x h).upper)) h.real
    (mul_within binary64 widest tt h (numeral (fin false 1 (pos 0)) I tt)).real (quad_finite x h) fl
reduce_within x (negsuc n) h fl =
    test_sound (negsuc n) x (up_to_sound 19 (λ n. test (negsuc n)) n table_down (few_below n (quad x) fl.last (quad_in x h).lower)) h.real
    (mul_within binary64 widest tt h (numeral (fin false 1 (pos 0)) I tt)).real (quad_finite x h) fl

-- k itself: at most 20 in magnitude, so 64 bits hold it
pub quarters_few : (x : Float) → Within widest x → mag (quarters x) ≤ 20
quarters_few x h = go (quarters x) (floor_is (quad x) (quad_finite x h))
  where
    go : (k : ℤ) → Floor (quad x) k → mag k ≤ 20
    go (pos n) fl = few_above n (quad x) fl.reached (quad_in x h).upper
    go (negsuc n) fl = let l = few_below n (quad x) fl.last (quad_in x h).lower in omega arith

pub quarters_held : (x : Float) → Within widest x → floor_i64 (quad x) ≡ quarters x
unfolding floor_i64
quarters_held x h =
    ap (λ (b : Bool). cond b (cond (lt (quad x) end_float) (floor (quad x)) (pos (2 ^ 63 - 1)))
    (cond (lt (quad x) zero_float) (neg_ℤ (pos (2 ^ 63))) (pos 0))) above
    ∙ ap (λ (b : Bool). cond b (floor (quad x)) (pos (2 ^ 63 - 1))) (under (lt (quad x) end_float) refl)
  where
    above : le (neg end_float) (quad x) ≡ true
    above = is_true (le (neg end_float) (quad x)) (Le→le (Le-trans (le→Le (neg end_float) (fin true 159 (negsuc 2)) far_finite tt far) (quad_in x h).lower))
      where
        far_finite : T (finite (neg end_float))
        far_finite = neg_finite end_float tt

        far : T (le (neg end_float) (fin true 159 (negsuc 2)))
        far = unfold neg le in tt

    under : (b : Bool) → lt (quad x) end_float ≡ b → lt (quad x) end_float ≡ true
    under true e = e
    under false e = absurd (never (Le-trans (nlt→Le (quad x) end_float (quad_finite x h) tt (subst (λ (b : Bool). T (not b)) (sym e) tt))
        (quad_in x h).upper).cross)
      where
        never : num end_float * 8 + 0 * 1 ≤ 167 * 1 * 1 + 0 * 8 → ⊥
        never l = omega arith
