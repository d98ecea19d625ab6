-- `sum` of `lib.Ieee` of equal fractions; and what `combine` gives is it.
use Rattle.std.proofs.Common.{◌≡◌, ℕ, suc, ◌+◌, ◌-◌, ◌*◌, ◌%◌, ◌^◌, ◌<◌, ◌≤◌, Bool, true, false, ◌⊎◌, sym, refl, ap, ◌∙◌, subst, inl, inr, le_of_eq}
use Rattle.std.proofs.Common.{lt_of_lt_of_le, lt_of_le_of_lt, mul_comm, add-mul, lt_of_mul-lt-mul_right, mul-lt-mul_of_pos_right, arith, pow_pos}
use mathlib.Core.Bool.{beq}
use Prim.Native.Nat.{compare, Ordering}
use native.Mathlib.Nat.{mul-sub}
use lib.Ieee.{Float, binary64, round, sum}
use lib.Ieee.Scale.{round_same}
use Rattle.float.specs.Laws.Zero.{sum_same_sign, sum_less, sum_more, sum_none}
use Rattle.float.specs.Promises.Jam.{jam}
use Rattle.float.specs.Promises.Parts.{Combines}
use Rattle.float.specs.Laws.Near.{Cmp, cmp}
use Rattle.float.proofs.mul_add.Aligned.{jam_add, more_is, jam_more, less_is, jam_less, none_is, whole_add, whole_more, whole_less}
use Rattle.float.proofs.mul_add.Finished.{finished}

-- ---- equal fractions
module _ (a b c a' b' c' : ℕ) (C : 0 < c) (C' : 0 < c') (p : a * c' ≡ a' * c) (q : b * c' ≡ b' * c) where
  less_too : a < b → a' < b'
  less_too h = lt_of_mul-lt-mul_right c (lt_of_le_of_lt (le_of_eq (sym p)) (lt_of_lt_of_le (mul-lt-mul_of_pos_right h C') (le_of_eq q)))

  diff_too : (b - a) * c' ≡ (b' - a') * c
  diff_too = sub_mul b a c' ∙ ap (λ (x : ℕ). x - a * c') q ∙ ap (λ (x : ℕ). b' * c - x) p ∙ sym (sub_mul b' a' c)
    where
      sub_mul : (m n k : ℕ) → (m - n) * k ≡ m * k - n * k
      sub_mul m n k = mul_comm (m - n) k ∙ mul-sub k m n ∙ ap (λ (x : ℕ). x - k * n) (mul_comm k m) ∙ ap (λ (x : ℕ). m * k - x) (mul_comm k n)

  sum_too : (a + b) * c' ≡ (a' + b') * c
  sum_too = add-mul a b c' ∙ ap (λ (x : ℕ). x + b * c') p ∙ ap (λ (x : ℕ). a' * c + x) q ∙ sym (add-mul a' b' c)

pub sum_same : (s : Bool) (a : ℕ) (t : Bool) (b c a' b' c' : ℕ) → 0 < c → 0 < c' → a * c' ≡ a' * c → b * c' ≡ b' * c
    → sum binary64 s a t b c ≡ sum binary64 s a' t b' c'
sum_same s a t b c a' b' c' C C' p q = go (beq s t) refl
  where
    same : a ≡ b → a' ≡ b'
    same h = native.Mathlib.Nat.eq_of_mul-eq-mul_right c C a' b' (sym p ∙ ap (λ (x : ℕ). x * c') h ∙ q)

    apart : (o : Ordering) → Cmp o a b → beq s t ≡ false → sum binary64 s a t b c ≡ sum binary64 s a' t b' c'
    apart Ordering.lt h e = sum_less s a t b c e h ∙ round_same binary64 t (b - a) c (b' - a') c' C C' (diff_too a b c a' b' c' C C' p q)
        ∙ sym (sum_less s a' t b' c' e (less_too a b c a' b' c' C C' p q h))
    apart Ordering.eq h e = sum_none s a t b c C e h ∙ sym (sum_none s a' t b' c' C' e (same h))
    apart Ordering.gt h e = sum_more s a t b c e h ∙ round_same binary64 s (a - b) c (a' - b') c' C C' (diff_too b a c b' a' c' C C' q p)
        ∙ sym (sum_more s a' t b' c' e (less_too b a c b' a' c' C C' q p h))

    go : (z : Bool) → beq s t ≡ z → sum binary64 s a t b c ≡ sum binary64 s a' t b' c'
    go true e = sum_same_sign s a t b c e ∙ round_same binary64 s (a + b) c (a' + b') c' C C' (sum_too a b c a' b' c' C C' p q)
        ∙ sym (sum_same_sign s a' t b' c' e)
    go false e = apart (compare a b) (cmp a b) e

-- ---- what `combine` gives: X at the place f + d, and Y at the place f, cut to X's place
module _ (s : Bool) (X : ℕ) (t : Bool) (Y W y d f c : ℕ) (v : Float) (C : Combines s X t W y v) (x : ℕ) (even : X ≡ 2 * x) (cut : W ≡ jam Y d)
    (place : c + y ≡ f + d + 1149)
    (safe : (Y % 2 ^ suc d ≡ 0) ⊎ ((y ≤ 64) ⊎ (W + 2 ^ 64 ≤ X))) where
  abbrev goal : Float
  goal = sum binary64 s (X * 2 ^ d * 2 ^ f) t (Y * 2 ^ f) (2 ^ c)

  -- the exact number is a factor of 2 ^ f less
  times : (a b : ℕ) → a < b → a * 2 ^ f < b * 2 ^ f
  times a b h = mul-lt-mul_of_pos_right h (pow_pos f)

  minus : (a b : ℕ) → (a - b) * 2 ^ f ≡ a * 2 ^ f - b * 2 ^ f
  minus m n = mul_comm (m - n) (2 ^ f) ∙ mul-sub (2 ^ f) m n ∙ ap (λ (z : ℕ). z - 2 ^ f * n) (mul_comm (2 ^ f) m)
      ∙ ap (λ (z : ℕ). m * 2 ^ f - z) (mul_comm (2 ^ f) n)

  safe_in : (D S : ℕ) → (Y % 2 ^ suc d ≡ 0 → S % 2 ^ suc d ≡ 0) → (W + 2 ^ 64 ≤ X → 2 ^ 64 ≤ D) → (S % 2 ^ suc d ≡ 0) ⊎ ((y ≤ 64) ⊎ (2 ^ 64 ≤ D))
  safe_in D S h k = go safe
    where
      go : (Y % 2 ^ suc d ≡ 0) ⊎ ((y ≤ 64) ⊎ (W + 2 ^ 64 ≤ X)) → (S % 2 ^ suc d ≡ 0) ⊎ ((y ≤ 64) ⊎ (2 ^ 64 ≤ D))
      go (inl z) = inl (h z)
      go (inr (inl l)) = inr (inl l)
      go (inr (inr l)) = inr (inr (k l))

  same_sign : beq s t ≡ true → v ≡ goal
  same_sign e =
      finished s (X + W) y v (C.same e) (X * 2 ^ d + Y) d f c (ap (λ (z : ℕ). X + z) cut ∙ jam_add X x Y d even) place
      (safe_in (X + W) (X * 2 ^ d + Y) (λ z. whole_add X x Y d even z) (λ l. omega arith))
      ∙ ap (λ (z : ℕ). round binary64 s z (2 ^ c)) (add-mul (X * 2 ^ d) Y (2 ^ f))
      ∙ sym (sum_same_sign s (X * 2 ^ d * 2 ^ f) t (Y * 2 ^ f) (2 ^ c) e)

  more : beq s t ≡ false → W < X → v ≡ goal
  more e h =
      let g : jam Y d < X = subst (λ (z : ℕ). z < X) cut h in
      finished s (X - W) y v (C.more e h) (X * 2 ^ d - Y) d f c (ap (λ (z : ℕ). X - z) cut ∙ jam_more X x Y d even g) place
      (safe_in (X - W) (X * 2 ^ d - Y) (λ z. whole_more X x Y d even z g) (λ l. omega arith))
      ∙ ap (λ (z : ℕ). round binary64 s z (2 ^ c)) (minus (X * 2 ^ d) Y)
      ∙ sym (sum_more s (X * 2 ^ d * 2 ^ f) t (Y * 2 ^ f) (2 ^ c) e (times Y (X * 2 ^ d) (more_is X x Y d even g)))

  less : beq s t ≡ false → X < W → v ≡ goal
  less e h =
      let g : X < jam Y d = subst (λ (z : ℕ). X < z) cut h in
      finished t (W - X) y v (C.less e h) (Y - X * 2 ^ d) d f c (ap (λ (z : ℕ). z - X) cut ∙ jam_less X x Y d even g) place
      (safe_in (W - X) (Y - X * 2 ^ d) (λ z. whole_less X x Y d even z g) (λ l. omega arith))
      ∙ ap (λ (z : ℕ). round binary64 t z (2 ^ c)) (minus Y (X * 2 ^ d))
      ∙ sym (sum_less s (X * 2 ^ d * 2 ^ f) t (Y * 2 ^ f) (2 ^ c) e (times (X * 2 ^ d) Y (less_is X x Y d even g)))

  none : beq s t ≡ false → X ≡ W → v ≡ goal
  none e h =
      C.none e h
      ∙ sym (sum_none s (X * 2 ^ d * 2 ^ f) t (Y * 2 ^ f) (2 ^ c) (pow_pos c) e (ap (λ (z : ℕ). z * 2 ^ f) (none_is X x Y d even (h ∙ cut))))

  pub combined : v ≡ goal
  combined = go (beq s t) refl
    where
      apart : (o : Ordering) → Cmp o X W → beq s t ≡ false → v ≡ goal
      apart Ordering.lt h e = less e h
      apart Ordering.eq h e = none e h
      apart Ordering.gt h e = more e h

      go : (z : Bool) → beq s t ≡ z → v ≡ goal
      go true e = same_sign e
      go false e = apart (compare X W) (cmp X W) e
