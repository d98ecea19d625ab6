-- The degree falls: a trimmed polynomial is no longer, its derivative is one coefficient shorter.
-- So any count as large as the number of coefficients gives the same roots,
-- and each way through `roots-at` is an equation without the count.
use Prim.Native.Nat.{ℕ, zero, suc, ◌-◌, ◌≤◌, ◌<◌, zero-le, suc-le-suc}
use Rattle.std.proofs.Common.{le_refl, le_trans, le_of_suc-le-suc, eq-zero-or-pos, not-suc-le-zero, arith, ◌∙◌, inl, inr}
use Rattle.std.specs.Prelude.{◌≡◌, Bool, true, false, cond, length, get_or, Float}
use Rattle.std.proofs.Math.Path.{refl, ap, sym}
use mathlib.Core.List.{List, [], ◌∷◌}
use Rattle.polynomial.specs.Compensated.{is_zero}
use Rattle.polynomial.specs.Polynomial.{zero_pair, kept, trim, all_finite, powered, derivative}
use Rattle.polynomial.specs.Roots.{partitions, quotient, by_count, roots_at, roots}
use Rattle.polynomial.specs.Promises.Inside.{found}
use Rattle.polynomial.specs.declared.compensated.Compensated.{Compensated}

-- ---- lengths

kept_short : (c : Compensated) (l : List Compensated) → length (kept c l) ≤ suc (length l)
unfolding kept
kept_short c [] = go (is_zero c)
  where
    go : (b : Bool) → length (cond b [] (c ∷ [])) ≤ 1
    go true = zero-le
    go false = le_refl 1
kept_short c (d ∷ ds) = le_refl (suc (suc (length ds)))

pub trim_short : (p : List Compensated) → length (trim p) ≤ length p
unfolding trim
trim_short [] = zero-le
trim_short (c ∷ cs) = le_trans (kept_short c (trim cs)) (suc-le-suc (trim_short cs))

powered_length : (i : ℕ) (p : List Compensated) → length (powered i p) ≡ length p
unfolding powered
powered_length i [] = refl
powered_length i (c ∷ cs) = ap suc (powered_length (suc i) cs)

pub derivative_length : (p : List Compensated) → length (derivative p) ≡ length p - 1
unfolding derivative
derivative_length [] = refl
derivative_length (c ∷ cs) = let e = powered_length 1 cs in omega arith

-- the number of coefficients, or 0 where a part is not finite
abbrev pub counted : List Compensated → ℕ
counted p = cond (all_finite p) (length p) 0

pub counted_short : (p : List Compensated) → counted p ≤ length p
counted_short p = go (all_finite p)
  where
    go : (b : Bool) → cond b (length p) 0 ≤ length p
    go true = le_refl (length p)
    go false = zero-le

-- ---- the ways of `by_count`

module _ (p : List Compensated) (lower upper : Float) where
  count_same : (m : ℕ) (a b : Unit {0} → List Float) → a tt ≡ b tt → by_count m p lower upper a ≡ by_count m p lower upper b
  unfolding by_count
  count_same zero a b e = refl
  count_same (suc zero) a b e = refl
  count_same (suc (suc zero)) a b e = refl
  count_same (suc (suc (suc m))) a b e = ap (λ (l : List Float). found p (partitions lower upper l)) e

  pub count_low : (m : ℕ) (a : Unit {0} → List Float) → m < 2 → by_count m p lower upper a ≡ []
  unfolding by_count
  count_low zero a h = refl
  count_low (suc zero) a h = refl
  count_low (suc (suc m)) a h = absurd (not-suc-le-zero (le_of_suc-le-suc (le_of_suc-le-suc h)))

  count_two : (a : Unit {0} → List Float) → by_count 2 p lower upper a ≡ quotient (get_or p 0 zero_pair) (get_or p 1 zero_pair) lower upper
  unfolding by_count
  count_two a = refl

  count_high : (m : ℕ) (a : Unit {0} → List Float) → 2 < m → by_count m p lower upper a ≡ found p (partitions lower upper (a tt))
  unfolding by_count
  count_high zero a h = absurd (not-suc-le-zero h)
  count_high (suc zero) a h = absurd (not-suc-le-zero (le_of_suc-le-suc h))
  count_high (suc (suc zero)) a h = absurd (not-suc-le-zero (le_of_suc-le-suc (le_of_suc-le-suc h)))
  count_high (suc (suc (suc m))) a h = refl

-- ---- a larger count changes nothing

module _ (lower upper : Float) where
  none_of_none : (k : ℕ) (p : List Compensated) → length p ≤ 0 → roots_at k p lower upper ≡ []
  unfolding roots_at by_count trim all_finite
  none_of_none zero p h = refl
  none_of_none (suc k) [] h = refl
  none_of_none (suc k) (c ∷ cs) h = absurd (not-suc-le-zero h)

  pub enough : (n k : ℕ) (p : List Compensated) → length p ≤ n → length p ≤ k → roots_at n p lower upper ≡ roots_at k p lower upper
  unfolding roots_at
  enough zero zero p h g = refl
  enough zero (suc k) p h g = sym (none_of_none (suc k) p h)
  enough (suc n) zero p h g = none_of_none (suc n) p g
  enough (suc n) (suc k) p h g =
      let q = trim p in
      let t = trim_short p in
      let d = derivative_length q in
      count_same q lower upper (counted q) (λ _. roots_at n (derivative q) lower upper) (λ _. roots_at k (derivative q) lower upper)
      (enough n k (derivative q) (omega arith) (omega arith))

  pub roots_enough : (n : ℕ) (p : List Compensated) → length p ≤ n → roots_at n p lower upper ≡ roots p lower upper
  unfolding roots
  roots_enough n p h = enough n (length p) p h (le_refl (length p))

-- ---- each way through `roots-at`: q is the trimmed polynomial, and m of its coefficients count

module _ (n m : ℕ) (p q : List Compensated) (lower upper : Float) (e : q ≡ trim p) (M : counted q ≡ m) (h : length p ≤ n) where
  one_degree : (k : ℕ) → n ≡ suc k → roots_at n p lower upper ≡ by_count m q lower upper (λ _. roots_at k (derivative q) lower upper)
  unfolding roots_at
  one_degree k s =
      ap (λ (j : ℕ). roots_at j p lower upper) s
      ∙ ap (λ (l : List Compensated). by_count (counted l) l lower upper (λ _. roots_at k (derivative l) lower upper)) (sym e)
      ∙ ap (λ (j : ℕ). by_count j q lower upper (λ _. roots_at k (derivative q) lower upper)) M

  fewer : m ≤ n
  fewer = let t = trim_short p in let l = ap length e in let c = counted_short q in omega arith

  -- a constant, or a part that is not finite
  pub none_left : m < 2 → roots_at n p lower upper ≡ []
  none_left s = elim (eq-zero-or-pos n) [
    | inl z ↦ none_of_none lower upper n p (omega arith)
    | inr z ↦ one_degree (n - 1) (omega arith)
        ∙ count_low q lower upper m (λ _. roots_at (n - 1) (derivative q) lower upper) s
  ]

  -- two coefficients: the root of a line is a quotient
  pub two_left : m ≡ 2 → roots_at n p lower upper ≡ quotient (get_or q 0 zero_pair) (get_or q 1 zero_pair) lower upper
  two_left s =
      let f = fewer in
      one_degree (n - 1) (omega arith)
      ∙ ap (λ (j : ℕ). by_count j q lower upper (λ _. roots_at (n - 1) (derivative q) lower upper)) s
      ∙ count_two q lower upper (λ _. roots_at (n - 1) (derivative q) lower upper)

  -- by the partitions of the derivative's roots
  pub more_left : length q ≡ m → 2 < m → roots_at n p lower upper ≡ found q (partitions lower upper (roots_at (m - 1) (derivative q) lower upper))
  more_left l s =
      let f = fewer in
      let d = derivative_length q in
      one_degree (n - 1) (omega arith)
      ∙ count_high q lower upper m (λ _. roots_at (n - 1) (derivative q) lower upper) s
      ∙ ap (λ (l : List Float). found q (partitions lower upper l)) (enough lower upper (n - 1) (m - 1) (derivative q) (omega arith) (omega arith))
