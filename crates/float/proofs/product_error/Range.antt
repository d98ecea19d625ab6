-- The code's test of an operand's range, turned into what `dekker-is-fused` asks.
use Rattle.std.proofs.Common.{◌≡◌, ℕ, zero, suc, ◌+◌, ◌*◌, ◌<◌, ◌≤◌, Bool, true, false, cond, T, ◌⊎◌, ℤ, negsuc, sym, refl, ap, ◌∙◌, subst, inl, inr}
use Rattle.std.proofs.Common.{zero-le, le_trans, le_of_eq, lt_of_lt_of_le, lt_irrefl, zero-mul, arith, ltb-false, ltb-true}
use mathlib.Core.Bool.{false≢true}
use lib.Ieee.{Float, nan, inf, fin, binary64, up, down, neg, lt, le, eq, fits, of_bits}
use lib.Ieee.Positive.{num, den}
use Rattle.float.specs.Number.{zero_float}
use Rattle.float.specs.Promises.Halves.{most, sized, in_range}
use Rattle.float.specs.Laws.Le.{le→Le, yes_of}
use Rattle.float.specs.Promises.Order.{Within}
use Rattle.float.specs.Laws.Within.{Beyond}
use Rattle.float.specs.Laws.Range.{plain_le, under}
use Rattle.float.specs.Laws.Zero.{zero_bits, zero_of, no_up}
use Rattle.float.proofs.product_error.Bitwise.{Ranged, is_zero}

-- the code's 2 ^ 400
pub most_is : of_bits binary64 0x58f0_0000_0000_0000 ≡ most
unfolding of_bits
most_is = refl

-- 2 ^ -(k + 1)
abbrev low : ℕ → Float
low k = fin false 1 (negsuc k)

over : (k m : ℕ) (e : ℤ) → le (low k) (fin false m e) ≡ true → Beyond (low k) (fin false m e)
over k m e h = record {
  real = tt;
  size = plain_le (num (low k) * down e) (den (low k)) (num (fin false m e) * den (low k)) (down e)
      (le→Le (low k) (fin false m e) tt tt (yes_of h)).cross;
}

none : (s : Bool) (m : ℕ) (e : ℤ) → m ≡ 0 → T (is_zero (fin s m e))
none s m e h = subst (λ (n : ℕ). T (is_zero (fin s n e))) (sym h) tt

abbrev Kind : ℕ → Float → Type 0
Kind k x = Within most x × (T (is_zero x) ⊎ Beyond (low k) x)

sized_is : (k m : ℕ) (e : ℤ) → sized (low k) (fin false m e) ≡ true → Kind k (fin false m e)
unfolding sized
sized_is k m e h = go (le (fin false m e) most) (le (low k) (fin false m e)) refl refl h
  where
    go : (a b : Bool) → le (fin false m e) most ≡ a → le (low k) (fin false m e) ≡ b
        → cond a (cond b true (eq (fin false m e) zero_float)) false ≡ true → Kind k (fin false m e)
    go false b p q h = absurd (false≢true h)
    go true true p q h = (under most m e tt tt p, inr (over k m e q))
    go true false p q h = (under most m e tt tt p, inl (none false m e (zero_of false m e (ap (eq (fin false m e)) zero_bits ∙ h))))

-- minus a magnitude has the same size
negated : (k m : ℕ) (e : ℤ) → Kind k (fin false m e) → Kind k (fin true m e)
negated k m e h = (record { real = tt; size = h.0.size }, side h.1)
  where
    zero_too : (m : ℕ) → T (is_zero (fin false m e)) → T (is_zero (fin true m e))
    zero_too zero t = tt
    zero_too (suc m) t = absurd t

    side : T (is_zero (fin false m e)) ⊎ Beyond (low k) (fin false m e) → T (is_zero (fin true m e)) ⊎ Beyond (low k) (fin true m e)
    side (inl t) = inl (zero_too m t)
    side (inr b) = inr (record { real = tt; size = b.size })

-- a value below zero, and one that is not, by its sign
below_zero : (m : ℕ) (e : ℤ) → lt (fin false m e) zero_float ≡ true → ⊥
unfolding lt
below_zero m e h = lt_irrefl 0 (lt_of_lt_of_le (le_trans_lt (m * up e * 1) (ltb-true (m * up e * 1) (0 * 1 * down e) h)) (le_of_eq (zero-mul (down e))))
  where
    le_trans_lt : (a : ℕ) → a < 0 * 1 * down e → 0 < 0 * 1 * down e
    le_trans_lt a l = omega arith

minus_zero : (m : ℕ) (e : ℤ) → lt (fin true m e) zero_float ≡ false → m ≡ 0
unfolding lt
minus_zero m e h = no_up m e (small (m * up e) (0 * 1 * down e) (ltb-false 0 (m * up e * 1 + 0 * 1 * down e) h))
  where
    small : (a b : ℕ) → a * 1 + b ≤ 0 → a ≡ 0
    small a b l = omega arith

kind : (k : ℕ) (x : Float) → in_range (low k) x ≡ true → Kind k x
unfolding in_range
kind k nan h = absurd (false≢true (sym out_of_range ∙ h))
  where
    out_of_range : cond (lt nan zero_float) (sized (low k) (neg nan)) (sized (low k) nan) ≡ false
    out_of_range = unfold lt le sized neg eq in refl
kind k (inf true) h = absurd (false≢true (sym out_of_range ∙ h))
  where
    out_of_range : cond (lt (inf true) zero_float) (sized (low k) (neg (inf true))) (sized (low k) (inf true)) ≡ false
    out_of_range = unfold lt le sized neg eq in refl
kind k (inf false) h = absurd (false≢true (sym out_of_range ∙ h))
  where
    out_of_range : cond (lt (inf false) zero_float) (sized (low k) (neg (inf false))) (sized (low k) (inf false)) ≡ false
    out_of_range = unfold lt le sized neg eq in refl
kind k (fin true m e) h = go (lt (fin true m e) zero_float) refl h
  where
    minus : neg (fin true m e) ≡ fin false m e
    minus = unfold neg in refl

    go : (b : Bool) → lt (fin true m e) zero_float ≡ b → cond b (sized (low k) (neg (fin true m e))) (sized (low k) (fin true m e)) ≡ true
        → Kind k (fin true m e)
    go true p h = negated k m e (sized_is k m e (ap (sized (low k)) (sym minus) ∙ h))
    go false p h =
        let z = minus_zero m e p in (
          record {
            real = tt;
            size = subst (λ (n : ℕ). n * up e * den most ≤ num most * down e) (sym z)
                (le_trans (le_of_eq (ap (λ (n : ℕ). n * den most) (zero-mul (up e)) ∙ zero-mul (den most))) zero-le);
          },
          inl (none true m e z),
        )
kind k (fin false m e) h = go (lt (fin false m e) zero_float) refl h
  where
    go : (b : Bool) → lt (fin false m e) zero_float ≡ b → cond b (sized (low k) (neg (fin false m e))) (sized (low k) (fin false m e)) ≡ true
        → Kind k (fin false m e)
    go true p h = absurd (below_zero m e p)
    go false p h = sized_is k m e h

pub ranged : (k : ℕ) → suc k ≤ 1000 → (x : Float) → T (fits binary64 x) → in_range (low k) x ≡ true → Ranged k x
ranged k short x t h = let r = kind k x h in record { short = short; ok = t; size = r.0; kind = r.1 }
