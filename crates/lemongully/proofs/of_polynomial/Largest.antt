-- The operation's number is at most 2 ^ 9 - 3 in magnitude, since there are at most nine coefficients.
use Rattle.std.proofs.Common.{ℕ, ◌+◌, ◌%◌, ◌≤◌, zero-le, arith, ◌≡◌, refl, sym, Bool, true, false, cond, ◌&&◌, ◌||◌, List, [], ◌∷◌, length}
use mathlib.Core.Bool.{false≢true}
use Rattle.std.proofs.Common.{◌<◌, ◌^◌, IfOk}
use lib.IntN.{nat_abs}
use lib.Dec.{ltb, leb, eqb, lit≤}
use lib.Ieee.{Float}
use borrow.Author.Tests.{ltb-false}
use Rattle.polynomial.specs.Roots.{roots}
use Rattle.polynomial.specs.Operation.{pairs, bad_length, bounds_hold, parts_hold, number, answer}
use Rattle.polynomial.specs.Laws.Enclosed.{all_most}
use Rattle.std.specs.Prelude.{Result, Ok, Err}
use Rattle.polynomial.specs.declared.refusals.Refusal.{Refusal}
use Rattle.polynomial.specs.declared.refusals.Refusal.TheVariants.{BadLength, BadBounds, BadPart, ShortResult}

or_right : (a b : Bool) → a || b ≡ false → b ≡ false
or_right true b e = absurd (false≢true (sym e))
or_right false b e = e

pairs_short : (s : List Float) → length (pairs s) + length (pairs s) ≤ length s
unfolding pairs
pairs_short [] = zero-le
pairs_short (h ∷ []) = zero-le
pairs_short (h ∷ (l ∷ r)) = let k = pairs_short r in omega arith

abbrev Few : Result ℕ Refusal → Type 0
Few a = nat_abs (number a) ≤ 509

cond_few : (b : Bool) (x y : Result ℕ Refusal) → (b ≡ true → Few x) → (b ≡ false → Few y) → Few (cond b x y)
cond_few true x y f g = f refl
cond_few false x y f g = g refl

module _ (s : List Float) (lower upper : Float) (room bytes : ℕ) where
  few_roots : bad_length s ≡ false → length (roots (pairs s) lower upper) ≤ 509
  few_roots h =
      let l = ltb-false 18 (length s) (or_right (eqb (length s % 2) 1) (ltb 18 (length s)) h) in
      let k = pairs_short s in
      all_most lower upper 9 (pairs s) (omega arith)

  pub answer_few : Few (answer s lower upper room bytes)
  unfolding answer
  answer_few =
      cond_few (bad_length s) (Err BadLength) _ (λ _. lit≤ tt) (λ h.
      cond_few (bounds_hold lower upper) _ (Err BadBounds) (λ _.
      cond_few (parts_hold s) _ (Err BadPart) (λ _.
      cond_few (leb (length (roots (pairs s) lower upper)) room && leb (length (roots (pairs s) lower upper)) bytes)
      (Ok (length (roots (pairs s) lower upper))) (Err ShortResult)
      (λ _. few_roots h) (λ _. lit≤ tt))
      (λ _. lit≤ tt))
      (λ _. lit≤ tt))

small_number : (a : Result ℕ Refusal) → Few a → IfOk a (λ n. n < 2 ^ 63)
small_number (Ok n) h = omega arith
small_number (Err k) h = tt

pub small_roots : (s : List Float) (lower upper : Float) (room bytes : ℕ) (a : Result ℕ Refusal) → a ≡ answer s lower upper room bytes
    → IfOk a (λ n. n < 2 ^ 63)
small_roots s lower upper room bytes a e = small_number a (rw e (answer_few s lower upper room bytes))
