-- What 01 says of the operation Roots.
use Rattle.std.specs.Prelude.{ℕ, ◌+◌, ◌-◌, ◌^◌, ◌≤◌, ◌≡◌, refl, ◌⊎◌, true, List, [], ◌∷◌, ℤ, pos, neg_ℤ, T, length, Float, Result, Ok, Err}
use Rattle.std.proofs.Common.{sym, inl, inr}
use Rattle.std.specs.Float.{binary64}
use Rattle.std.specs.Float.Ieee.{le, fits}
use Rattle.float.specs.Laws.Le.{Le→le}
use Rattle.polynomial.specs.Polynomial.{trim}
use Rattle.polynomial.specs.Roots.{roots}
use Rattle.polynomial.specs.Operation.{bounds_hold, answer, number}
use Rattle.polynomial.specs.Promises.Lists.{All}
use Rattle.polynomial.specs.Laws.Bounds.{bounds_span}
use Rattle.polynomial.specs.Laws.Bisection.{Between}
use Rattle.polynomial.specs.Laws.Enclosed.{Rising, all_few, all_in, all_rising}
use Rattle.polynomial.specs.declared.compensated.Compensated.{Compensated}
use Rattle.polynomial.specs.declared.refusals.Refusal.{Refusal}
use Rattle.polynomial.specs.declared.refusals.Refusal.TheVariants.{BadLength, BadBounds, BadPart, ShortResult}

-- ---- the list

-- at most 2 ^ (d + 1) - 3 values, strictly increasing between the bounds, ends allowed
pub record Returned (d : ℕ) (lower upper : Float) (l : List Float) : Type 0 where
  pub few : length l ≤ 2 ^ (d + 1) - 3
  pub rising : Rising l
  pub between : All (λ (x : Float). T (le lower x) × T (le x upper)) l

within : (lower upper : Float) (l : List Float) → All (Between lower upper) l → All (λ (x : Float). T (le lower x) × T (le x upper)) l
within lower upper [] h = tt
within lower upper (x ∷ l) h = ((Le→le h.0.0.lower, Le→le h.0.0.upper), within lower upper l h.1)

-- Between bounds that hold, the list for trimmed degree d ≥ 1 is such.
pub returned : (p : List Compensated) (lower upper : Float) (d : ℕ) → T (fits binary64 lower) → T (fits binary64 upper)
    → bounds_hold lower upper ≡ true → 1 ≤ d → length (trim p) ≡ d + 1 → Returned d lower upper (roots p lower upper)
returned p lower upper d s t h D e =
    let b = bounds_span lower upper s t h in
    record {
      few = rw (sym e) (all_few lower upper p);
      rising = all_rising lower upper b p;
      between = within lower upper (roots p lower upper) (all_in lower upper b p);
    }

-- ---- the answer's number

-- a count, or minus one of 21 to 24
pub record Counted (z : ℤ) : Type 0 where
  pub count : ℕ
  pub is : z ≡ pos count

abbrev pub Listed : ℤ → Type 0
Listed z = Counted z ⊎ ((z ≡ neg_ℤ (pos 21)) ⊎ ((z ≡ neg_ℤ (pos 22)) ⊎ ((z ≡ neg_ℤ (pos 23)) ⊎ (z ≡ neg_ℤ (pos 24)))))

listed : (a : Result ℕ Refusal) → Listed (number a)
listed (Ok n) = inl (record { count = n; is = refl })
listed (Err BadLength) = inr (inl refl)
listed (Err BadBounds) = inr (inr (inl refl))
listed (Err BadPart) = inr (inr (inr (inl refl)))
listed (Err ShortResult) = inr (inr (inr (inr refl)))

-- Every answer of Roots is a count or one of its refusals.
pub roots_answers : (s : List Float) (lower upper : Float) (room bytes : ℕ) → Listed (number (answer s lower upper room bytes))
roots_answers s lower upper room bytes = listed (answer s lower upper room bytes)
