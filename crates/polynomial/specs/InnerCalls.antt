-- Inner calls of the root finder: what 01's refusal 9 asked of each, until 02's change 5 took it out, and what is proved of each. No function promises any
-- of it. Definitions only.
use Rattle.std.specs.Prelude.{◌≤◌, Bool, true, false, ◌&&◌, List, [], ◌∷◌, T, length, Float, ℕ, Result, Ok, Err}
use Rattle.std.specs.Float.Ieee.{neg, lt, le}
use Rattle.float.specs.Number.{abs, middle, zero_float, one_float}
use Rattle.float.specs.Trig.{P, four_float}
use Rattle.polynomial.specs.Roots.{roots}
use Rattle.polynomial.specs.Operation.{largest_part, answer}
use Rattle.polynomial.specs.Curve.{norm_polynomial}
use Rattle.polynomial.specs.Promises.Lists.{All}
use Rattle.polynomial.specs.declared.compensated.Compensated.{Compensated}
use Rattle.polynomial.specs.declared.curve.Harmonic.{Harmonic}
use Rattle.polynomial.specs.declared.refusals.Refusal.{Refusal}

pub record Call : Type 0 where
  pub coefficients : List Compensated
  pub lower : Float
  pub upper : Float

-- coefficients as the operation Roots takes them: the high part of each, then its low part
unfoldable pub parts : List Compensated → List Float
parts [] = []
parts (c ∷ cs) = c.high ∷ c.low ∷ parts cs

-- 9: Roots, lent 509 places of each slice, answers no count
abbrev pub counts : Result ℕ Refusal → Bool
counts (Ok n) = true
counts (Err k) = false

unfoldable pub taken : Call → Bool
taken c = counts (answer (parts c.coefficients) c.lower c.upper 509 509)

unfoldable pub all_taken : List Call → Bool
all_taken [] = true
all_taken (c ∷ cs) = taken c && all_taken cs

-- what is proved: the bounds are within ±4 and in order, at most nine coefficients have finite parts under 2^400 in magnitude, and 509 places hold the list
pub record Fair (c : Call) : Type 0 where
  pub lower_within : T (le (abs c.lower) four_float)
  pub upper_within : T (le (abs c.upper) four_float)
  pub order : T (le c.lower c.upper)
  pub few : length c.coefficients ≤ 9
  pub sizes : All (λ x. T (lt (abs x) largest_part)) (parts c.coefficients)
  pub places : length (roots c.coefficients c.lower c.upper) ≤ 509

-- the two calls of a squared norm, one for each half of the turn
abbrev pub half_call : Harmonic → Harmonic → Float → Float → Float → Call
half_call x y norm lower upper = record { coefficients = norm_polynomial x y norm (middle lower upper); lower = neg one_float; upper = one_float }

unfoldable pub norm_calls : Harmonic → Harmonic → Float → List Call
norm_calls x y norm = half_call x y norm (neg P) zero_float ∷ half_call x y norm zero_float P ∷ []
