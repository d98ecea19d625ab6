-- The number that C gets of an operation's answer, by the numbers of its refusals. Definitions only.
use Rattle.std.specs.Prelude.{ℕ, ℤ, pos, neg_ℤ, Result, Ok, Err}

-- the count, or minus the refusal's number
abbrev pub signed : {E : Type 0} → (E → ℕ) → Result ℕ E → ℤ
signed number (Ok n) = pos n
signed number (Err k) = neg_ℤ (pos (number k))
