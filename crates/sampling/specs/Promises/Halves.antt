-- What the functions that put both halves' cuts into the lent work slice say of each half. Nothing that a public contract of an upper crate says.
use Rattle.std.specs.Prelude.{Option, Some, None, ℕ, List, [], ◌∷◌, ◌++◌, Float}
use Rattle.polynomial.specs.declared.curve.Curve.{Curve}
use Rattle.sampling.specs.Samples.{all_copies}
use Rattle.sampling.specs.CriticalSlices.{chart, critical}
use Rattle.sampling.specs.declared.lists.Plan.{Plan}
use Rattle.sampling.specs.declared.lists.Plan.TheVariants.{Halves}

-- the values whose cuts a half's list is
abbrev pub half_values : List Curve → List Float → Float → Float → List Float
half_values curves bends lower upper = ((lower ∷ [] ++ upper ∷ []) ++ critical (chart lower upper) curves) ++ all_copies lower upper bends

-- where the second list starts
abbrev pub start : Option ℕ → ℕ → ℕ
start (Some n) end = n
start None end = end

-- both lists, if there are places for both
abbrev pub both : Float → Option ℕ → Option ℕ → Option Plan
both r (Some a) (Some b) = Some (Halves (record { reference = r; first = a; second = b }))
both r (Some a) None = None
both r None p = None
