-- The pairs of curves in the Rust's order, by the earlier curve first, and all that was defined by it before 02's change 3: to compare with.
-- `Laws.RustOrder` has the equations. No function promises any of it. Definitions only.
use Rattle.std.specs.Prelude.{ℕ, zero, suc, ◌+◌, length, Float}
use mathlib.Core.List.{List, [], ◌∷◌, ◌++◌, map, flat_map}
use Rattle.float.specs.Number.{middle}
use Rattle.polynomial.specs.Cuts.{cuts}
use Rattle.polynomial.specs.declared.compensated.Compensated.{Compensated}
use Rattle.polynomial.specs.declared.curve.Curve.{Curve}
use Rattle.sampling.specs.Samples.{all_copies}
use Rattle.sampling.specs.CriticalSlices.{Chart, chart, chart_roots, polynomials, tangency, intersection}
use Rattle.sampling.specs.Slices.{slices}
use Rattle.sampling.specs.J1j2free.{folded, curves, bends, on_interval}
use Rattle.sampling.specs.Angles.{first_free, second_free, by_kind}
use Rattle.sampling.specs.declared.j1j2free.Folded.{Folded}
use Rattle.sampling.specs.declared.job.Job.{Job}
use Rattle.sampling.specs.SampleAngles as SampleAngles

-- ---- the order by places

-- (i, i + 1), .., (i, i + m)
unfoldable pub later : ℕ → ℕ → List (ℕ × ℕ)
later i zero = []
later i (suc m) = later i m ++ ((i, i + suc m) ∷ [])

-- of m curves from place i on: each curve's own tangency, then its pairs with the later ones
unfoldable pub from : ℕ → ℕ → List (ℕ × ℕ)
from i zero = []
from i (suc m) = ((i, i) ∷ later i m) ++ from (suc i) m

unfoldable pub order : ℕ → List (ℕ × ℕ)
order n = from 0 n

-- ---- what was defined by it

unfoldable pub calls : Float → List Curve → List (List Compensated)
calls origin [] = []
calls origin (k ∷ later) =
    tangency (polynomials k origin) ∷ (map (λ l. intersection (polynomials k origin) (polynomials l origin)) later ++ calls origin later)

unfoldable pub critical : Chart → List Curve → List Float
critical c curves = flat_map (chart_roots c) (calls c.origin curves)

unfoldable pub critical_slices : List Curve → Float → Float → List Float
critical_slices l lower upper = cuts ((lower ∷ [] ++ upper ∷ []) ++ critical (chart lower upper) l)

unfoldable pub half_cuts : Folded → Float → Float → List Float
half_cuts t lower upper = cuts (critical_slices (curves t) lower upper ++ all_copies lower upper (bends t))

unfoldable pub first_half : Folded → Float → Float → List Float
first_half t lower upper = half_cuts t lower (middle lower upper)

unfoldable pub second_half : Folded → Float → Float → List Float
second_half t lower upper = half_cuts t (middle lower upper) upper

unfoldable pub slices_count : Folded → ℕ
slices_count t = on_interval t.range1 0 (λ lower upper. length (first_half t lower upper) + length (second_half t lower upper))

unfoldable pub all_slices : Folded → List Float
all_slices t = on_interval t.range1 [] (λ lower upper. slices t.reference lower upper (first_half t lower upper) (second_half t lower upper))

-- ---- a job's angles and number of cuts

unfoldable pub angles : Job → List Float
angles job =
    by_kind job.kind
    (SampleAngles.sample_angles (first_free job))
    (SampleAngles.sample_angles (second_free job))
    (all_slices (folded job))

unfoldable pub cut_count : Job → ℕ
cut_count job = by_kind job.kind (SampleAngles.cut_count (first_free job)) (SampleAngles.cut_count (second_free job)) (slices_count (folded job))
