-- Two free joints: `search` of j1j2free.rs up to its last dedup, whose list is kind 3 (01, module 6). Definitions only.
use Rattle.std.specs.Prelude.{None, Some, ℕ, ◌+◌, Bool, cond, List, [], ◌∷◌, ◌++◌, length, Float}
use Rattle.float.specs.Number.{◌⊖◌, ◌⊗◌, middle}
use Rattle.polynomial.specs.Angle.{wrapped_angle}
use Rattle.polynomial.specs.Cuts.{cuts}
use Rattle.polynomial.specs.declared.curve.Curve.{Curve}
use Rattle.sampling.specs.Limits.{limits}
use Rattle.sampling.specs.Samples.{all_copies}
use Rattle.sampling.specs.Boundaries.{wrist_limits, boundaries}
use Rattle.sampling.specs.BendSlices.{bend_slices}
use Rattle.sampling.specs.CriticalSlices.{chart, critical}
use Rattle.sampling.specs.Slices.{slices}
use Rattle.sampling.specs.declared.job.Job.{Job}
use Rattle.sampling.specs.declared.job.Joint.{Joint}
use Rattle.sampling.specs.declared.j1j2free.Folded.{Folded}
use Rattle.sampling.specs.Intervals.{Range}

-- joint 1's reference as a model angle; neither it nor the offset is wrapped first
unfoldable pub model_reference : Joint → Float
model_reference j = wrapped_angle (j.reference ⊗ j.sign ⊖ j.offset)

-- the limits of joint 6; a fixed one is not read
unfoldable pub sixth_limits : Bool → Bool → Joint → Range
sixth_limits fixed limited j = cond fixed None (wrist_limits limited j)

-- What counts of a job whose joints 1 and 2 are free.
unfoldable pub folded : Job → Folded
folded job =
    record {
      matrix = job.matrix;
      q3 = job.arm.q3;
      reference = model_reference job.j1;
      range1 = limits job.limited job.j1;
      range2 = limits job.limited job.j2;
      range4 = wrist_limits job.limited job.j4;
      range5 = wrist_limits job.limited job.j5;
      range6 = sixth_limits job.fixed job.limited job.j6;
    }

unfoldable pub curves : Folded → List Curve
curves t = boundaries t.matrix t.q3 t.range2 t.range4 t.range5 t.range6

unfoldable pub bends : Folded → List Float
bends t = bend_slices t.matrix t.q3 t.range2 t.range4 t.range5 t.range6

-- `critical_slices`: the ends and what the curves give between them
unfoldable pub critical_slices : List Curve → Float → Float → List Float
critical_slices l lower upper = cuts ((lower ∷ [] ++ upper ∷ []) ++ critical (chart lower upper) l)

-- The cuts of one half: with the bends, each also a turn below and a turn above, where it lies in the half. What the curves give stays, in the half or not.
unfoldable pub half_cuts : Folded → Float → Float → List Float
half_cuts t lower upper = cuts (critical_slices (curves t) lower upper ++ all_copies lower upper (bends t))

-- two halves with a common end
unfoldable pub first_half : Folded → Float → Float → List Float
first_half t lower upper = half_cuts t lower (middle lower upper)

unfoldable pub second_half : Folded → Float → Float → List Float
second_half t lower upper = half_cuts t (middle lower upper) upper

-- what an interval gives by its ends, or what stands for none
abbrev pub on_interval : {A : Type 0} → Range → A → (Float → Float → A) → A
on_interval None none some = none
on_interval (Some (lower, upper)) none some = some lower upper

-- both halves' lists, lengths added
unfoldable pub cut_count : Folded → ℕ
cut_count t = on_interval t.range1 0 (λ lower upper. length (first_half t lower upper) + length (second_half t lower upper))

-- The list after the last dedup, of both halves' cuts and the middles of neighbours; none where joint 1 has no interval, not even the reference.
unfoldable pub all_slices : Folded → List Float
all_slices t = on_interval t.range1 [] (λ lower upper. slices t.reference lower upper (first_half t lower upper) (second_half t lower upper))
