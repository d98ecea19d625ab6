-- The angles of a wrist joint that bound the free joint's samples: its reference and, with limits, their
-- centre and ends; from `sample_angles` of continuum.rs (01, module 5). Definitions only.
use Rattle.std.specs.Prelude.{option_and_then, None, Some, Bool, ◌&&◌, cond, Float}
use Rattle.std.specs.Float.Ieee.{le, lt}
use Rattle.std.specs.Float.Ieee.Scale.{finite}
use Rattle.float.specs.Number.{◌⊕◌, ◌⊖◌, ◌⊗◌, zero_float}
use Rattle.float.specs.Trig.{P}
use Rattle.polynomial.specs.Angle.{wrapped_angle}
use Rattle.sampling.specs.Constraints.{compute_center}
use Rattle.sampling.specs.declared.job.Joint.{Joint}
use Rattle.sampling.specs.declared.marks.Marks.{Marks}
use Rattle.sampling.specs.Intervals.{Range}

-- an angle of a joint as a model angle; the offset is wrapped here
unfoldable pub model_angle : Float → Float → Float → Float
model_angle sign offset angle = wrapped_angle (wrapped_angle angle ⊗ sign ⊖ wrapped_angle offset)

-- The ends of limits: none where the tolerance leaves no angle out (P or more, infinity included) or
-- admits none (a NaN). They are not wrapped: only their sines and cosines count.
unfoldable pub ends : Float → Float → Range
ends center tolerance =
    cond (finite tolerance && le zero_float tolerance && lt tolerance P) (Some (center ⊖ tolerance, center ⊕ tolerance)) None

-- their ends, if there are limits and these have any
abbrev pub range : Marks → Range
range m = option_and_then (λ l. l.range) m.limits

-- The reference and the centre bound no range, but solutions are ranked by their distance to them: the angles that bring the wrist there are tried too.
unfoldable pub marks : Bool → Joint → Marks
marks limited j =
    let reference = model_angle j.sign j.offset j.reference in
    let center = model_angle j.sign j.offset (compute_center j.from j.to).center in
    record {
      reference = reference;
      limits = cond limited (Some (record { center = center; range = ends center (compute_center j.from j.to).tolerance })) None;
    }
