-- The continuous interval of a joint's model angle: `limits` of j1j2free.rs (01, module 4). Definitions only.
use Rattle.std.specs.Prelude.{None, Some, Bool, not, ◌||◌, cond, Float}
use Rattle.std.specs.Float.Ieee.{lt, is_nan}
use Rattle.std.specs.Float.Ieee.Scale.{finite}
use Rattle.float.specs.Number.{◌⊕◌, ◌⊖◌, ◌⊗◌, minimum, zero_float}
use Rattle.float.specs.Trig.{P}
use Rattle.polynomial.specs.Angle.{wrapped_angle}
use Rattle.sampling.specs.Constraints.{compute_center}
use Rattle.sampling.specs.declared.constraints.Center.{Center}
use Rattle.sampling.specs.declared.job.Joint.{Joint}
use Rattle.sampling.specs.Intervals.{Range}

-- the centre and the tolerance: of the limits where they are present, else the reference and P
unfoldable pub centered : Bool → Joint → Center
centered limited j = cond limited (compute_center j.from j.to) (record { center = j.reference; tolerance = P })

-- The interval of the model angle around a centre: none for limits that admit no angle, a whole turn at most. The offset is not wrapped.
unfoldable pub limits_of : Center → Float → Float → Range
limits_of c sign offset =
    let center = wrapped_angle (wrapped_angle c.center ⊗ sign ⊖ offset) in
    let half_width = minimum c.tolerance P in
    cond (is_nan c.tolerance || lt c.tolerance zero_float || not (finite c.center)) None
    (Some (center ⊖ half_width, center ⊕ half_width))

unfoldable pub limits : Bool → Joint → Range
limits limited j = limits_of (centered limited j) j.sign j.offset
