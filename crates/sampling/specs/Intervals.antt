-- Allowed displacements from a reference, bounded to the nearest full turn: `wrist_limit_intervals` of the Rust
-- (01, module 4). A limit interval is either none or a pair of angles. Definitions only.
use Rattle.std.specs.Prelude.{Option, None, Some, ◌&&◌, cond, Float}
use Rattle.std.specs.Float.Ieee.{le, neg}
use Rattle.std.specs.Float.Ieee.Scale.{finite}
use Rattle.float.specs.Number.{◌⊕◌, ◌⊖◌, ◌⊗◌, minimum, maximum, zero_float}
use Rattle.float.specs.Trig.{P}
use Rattle.polynomial.specs.Angle.{two_pi, wrapped_angle}
use Rattle.sampling.specs.declared.constraints.Center.{Center}
use Rattle.sampling.specs.declared.intervals.Intervals.{Intervals}

-- none, or a pair of angles
abbrev pub Range : Type 0
Range = Option (Float × Float)

-- the centre seen from the reference; a tolerance of P or more, the infinite one included, is the whole turn
unfoldable pub seen : Center → Float → Float → Center
seen c reference sign =
    cond (le P c.tolerance)
    (record { center = zero_float; tolerance = P })
    (record { center = wrapped_angle (sign ⊗ (wrapped_angle c.center ⊖ reference)); tolerance = c.tolerance })

-- the copy of the range that is shifted by a turn, cut off at -P and P
unfoldable pub interval : Center → Float → Range
interval c shift =
    let lower = maximum (c.center ⊕ shift ⊖ c.tolerance) (neg P) in
    let upper = minimum (c.center ⊕ shift ⊕ c.tolerance) P in
    cond (finite c.center && le zero_float c.tolerance && le lower upper) (Some (lower, upper)) None

-- a circular range may cross the ±P cut, so its neighbouring copies are included
unfoldable pub wrist_limit_intervals : Center → Float → Float → Intervals
wrist_limit_intervals c reference sign =
    let s = seen c reference sign in
    record { first = interval s (neg two_pi); second = interval s zero_float; third = interval s two_pi }
