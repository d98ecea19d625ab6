-- `crossings` in steps, by the radius and phase of a first harmonic: what inner functions promise one another, so that a
-- harmonic with many targets has them worked out once. Nothing that a public contract of an upper crate says.
use Rattle.std.specs.Prelude.{Bool, not, ◌&&◌, Float}
use Rattle.std.specs.Float.Ieee.{neg, eq, lt}
use Rattle.std.specs.Float.Ieee.Scale.{finite}
use Rattle.float.specs.Number.{◌⊕◌, ◌⊖◌, ◌⊘◌, abs, clamp, zero_float}
use Rattle.float.specs.Trig.{acos}
use Rattle.polynomial.specs.Angle.{wrapped_angle}
use Rattle.sampling.specs.Continuum.{error}
use Rattle.sampling.specs.declared.continuum.Trig.{Trig}

-- whether t, of this radius, equals the target anywhere
unfoldable pub meets : Trig → Float → Float → Bool
meets t radius target =
    let constant = t.constant ⊖ target in
    finite radius && finite constant && not (eq radius zero_float) && not (lt (radius ⊕ error t target) (abs constant))

-- the wrapped angles on both sides of the phase
unfoldable pub around : Trig → Float → Float → Float → Float × Float
around t radius phase target =
    let offset = acos (clamp (neg (t.constant ⊖ target) ⊘ radius)) in
    (wrapped_angle (phase ⊖ offset), wrapped_angle (phase ⊕ offset))
