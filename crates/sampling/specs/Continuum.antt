-- First harmonics of a free model angle, shared by joints 1 and 2: continuum.rs of the Rust up to its boundary lines (01, module 5). Definitions only.
-- With joint 1 or joint 2 free, every entry of the wrist's rotation is a cos(t) + b sin(t) + c, so the angles
-- where a wrist joint meets a limit have a formula. Between two neighbouring ones no wrist angle enters or
-- leaves its range: samples there miss no range, however narrow, where a grid would.
use Rattle.std.specs.Prelude.{Option, None, Some, false, not, ◌||◌, cond, List, [], ◌∷◌, negsuc, Float}
use Rattle.std.specs.Float.{fin}
use Rattle.std.specs.Float.Ieee.{neg, eq, lt}
use Rattle.std.specs.Float.Ieee.Scale.{finite}
use Rattle.float.specs.Number.{◌⊕◌, ◌⊖◌, ◌⊗◌, ◌⊘◌, abs, clamp, zero_float}
use Rattle.float.specs.Trig.{hypot, atan2, acos, sin_cos}
use Rattle.polynomial.specs.Angle.{wrapped_angle}
use Rattle.sampling.specs.Pose as Pose
use Rattle.sampling.specs.declared.pose.Vector.{Vector}
use Rattle.sampling.specs.declared.continuum.Trig.{Trig}
use Rattle.sampling.specs.declared.continuum.TrigVector.{TrigVector}

unfoldable pub scaled : Trig → Float → Trig
scaled t factor = record { cosine = t.cosine ⊗ factor; sine = t.sine ⊗ factor; constant = t.constant ⊗ factor }

unfoldable pub plus : Trig → Trig → Trig
plus t u = record { cosine = t.cosine ⊕ u.cosine; sine = t.sine ⊕ u.sine; constant = t.constant ⊕ u.constant }

-- the vector projected onto a fixed one
unfoldable pub dot : TrigVector → Vector → Trig
dot t v = record { cosine = Pose.dot t.cosine v; sine = Pose.dot t.sine v; constant = Pose.dot t.constant v }

-- 64 ε: how far rounding carries a root, relative to what it is computed from
abbrev pub root_roundoff : Float
root_roundoff = fin false 1 (negsuc 45)

-- how far beyond the radius rounding may have carried a constant that touches it
unfoldable pub error : Trig → Float → Float
error t target = root_roundoff ⊗ (abs t.cosine ⊕ abs t.sine ⊕ abs t.constant ⊕ abs target)

-- Where t equals the target: the wrapped angles on both sides of the phase. A t without radius is the same
-- at every angle: it places no boundary, and the others sample its whole interval.
unfoldable pub crossings : Trig → Float → Option (Float × Float)
crossings t target =
    let radius = hypot t.cosine t.sine in
    let constant = t.constant ⊖ target in
    let phase = atan2 t.sine t.cosine in
    let offset = acos (clamp (neg constant ⊘ radius)) in
    cond (not (finite radius) || not (finite constant) || eq radius zero_float || lt (radius ⊕ error t target) (abs constant)) None
    (Some (wrapped_angle (phase ⊖ offset), wrapped_angle (phase ⊕ offset)))

abbrev pub listed : Option (Float × Float) → List Float
listed None = []
listed (Some (a, b)) = a ∷ (b ∷ [])

unfoldable pub roots : Trig → Float → List Float
roots t target = listed (crossings t target)

-- the polynomial that is zero where the vector (x, y) lies on the boundary line of an angle
unfoldable pub line : Trig → Trig → Float → Trig
line x y angle = plus (scaled y (sin_cos angle).cosine) (scaled x (neg (sin_cos angle).sine))

-- Angles where (x, y) lies on that line, in either direction: the opposite one is the same wrist with joint 5 flipped.
unfoldable pub ray_roots : Trig → Trig → Float → List Float
ray_roots x y angle = roots (line x y angle) zero_float
