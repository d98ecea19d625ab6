-- The slices of narrow bends: `bend_slices` of j1j2free.rs (01, module 6). Definitions only.
-- Near a pole the cosine of joint 5 differs from ±1 by less than the rounding of the matrix, so its curve loses the bend. The slices are found again
-- from sines, across the arm: where joint 5's end meets an end of joint 4, 6 or 2, and where the component across is largest.
use Rattle.std.specs.Prelude.{None, Some, ◌&&◌, cond, List, [], ◌∷◌, ◌++◌, Float}
use Rattle.std.specs.Float.Ieee.{neg, lt, le}
use Rattle.float.specs.Number.{◌⊕◌, ◌⊖◌, ◌⊗◌, ◌⊘◌, abs, clamp, zero_float, one_float}
use Rattle.float.specs.Trig.{P, sin_cos, hypot, atan2, asin}
use Rattle.float.specs.declared.trig.SinCos.{SinCos}
use Rattle.polynomial.specs.Angle.{wrapped_angle}
use Rattle.polynomial.specs.Curve.{squared_norm_roots}
use Rattle.polynomial.specs.declared.curve.Harmonic.{Harmonic}
use Rattle.sampling.specs.Continuum.{root_roundoff}
use Rattle.sampling.specs.Boundaries.{across}
use Rattle.sampling.specs.declared.pose.Vector.{Vector}
use Rattle.sampling.specs.declared.pose.Matrix.{Matrix}
use Rattle.sampling.specs.Pose as Pose
use Rattle.sampling.specs.Intervals.{Range}

-- z is the target's third column, s5 the sine of joint 5 at an end of its limits.

-- Where the transverse component has a value: two angles of joint 1, if the column leaves the
-- axis and the value is within its radius. The azimuth is that of the column.
unfoldable pub transverse : Float → Float → Float → List Float
transverse radius azimuth component =
    let offset = asin (clamp (component ⊘ radius)) in
    cond (lt zero_float radius && le (abs component) (radius ⊗ (one_float ⊕ root_roundoff)))
    (wrapped_angle (azimuth ⊖ offset) ∷ [] ++ wrapped_angle (azimuth ⊖ P ⊕ offset) ∷ [])
    []

-- joint 4 at both ends of its limits
unfoldable pub transverse_range : Float → Float → Float → Range → List Float
transverse_range radius azimuth extreme None = []
transverse_range radius azimuth extreme (Some (lower, upper)) =
    transverse radius azimuth (extreme ⊗ (sin_cos lower).sine) ++ transverse radius azimuth (extreme ⊗ (sin_cos upper).sine)

-- the largest component in either direction, then joint 4's limits
unfoldable pub transverses : Vector → Float → Range → List Float
transverses z s5 range4 =
    let norm = Pose.vector_length z in
    let radius = hypot z.x z.y in
    let azimuth = atan2 z.y z.x in
    (transverse radius azimuth (neg norm ⊗ s5) ++ transverse radius azimuth (norm ⊗ s5)) ++ transverse_range radius azimuth (norm ⊗ s5) range4

-- where joints 5 and 6 are known, the arm's axis in the target's columns
unfoldable pub arm_axis : Matrix → SinCos → SinCos → Vector
arm_axis m q5 q6 =
    Pose.plus (Pose.plus (Pose.times m.x (neg q5.sine ⊗ q6.cosine)) (Pose.times m.y (q5.sine ⊗ q6.sine))) (Pose.times m.z q5.cosine)

-- joint 1 toward that axis or away from it
unfoldable pub axis_angles : Vector → List Float
axis_angles v = let angle = atan2 v.y v.x in angle ∷ [] ++ wrapped_angle (angle ⊕ P) ∷ []

unfoldable pub axes_range : Matrix → SinCos → Range → List Float
axes_range m q5 None = []
axes_range m q5 (Some (lower, upper)) = axis_angles (arm_axis m q5 (sin_cos lower)) ++ axis_angles (arm_axis m q5 (sin_cos upper))

-- x of joint 4's vector, whose y is `across z`, where joints 2 and 3 together are at an angle
unfoldable pub fold : Vector → Float → Harmonic
fold z angle = record { constant = neg z.z ⊗ (sin_cos angle).sine; cosine = z.x ⊗ (sin_cos angle).cosine; sine = z.y ⊗ (sin_cos angle).cosine }

-- joint 2 at an angle: where that vector is as long as joint 5's bend makes it
unfoldable pub folds : Vector → Float → Float → Float → List Float
folds z q3 s5 angle2 = squared_norm_roots (fold z (angle2 ⊕ q3)) (across z) (Pose.vector_length z ⊗ abs s5)

unfoldable pub folds_range : Vector → Float → Float → Range → List Float
folds_range z q3 s5 None = []
folds_range z q3 s5 (Some (lower, upper)) = folds z q3 s5 lower ++ folds z q3 s5 upper

-- one end of joint 5's limits: 128 angles at most
unfoldable pub bend_slice : Matrix → Float → Range → Range → Range → Float → List Float
bend_slice m q3 range2 range4 range6 angle5 =
    let q5 = sin_cos angle5 in
    (transverses m.z q5.sine range4 ++ axes_range m q5 range6) ++ folds_range m.z q3 q5.sine range2

-- both ends of joint 5's limits
unfoldable pub bend_slices : Matrix → Float → Range → Range → Range → Range → List Float
bend_slices m q3 range2 range4 None range6 = []
bend_slices m q3 range2 range4 (Some (lower, upper)) range6 = bend_slice m q3 range2 range4 range6 lower ++ bend_slice m q3 range2 range4 range6 upper
