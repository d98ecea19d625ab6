-- The boundary curves of two free joints, in the order in which the Rust pushes them: `boundaries` of j1j2free.rs (01, module 6). Definitions only.
use Rattle.std.specs.Prelude.{None, Some, Bool, not, ◌||◌, cond, List, [], ◌∷◌, ◌++◌, Float}
use Rattle.std.specs.Float.Ieee.{neg, le}
use Rattle.float.specs.Number.{◌⊕◌, ◌⊗◌, zero_float, one_float}
use Rattle.float.specs.Trig.{P, sin_cos}
use Rattle.polynomial.specs.Curve as Harmonics
use Rattle.polynomial.specs.declared.curve.Harmonic.{Harmonic}
use Rattle.polynomial.specs.declared.curve.Curve.{Curve}
use Rattle.sampling.specs.Limits.{centered, limits_of}
use Rattle.sampling.specs.declared.job.Joint.{Joint}
use Rattle.sampling.specs.declared.pose.Vector.{Vector}
use Rattle.sampling.specs.declared.pose.Matrix.{Matrix}
use Rattle.sampling.specs.Intervals.{Range}

-- harmonics of J1: a constant; 0, x, y and 0, y, -x of a column (the Rust's ax, ay, az and yx, yy, yz)
unfoldable pub level : Float → Harmonic
level x = record { constant = x; cosine = zero_float; sine = zero_float }

unfoldable pub along : Vector → Harmonic
along v = record { constant = zero_float; cosine = v.x; sine = v.y }

unfoldable pub across : Vector → Harmonic
across v = record { constant = zero_float; cosine = v.y; sine = neg v.x }

abbrev pub plus : Harmonic → Harmonic → Harmonic
plus = Harmonics.plus

abbrev pub times : Harmonic → Float → Harmonic
times = Harmonics.times

-- A(q1) cos(t) + B(q1) sin(t) + C(q1) = 0
unfoldable pub curve : Harmonic → Harmonic → Harmonic → Curve
curve a b c =
    record {
      a0 = a.constant;
      a1 = a.cosine;
      a2 = a.sine;
      b0 = b.constant;
      b1 = b.cosine;
      b2 = b.sine;
      c0 = c.constant;
      c1 = c.cosine;
      c2 = c.sine;
    }

-- Joint 2 at an angle: what is allowed enters or leaves joint 2's interval only through its
-- ends. The opposite direction is on the curve too; its cuts do no harm.
unfoldable pub second_curve : Float → Float → Curve
second_curve q3 angle = curve (level (neg (sin_cos (angle ⊕ q3)).sine)) (level (sin_cos (angle ⊕ q3)).cosine) (level zero_float)

-- joint 5 at an angle with this cosine
unfoldable pub bend_curve : Vector → Float → Curve
bend_curve z cosine = curve (level z.z) (along z) (level (neg cosine))

-- joint 4 at an angle
unfoldable pub fourth_curve : Vector → Float → Curve
fourth_curve z angle = curve (times (along z) (neg (sin_cos angle).sine)) (level (z.z ⊗ (sin_cos angle).sine)) (times (across z) (sin_cos angle).cosine)

-- joint 5 at an angle
unfoldable pub fifth_curve : Vector → Float → Curve
fifth_curve z angle = bend_curve z (sin_cos angle).cosine

-- joint 6 at an angle
unfoldable pub sixth_curve : Matrix → Float → Curve
sixth_curve m angle =
    curve
    (level (m.y.z ⊗ (sin_cos angle).cosine ⊕ m.x.z ⊗ (sin_cos angle).sine))
    (plus (times (along m.y) (sin_cos angle).cosine) (times (along m.x) (sin_cos angle).sine))
    (level zero_float)

-- At a pole, the sum (sign 1) or the difference (sign −1) of an angle of joint 4 and one of joint 6. Under a vertical target axis
-- a pole lasts along an interval of joint 1; the curves of joints 4 and 6 vanish there and cannot bound it.
unfoldable pub corner_curve : Matrix → Float → Float → Float → Curve
corner_curve m sign q4 q6 =
    let s = (sin_cos (q4 ⊕ sign ⊗ q6)).sine in
    let c = (sin_cos (q4 ⊕ sign ⊗ q6)).cosine in
    curve
    (plus (times (along m.y) (neg c)) (times (along m.x) (neg sign ⊗ s)))
    (level (m.y.z ⊗ c ⊕ sign ⊗ m.x.z ⊗ s))
    (plus (times (across m.x) (sign ⊗ c)) (times (across m.y) (neg s)))

-- The limits of a wrist joint where they are present and leave a part of the turn out: a tolerance of P or more bounds nothing.
unfoldable pub wrist_limits : Bool → Joint → Range
wrist_limits limited j =
    cond (not limited || le P (centered limited j).tolerance) None (limits_of (centered limited j) j.sign j.offset)

-- both ends of a joint's interval
unfoldable pub second_curves : Float → Range → List Curve
second_curves q3 None = []
second_curves q3 (Some (lower, upper)) = second_curve q3 lower ∷ [] ++ second_curve q3 upper ∷ []

-- The poles count without limits too: joints 4 and 6 change their representation there, and their phase is left to the samples of joint 2.
unfoldable pub pole_curves : Vector → List Curve
pole_curves z = bend_curve z (neg one_float) ∷ [] ++ bend_curve z one_float ∷ []

unfoldable pub fourth_curves : Vector → Range → List Curve
fourth_curves z None = []
fourth_curves z (Some (lower, upper)) = fourth_curve z lower ∷ [] ++ fourth_curve z upper ∷ []

unfoldable pub fifth_curves : Vector → Range → List Curve
fifth_curves z None = []
fifth_curves z (Some (lower, upper)) = fifth_curve z lower ∷ [] ++ fifth_curve z upper ∷ []

unfoldable pub sixth_curves : Matrix → Range → List Curve
sixth_curves m None = []
sixth_curves m (Some (lower, upper)) = sixth_curve m lower ∷ [] ++ sixth_curve m upper ∷ []

-- each end a, b of joint 4 with each end c, d of joint 6
unfoldable pub signed_corners : Matrix → Float → Float → Float → Float → Float → List Curve
signed_corners m sign a b c d = ((corner_curve m sign a c ∷ [] ++ corner_curve m sign a d ∷ []) ++ corner_curve m sign b c ∷ []) ++ corner_curve m sign b d ∷ []

unfoldable pub corner_curves : Matrix → Range → Range → List Curve
corner_curves m None r = []
corner_curves m (Some (a, b)) None = []
corner_curves m (Some (a, b)) (Some (c, d)) = signed_corners m (neg one_float) a b c d ++ signed_corners m one_float a b c d

-- Joint 2's interval, the poles, the limits of joints 4, 5 and 6, and the phases at a pole: 18 at most.
unfoldable pub boundaries : Matrix → Float → Range → Range → Range → Range → List Curve
boundaries m q3 range2 range4 range5 range6 =
    ((((second_curves q3 range2 ++ pole_curves m.z) ++ fourth_curves m.z range4) ++ fifth_curves m.z range5) ++ sixth_curves m range6) ++
    corner_curves m range4 range6
