-- The numbers of module 4's answers, each by its place: a float by its bits. Definitions only.
use Rattle.std.specs.Prelude.{Ok, Err, None, Some, ℕ, ◌-◌, Bool, true, false, cond, eqb, ltb, Float}
use Rattle.std.specs.Float.{binary64}
use Rattle.std.specs.Float.Ieee.{to_bits, of_bits}
use Rattle.sampling.specs.Constraints.{compute_center}
use Rattle.sampling.specs.Intervals.{Range, wrist_limit_intervals}
use Rattle.sampling.specs.Limits as Limits
use Rattle.sampling.specs.Pose.{Normalized, try_normalize, from_quat}
use Rattle.sampling.specs.declared.constraints.Center.{Center}
use Rattle.sampling.specs.declared.intervals.Intervals.{Intervals}
use Rattle.sampling.specs.declared.job.Joint.{Joint}
use Rattle.sampling.specs.declared.pose.Quaternion.{Quaternion}
use Rattle.sampling.specs.declared.pose.Vector.{Vector}
use Rattle.sampling.specs.declared.pose.Matrix.{Matrix}
use Rattle.sampling.specs.declared.pose.Degenerate.TheVariants.{NotFinite, Zero}

-- whether a number is not 0
unfoldable pub yes : ℕ → Bool
yes n = cond (eqb n 0) false true

-- 0 the centre, else the tolerance
unfoldable pub of_center : Center → ℕ → ℕ
of_center c part = cond (eqb part 0) (to_bits binary64 c.center) (to_bits binary64 c.tolerance)

-- 0 for no interval; else 1 at 0, the lower end at 1, and else the upper end
unfoldable pub of_ends : Float → Float → ℕ → ℕ
of_ends lower upper part = cond (eqb part 0) 1 (cond (eqb part 1) (to_bits binary64 lower) (to_bits binary64 upper))

unfoldable pub of_range : Range → ℕ → ℕ
of_range None part = 0
of_range (Some (lower, upper)) part = of_ends lower upper part

-- the first at 0, the second at 1, else the third
unfoldable pub one_of : Intervals → ℕ → Range
one_of i which = cond (eqb which 0) i.first (cond (eqb which 1) i.second i.third)

-- x at 0, y at 1, else z
unfoldable pub of_vector : Vector → ℕ → Float
of_vector v at = cond (eqb at 0) v.x (cond (eqb at 1) v.y v.z)

-- the parts of the columns, one column after the other
unfoldable pub of_matrix : Matrix → ℕ → Float
of_matrix m at = cond (ltb at 3) (of_vector m.x at) (cond (ltb at 6) (of_vector m.y (at - 3)) (of_vector m.z (at - 6)))

-- x at 1, y at 2, z at 3, else w
unfoldable pub of_quaternion : Quaternion → ℕ → Float
of_quaternion q at = cond (eqb at 1) q.x (cond (eqb at 2) q.y (cond (eqb at 3) q.z q.w))

-- 2 at 0, the quaternion's parts at 1 to 4, those of its matrix at 5 to 13, else 0
unfoldable pub of_unit : Quaternion → ℕ → ℕ
of_unit q part =
    cond (eqb part 0) 2
    (cond (ltb part 5) (to_bits binary64 (of_quaternion q part))
    (cond (ltb part 14) (to_bits binary64 (of_matrix (from_quat q) (part - 5))) 0))

-- 1 at 0, else 0
unfoldable pub of_zero : ℕ → ℕ
of_zero part = cond (eqb part 0) 1 0

unfoldable pub of_pose : Normalized → ℕ → ℕ
of_pose (Err NotFinite) part = 0
of_pose (Err Zero) part = of_zero part
of_pose (Ok q) part = of_unit q part

-- what the floats of these bits make
abbrev pub joint : ℕ → ℕ → ℕ → ℕ → ℕ → Joint
joint sign offset reference from to =
    record {
      sign = of_bits binary64 sign;
      offset = of_bits binary64 offset;
      reference = of_bits binary64 reference;
      from = of_bits binary64 from;
      to = of_bits binary64 to;
    }

abbrev pub range : ℕ → ℕ → Center
range center tolerance = record { center = of_bits binary64 center; tolerance = of_bits binary64 tolerance }

abbrev pub quaternion : ℕ → ℕ → ℕ → ℕ → Quaternion
quaternion x y z w = record { x = of_bits binary64 x; y = of_bits binary64 y; z = of_bits binary64 z; w = of_bits binary64 w }

-- the four functions
unfoldable pub center : Float → Float → ℕ → ℕ
center from to part = of_center (compute_center from to) part

unfoldable pub limits : ℕ → Joint → ℕ → ℕ
limits limited j part = of_range (Limits.limits (yes limited) j) part

unfoldable pub interval : Center → Float → Float → ℕ → ℕ → ℕ
interval c reference sign which part = of_range (one_of (wrist_limit_intervals c reference sign) which) part

unfoldable pub pose : Quaternion → ℕ → ℕ
pose q part = of_pose (try_normalize q) part
