-- The job that a request's fields say, every field as given, none blanked. Definitions only.
use Rattle.std.specs.Prelude.{Ok, Err, ℕ, ◌+◌, List, Bool, false, cond, get_or, eqb, Float, Option, Some, None}
use Rattle.std.specs.Float.Ieee.{neg}
use Rattle.float.specs.Number.{zero_float, one_float}
use Rattle.sampling.specs.Pose.{Normalized, try_normalize, from_quat, vector}
use Rattle.sampling.specs.declared.pose.Quaternion.{Quaternion}
use Rattle.sampling.specs.declared.pose.Matrix.{Matrix}
use Rattle.sampling.specs.declared.pose.Degenerate.TheVariants.{NotFinite, Zero}
use Rattle.sampling.specs.declared.job.Kind.{Kind}
use Rattle.sampling.specs.declared.job.Kind.TheVariants.{J1free}
use Rattle.sampling.specs.declared.job.Joint.{Joint}
use Rattle.sampling.specs.declared.job.Job.{Job}
use Rattle.sampling.specs.declared.reads.Shape.{Shape}
use Rattle.sheet.specs.declared.request.Field.{Field}
use Rattle.sheet.specs.declared.request.Field.TheVariants.{Sign, Arm, Reference, Offset, From, To}
use Rattle.sheet.specs.Bytes.{float_at}
use Rattle.sheet.specs.Request.{place, rotation_at, shape_of}
use Rattle.sampling.specs.declared.job.Arm as arms

-- byte 1 is the sign 1, any other -1
unfoldable pub sign_of : ℕ → Float
sign_of b = cond (eqb b 1) one_float (neg one_float)

-- the float of a field
abbrev pub field : List ℕ → Field → ℕ → Float
field r f j = float_at r (place f j)

unfoldable pub joint_at : List ℕ → ℕ → Joint
joint_at r j =
    record {
      sign = sign_of (get_or r (place Sign j) 0);
      offset = field r Offset j;
      reference = field r Reference j;
      from = field r From j;
      to = field r To j;
    }

unfoldable pub rotation_of : List ℕ → Quaternion
rotation_of r =
    record {
      x = float_at r rotation_at;
      y = float_at r (rotation_at + 8);
      z = float_at r (rotation_at + 16);
      w = float_at r (rotation_at + 24);
    }

unfoldable pub arm_of : List ℕ → arms.Arm
arm_of r = record { q1 = field r Arm 1; q2 = field r Arm 2; q3 = field r Arm 3 }

unfoldable pub zero_matrix : Matrix
zero_matrix =
    record {
      x = vector zero_float zero_float zero_float;
      y = vector zero_float zero_float zero_float;
      z = vector zero_float zero_float zero_float;
    }

-- the matrix of a normalized quaternion; zero in the cases that refusals 4 and 5 take
unfoldable pub matrix_by : Normalized → Matrix
matrix_by (Ok q) = from_quat q
matrix_by (Err NotFinite) = zero_matrix
matrix_by (Err Zero) = zero_matrix

unfoldable pub matrix : Quaternion → Matrix
matrix q = matrix_by (try_normalize q)

-- kind and flags; a wrong one is refused, whatever stands for it here
unfoldable pub kind_of : Option Shape → Kind
kind_of None = J1free
kind_of (Some s) = s.kind

unfoldable pub limited_of : Option Shape → Bool
limited_of None = false
limited_of (Some s) = s.limits

unfoldable pub fixed_of : Option Shape → Bool
fixed_of None = false
fixed_of (Some s) = s.fixed

unfoldable pub job_of : List ℕ → Job
job_of r =
    record {
      kind = kind_of (shape_of r);
      limited = limited_of (shape_of r);
      fixed = fixed_of (shape_of r);
      matrix = matrix (rotation_of r);
      arm = arm_of r;
      j1 = joint_at r 1;
      j2 = joint_at r 2;
      j4 = joint_at r 4;
      j5 = joint_at r 5;
      j6 = joint_at r 6;
    }
