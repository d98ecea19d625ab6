-- Free joint 2: the columns of the arm's rotation as functions of it, j2free.rs of the Rust (01, module 5). Definitions only.
use Rattle.std.specs.Float.Ieee.{neg}
use Rattle.float.specs.Number.{zero_float, one_float}
use Rattle.float.specs.Trig.{sin_cos}
use Rattle.float.specs.declared.trig.SinCos.{SinCos}
use Rattle.sampling.specs.Pose.{vector, times, plus, minus, negated}
use Rattle.sampling.specs.declared.job.Arm.{Arm}
use Rattle.sampling.specs.declared.continuum.TrigVector.{TrigVector}
use Rattle.sampling.specs.declared.continuum.Axes.{Axes}
use Rattle.sampling.specs.declared.pose.Vector.{Vector}

abbrev pub zero_vector : Vector
zero_vector = vector zero_float zero_float zero_float

abbrev pub unit_z : Vector
unit_z = vector zero_float zero_float one_float

-- the first and the third column, by the direction of joint 1 and the angle of joint 3
unfoldable pub x_axis : Vector → SinCos → TrigVector
x_axis radial q3 =
    record {
      cosine = minus (times radial q3.cosine) (times unit_z q3.sine);
      sine = minus (times (negated radial) q3.sine) (times unit_z q3.cosine);
      constant = zero_vector;
    }

unfoldable pub z_axis : Vector → SinCos → TrigVector
z_axis radial q3 =
    record {
      cosine = plus (times radial q3.sine) (times unit_z q3.cosine);
      sine = minus (times radial q3.cosine) (times unit_z q3.sine);
      constant = zero_vector;
    }

unfoldable pub arm_axes : Arm → Axes
arm_axes arm =
    let q1 = sin_cos arm.q1 in
    let radial = vector q1.cosine q1.sine zero_float in
    record {
      x = x_axis radial (sin_cos arm.q3);
      y = record { cosine = zero_vector; sine = zero_vector; constant = vector (neg q1.sine) q1.cosine zero_float };
      z = z_axis radial (sin_cos arm.q3);
    }
