-- Free joint 1: the columns of the arm's rotation as functions of it, j1free.rs of the Rust (01, module 5). Definitions only.
use Rattle.std.specs.Float.Ieee.{neg}
use Rattle.float.specs.Number.{◌⊕◌, zero_float, one_float}
use Rattle.float.specs.Trig.{sin_cos}
use Rattle.sampling.specs.Pose.{vector, negated}
use Rattle.sampling.specs.declared.job.Arm.{Arm}
use Rattle.sampling.specs.declared.continuum.Axes.{Axes}

unfoldable pub arm_axes : Arm → Axes
arm_axes arm =
    let s23 = (sin_cos (arm.q2 ⊕ arm.q3)).sine in
    let c23 = (sin_cos (arm.q2 ⊕ arm.q3)).cosine in
    let O = zero_float in
    record {
      x = record { cosine = vector c23 O O; sine = vector O c23 O; constant = vector O O (neg s23) };
      y = record { cosine = vector O one_float O; sine = negated (vector one_float O O); constant = vector O O O };
      z = record { cosine = vector s23 O O; sine = vector O s23 O; constant = vector O O c23 };
    }
