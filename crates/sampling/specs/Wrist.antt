-- The harmonics of the wrist that its boundaries are about: the pairs whose atan2 are joints 4 and 6, the cosine of joint 5, and
-- the pairs of the phases at the poles; from `sample_angles` of continuum.rs (01, module 5). Definitions only.
use Rattle.std.specs.Prelude.{Float}
use Rattle.std.specs.Float.Ieee.{neg}
use Rattle.float.specs.Number.{one_float}
use Rattle.sampling.specs.Continuum.{scaled, plus, dot}
use Rattle.sampling.specs.declared.pose.Matrix.{Matrix}
use Rattle.sampling.specs.declared.continuum.Axes.{Axes}
use Rattle.sampling.specs.declared.wrist.Ray.{Ray}
use Rattle.sampling.specs.declared.wrist.Wrist.{Wrist}

-- the sum (sign 1) or the difference (sign −1) of joints 4 and 6, at a pole
unfoldable pub phase : Axes → Matrix → Float → Ray
phase axis m sign =
    record {
      x = plus (dot axis.y m.y) (scaled (dot axis.x m.x) sign);
      y = plus (scaled (dot axis.y m.x) sign) (scaled (dot axis.x m.y) (neg one_float));
    }

unfoldable pub wrist : Axes → Matrix → Wrist
wrist axis m =
    record {
      q4 = record { x = dot axis.x m.z; y = dot axis.y m.z };
      q6 = record { x = scaled (dot axis.z m.x) (neg one_float); y = dot axis.z m.y };
      cos5 = dot axis.z m.z;
      sum = phase axis m one_float;
      difference = phase axis m (neg one_float);
    }
