-- The pose: `try_normalize_dquat` of the Rust, and the rotation matrix, dot product and length by 01's formulas (module 4). Definitions only.
use Rattle.std.specs.Prelude.{Result, Ok, Err, Bool, not, ◌&&◌, ◌||◌, cond, Float}
use Rattle.std.specs.Float.{binary64}
use Rattle.std.specs.Float.Ieee.{le, neg}
use Rattle.std.specs.Float.Ieee.Scale.{finite}
use Rattle.float.specs.Number.{◌⊕◌, ◌⊖◌, ◌⊗◌, ◌⊘◌, zero_float, one_float}
use Rattle.float.specs.Sqrt.{sqrt}
use Rattle.sampling.specs.declared.pose.Quaternion.{Quaternion}
use Rattle.sampling.specs.declared.pose.Vector.{Vector}
use Rattle.sampling.specs.declared.pose.Matrix.{Matrix}
use Rattle.sampling.specs.declared.pose.Degenerate.{Degenerate}
use Rattle.sampling.specs.declared.pose.Degenerate.TheVariants.{NotFinite, Zero}

-- the length that refusals 4 and 5 ask about
unfoldable pub quaternion_length : Quaternion → Float
quaternion_length q = sqrt binary64 (q.x ⊗ q.x ⊕ q.y ⊗ q.y ⊕ q.z ⊗ q.z ⊕ q.w ⊗ q.w)

abbrev pub all_finite : Quaternion → Bool
all_finite q = finite q.x && finite q.y && finite q.z && finite q.w

abbrev pub over : Quaternion → Float → Quaternion
over q l = record { x = q.x ⊘ l; y = q.y ⊘ l; z = q.z ⊘ l; w = q.w ⊘ l }

-- a quaternion of length 1, or why there is none
abbrev pub Normalized : Type 0
Normalized = Result Quaternion Degenerate

-- finite parts may have a length that overflows, or one of zero
unfoldable pub try_normalize : Quaternion → Normalized
try_normalize q =
    cond (not (all_finite q) || not (finite (quaternion_length q))) (Err NotFinite)
    (cond (le (quaternion_length q) zero_float) (Err Zero)
    (Ok (over q (quaternion_length q))))

-- `DMat3::from_quat`, of the normalized parts, with X = x + x and so on: columns (1 − (yY + zZ), xY + wZ,
-- xZ − wY), (xY − wZ, 1 − (xX + zZ), yZ + wX), (xZ + wY, yZ − wX, 1 − (xX + yY))
unfoldable pub from_quat : Quaternion → Matrix
from_quat q =
    let X = q.x ⊕ q.x in
    let Y = q.y ⊕ q.y in
    let Z = q.z ⊕ q.z in
    record {
      x = record { x = one_float ⊖ (q.y ⊗ Y ⊕ q.z ⊗ Z); y = q.x ⊗ Y ⊕ q.w ⊗ Z; z = q.x ⊗ Z ⊖ q.w ⊗ Y };
      y = record { x = q.x ⊗ Y ⊖ q.w ⊗ Z; y = one_float ⊖ (q.x ⊗ X ⊕ q.z ⊗ Z); z = q.y ⊗ Z ⊕ q.w ⊗ X };
      z = record { x = q.x ⊗ Z ⊕ q.w ⊗ Y; y = q.y ⊗ Z ⊖ q.w ⊗ X; z = one_float ⊖ (q.x ⊗ X ⊕ q.y ⊗ Y) };
    }

-- dot is (ax·bx + ay·by) + az·bz, length its sqrt
unfoldable pub dot : Vector → Vector → Float
dot a b = a.x ⊗ b.x ⊕ a.y ⊗ b.y ⊕ a.z ⊗ b.z

unfoldable pub vector_length : Vector → Float
vector_length a = sqrt binary64 (dot a a)

-- other vector steps go part by part
unfoldable pub vector : Float → Float → Float → Vector
vector x y z = record { x = x; y = y; z = z }

unfoldable pub times : Vector → Float → Vector
times a factor = vector (a.x ⊗ factor) (a.y ⊗ factor) (a.z ⊗ factor)

unfoldable pub plus : Vector → Vector → Vector
plus a b = vector (a.x ⊕ b.x) (a.y ⊕ b.y) (a.z ⊕ b.z)

unfoldable pub minus : Vector → Vector → Vector
minus a b = vector (a.x ⊖ b.x) (a.y ⊖ b.y) (a.z ⊖ b.z)

unfoldable pub negated : Vector → Vector
negated a = vector (neg a.x) (neg a.y) (neg a.z)
