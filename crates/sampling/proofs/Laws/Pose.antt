-- The parts of a normalized quaternion lie within 2, and the entries of its rotation matrix within 17.
use Rattle.std.specs.Prelude.{Ok, Err, ◌≡◌, Bool, true, false, not, ◌&&◌, ◌||◌, cond, ℕ, zero, suc, ◌*◌, ◌<◌, pos, T, Float}
use Rattle.std.proofs.Common.{mul-pos, zero-lt-suc, zero-mul, arith, T_not}
use Rattle.std.specs.Float.{nan, inf, fin, binary64}
use Rattle.std.specs.Float.Ieee.{up, le, fits}
use Rattle.std.specs.Float.Ieee.Fits.{up_pos, add-fits}
use Rattle.std.specs.Float.Ieee.Scale.{finite}
use Rattle.std.specs.Float.Ieee.Positive.{num}
use Rattle.float.specs.Number.{◌⊕◌, ◌⊖◌, ◌⊗◌, ◌⊘◌, zero_float, one_float, two_float}
use Rattle.float.specs.Sqrt.{sqrt}
use Rattle.float.specs.Promises.Order.{Le}
use Rattle.float.specs.Laws.Le.{Le→le}
use Rattle.float.specs.Promises.Order.{Within}
use Rattle.float.specs.Laws.Within.{fits→held, weaken, numeral, add_within, sub_within, mul_within}
use Rattle.float.specs.Laws.Grow.{squares}
use Rattle.float.specs.Laws.Root.{normalized_within}
use Rattle.sampling.specs.Pose.{Normalized, quaternion_length, all_finite, over, try_normalize, from_quat}
use Rattle.sampling.specs.declared.pose.Quaternion.{Quaternion}
use Rattle.sampling.specs.declared.pose.Vector.{Vector}
use Rattle.sampling.specs.declared.pose.Matrix.{Matrix}
use Rattle.sampling.specs.declared.pose.Degenerate.TheVariants.{NotFinite, Zero}

-- ---- what a length that is finite and above zero tells of the sum
root_finite : (v : Float) → T (finite (sqrt binary64 v)) → T (finite v)
unfolding sqrt
root_finite nan h = absurd h
root_finite (inf true) h = absurd h
root_finite (inf false) h = absurd h
root_finite (fin s m e) h = tt

root_above : (v : Float) → T (finite v) → T (not (le (sqrt binary64 v) zero_float)) → 0 < num v
unfolding sqrt
root_above nan p h = absurd p
root_above (inf s) p h = absurd p
root_above (fin true zero e) p h =
    let l : Le (fin true zero e) zero_float = record { first = tt; second = tt; cross = omega arith } in
    absurd (T_not (le (fin true zero e) zero_float) h (Le→le l))
root_above (fin false zero e) p h =
    let z : 0 * up e ≡ 0 = zero-mul (up e) in
    let l : Le (fin false zero e) zero_float = record { first = tt; second = tt; cross = omega arith } in
    absurd (T_not (le (fin false zero e) zero_float) h (Le→le l))
root_above (fin s (suc m) e) p h = mul-pos (zero-lt-suc m) (up_pos e)

-- ---- the parts
pub record Quaternion-within (B : Float) (q : Quaternion) : Type 0 where
  pub x : Within B q.x
  pub y : Within B q.y
  pub z : Within B q.z
  pub w : Within B q.w

pub record Quaternion-fits (q : Quaternion) : Type 0 where
  pub x : T (fits binary64 q.x)
  pub y : T (fits binary64 q.y)
  pub z : T (fits binary64 q.z)
  pub w : T (fits binary64 q.w)

record Finite (a b c d : Bool) : Type 0 where
  x : T a
  y : T b
  z : T c
  w : T d

all_of : (a b c d : Bool) → T (a && b && c && d) → Finite a b c d
all_of false b c d t = absurd t
all_of true false c d t = absurd t
all_of true true false d t = absurd t
all_of true true true d t = record { x = tt; y = tt; z = tt; w = t }

record Taken (a f l : Bool) (v u : Quaternion) : Type 0 where
  parts : T a
  real : T f
  above : T (not l)
  is : u ≡ v

zero_unit : {u : Quaternion} → ◌≡◌ {A = Normalized} (Err Zero) (Ok u) → ⊥
zero_unit e = let z : ◌≡◌ {A = ℕ} 0 1 = cc in omega arith

none_unit : {u : Quaternion} → ◌≡◌ {A = Normalized} (Err NotFinite) (Ok u) → ⊥
none_unit e = let z : ◌≡◌ {A = ℕ} 0 1 = cc in omega arith

taken : (a f l : Bool) (v u : Quaternion) → cond {A = Normalized} (not a || not f) (Err NotFinite) (cond l (Err Zero) (Ok v)) ≡ Ok u → Taken a f l v u
taken false f l v u e = absurd (none_unit e)
taken true false l v u e = absurd (none_unit e)
taken true true true v u e = absurd (zero_unit e)
taken true true false v u e = record { parts = tt; real = tt; above = tt; is = cc }

part : (x S : Float) → T (fits binary64 x) → T (finite x) → T (fits binary64 S) → T (finite S) → 0 < num S → Le (x ⊗ x) S
    → Within two_float (x ⊘ sqrt binary64 S)
part x S t p u q z l = weaken two_float tt (normalized_within x S (fits→held binary64 x t p) (fits→held binary64 S u q) z l)

divided : (q : Quaternion) → Quaternion-fits q → Finite (finite q.x) (finite q.y) (finite q.z) (finite q.w)
    → T (finite (quaternion_length q)) → T (not (le (quaternion_length q) zero_float))
    → Quaternion-within two_float (over q (quaternion_length q))
unfolding quaternion_length
divided q t p f a =
    let S = q.x ⊗ q.x ⊕ q.y ⊗ q.y ⊕ q.z ⊗ q.z ⊕ q.w ⊗ q.w in
    let u = add-fits binary64 (q.x ⊗ q.x ⊕ q.y ⊗ q.y ⊕ q.z ⊗ q.z) (q.w ⊗ q.w) in
    let r = root_finite S f in
    let n = root_above S r a in
    let l = squares q.x q.y q.z q.w p.x p.y p.z p.w r in
    record {
      x = part q.x S t.x p.x u r n l.of_x;
      y = part q.y S t.y p.y u r n l.of_y;
      z = part q.z S t.z p.z u r n l.of_z;
      w = part q.w S t.w p.w u r n l.of_w;
    }

pub normalize_within : (q u : Quaternion) → Quaternion-fits q → try_normalize q ≡ Ok u → Quaternion-within two_float u
unfolding try_normalize
normalize_within q u t e =
    let k = taken (all_finite q) (finite (quaternion_length q)) (le (quaternion_length q) zero_float) (over q (quaternion_length q)) u e in
    rw k.is (divided q t (all_of (finite q.x) (finite q.y) (finite q.z) (finite q.w) k.parts) k.real k.above)

-- ---- the rotation matrix
abbrev pub seventeen : Float
seventeen = fin false 17 (pos 0)

abbrev eight : Float
eight = fin false 8 (pos 0)

pub record Vector-within (B : Float) (v : Vector) : Type 0 where
  pub x : Within B v.x
  pub y : Within B v.y
  pub z : Within B v.z

pub record Matrix-within (B : Float) (m : Matrix) : Type 0 where
  pub x : Vector-within B m.x
  pub y : Vector-within B m.y
  pub z : Vector-within B m.z

product : {a b : Float} → Within two_float a → Within two_float b → Within eight (a ⊗ (b ⊕ b))
product h k = mul_within binary64 eight tt h (add_within binary64 (fin false 4 (pos 0)) tt k k)

both : {a b : Float} → Within eight a → Within eight b → Within seventeen (a ⊕ b)
both h k = add_within binary64 seventeen tt h k

apart : {a b : Float} → Within eight a → Within eight b → Within seventeen (a ⊖ b)
apart h k = sub_within binary64 seventeen tt h k

rest : {a b : Float} → Within eight a → Within eight b → Within seventeen (one_float ⊖ (a ⊕ b))
rest h k = sub_within binary64 seventeen tt (numeral one_float one_float tt) (add_within binary64 (fin false 16 (pos 0)) tt h k)

pub from_quat_within : (q : Quaternion) → Quaternion-within two_float q → Matrix-within seventeen (from_quat q)
unfolding from_quat
from_quat_within q h = record {
  x = record {
    x = rest (product h.y h.y) (product h.z h.z);
    y = both (product h.x h.y) (product h.w h.z);
    z = apart (product h.x h.z) (product h.w h.y);
  };
  y = record {
    x = apart (product h.x h.y) (product h.w h.z);
    y = rest (product h.x h.x) (product h.z h.z);
    z = both (product h.y h.z) (product h.w h.x);
  };
  z = record {
    x = both (product h.x h.z) (product h.w h.y);
    y = apart (product h.y h.z) (product h.w h.x);
    z = rest (product h.x h.x) (product h.y h.y);
  };
}
