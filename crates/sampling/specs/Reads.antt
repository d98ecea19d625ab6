-- Which fields of a job are read (01, "Request and sheet"), and when two jobs have all of them in common. Definitions only.
use Rattle.std.specs.Prelude.{ℕ, ◌≡◌, Bool, not, ◌&&◌, ◌||◌, T, eqb}
use Rattle.sampling.specs.Constraints.{compute_center}
use Rattle.sampling.specs.declared.job.Job.{Job}
use Rattle.sampling.specs.declared.job.Joint.{Joint}
use Rattle.sampling.specs.declared.job.Kind.{Kind}
use Rattle.sampling.specs.declared.job.Kind.TheVariants.{J1free, J2free, J1j2free}

-- joints 4, 5 and, unless fixed, 6
abbrev pub wrist_read : Bool → ℕ → Bool
wrist_read fixed j = eqb j 4 || eqb j 5 || (not fixed && eqb j 6)

-- signs and offsets, by kind, limits present, sixth joint fixed and joint
unfoldable pub joint_read : Kind → Bool → Bool → ℕ → Bool
joint_read J1free limited fixed j = eqb j 1 || wrist_read fixed j
joint_read J2free limited fixed j = eqb j 2 || wrist_read fixed j
joint_read J1j2free limited fixed j = eqb j 1 || eqb j 2 || (limited && wrist_read fixed j)

-- kind 3 with limits reads reference 1 only
unfoldable pub reference_read : Kind → Bool → Bool → ℕ → Bool
reference_read J1free limited fixed j = eqb j 1 || wrist_read fixed j
reference_read J2free limited fixed j = eqb j 2 || wrist_read fixed j
reference_read J1j2free limited fixed j = eqb j 1 || (not limited && eqb j 2)

-- the arm's angle q
unfoldable pub arm_read : Kind → ℕ → Bool
arm_read J1free q = eqb q 2 || eqb q 3
arm_read J2free q = eqb q 1 || eqb q 3
arm_read J1j2free q = eqb q 3

-- ---- two jobs with all that is read in common

-- joint n; limits, if present, are read for the joints whose signs are read, and of them only centre and tolerance count
pub record SameJoint (k : Kind) (limited fixed : Bool) (n : ℕ) (i j : Joint) : Type 0 where
  pub sign : T (joint_read k limited fixed n) → i.sign ≡ j.sign
  pub offset : T (joint_read k limited fixed n) → i.offset ≡ j.offset
  pub reference : T (reference_read k limited fixed n) → i.reference ≡ j.reference
  pub center : T limited → T (joint_read k limited fixed n) → compute_center i.from i.to ≡ compute_center j.from j.to

pub record SameRead (a b : Job) : Type 0 where
  pub kind : a.kind ≡ b.kind
  pub limited : a.limited ≡ b.limited
  pub fixed : a.fixed ≡ b.fixed
  pub matrix : a.matrix ≡ b.matrix
  pub q1 : T (arm_read a.kind 1) → a.arm.q1 ≡ b.arm.q1
  pub q2 : T (arm_read a.kind 2) → a.arm.q2 ≡ b.arm.q2
  pub q3 : T (arm_read a.kind 3) → a.arm.q3 ≡ b.arm.q3
  pub j1 : SameJoint a.kind a.limited a.fixed 1 a.j1 b.j1
  pub j2 : SameJoint a.kind a.limited a.fixed 2 a.j2 b.j2
  pub j4 : SameJoint a.kind a.limited a.fixed 4 a.j4 b.j4
  pub j5 : SameJoint a.kind a.limited a.fixed 5 a.j5 b.j5
  pub j6 : SameJoint a.kind a.limited a.fixed 6 a.j6 b.j6
