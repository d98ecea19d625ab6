-- Two jobs that have all that is read in common have the same angles and the same number of cuts, whatever the unread fields hold.
use Rattle.std.specs.Prelude.{ℕ, ◌≡◌, refl, Bool, true, false, not, ◌&&◌, T}
use Rattle.std.proofs.Common.{sym, ap, subst, ◌∙◌}
use Rattle.std.specs.Float.Ieee.Fits.{and_i}
use Rattle.sampling.specs.Constraints.{compute_center}
use Rattle.sampling.specs.Limits.{centered, limits}
use Rattle.sampling.specs.Marks.{model_angle, marks}
use Rattle.sampling.specs.Boundaries.{wrist_limits}
use Rattle.sampling.specs.Reads.{joint_read, reference_read, arm_read, SameJoint, SameRead}
use Rattle.sampling.specs.Angles.{first_free, second_free, by_kind, angles, cut_count}
use Rattle.sampling.specs.J1free as J1free
use Rattle.sampling.specs.J2free as J2free
use Rattle.sampling.specs.SampleAngles as SampleAngles
use Rattle.sampling.specs.J1j2free as J1j2free
use Rattle.sampling.specs.declared.continuum.Axes.{Axes}
use Rattle.sampling.specs.declared.j1j2free.Folded.{Folded}
use Rattle.sampling.specs.declared.job.Arm.{Arm}
use Rattle.sampling.specs.declared.job.Job.{Job}
use Rattle.sampling.specs.declared.job.Joint.{Joint}
use Rattle.sampling.specs.declared.job.Kind.{Kind}
use Rattle.sampling.specs.declared.job.Kind.TheVariants.{J1free, J2free, J1j2free}
use Rattle.sampling.specs.declared.sample_angles.Free.{Free}

so : (b : Bool) → T b → T (b && true)
so b t = and_i b true t tt

-- ---- a joint whose sign is read

record SameCentre (l : Bool) (i j : Joint) : Type 0 where
  sign : i.sign ≡ j.sign
  offset : i.offset ≡ j.offset
  center : T l → compute_center i.from i.to ≡ compute_center j.from j.to

same_centre : (k : Kind) (l f : Bool) (n : ℕ) (i j : Joint) → SameJoint k l f n i j → T (joint_read k l f n) → SameCentre l i j
same_centre k l f n i j g t = record { sign = g.sign t; offset = g.offset t; center = λ x. g.center x t }

-- with its reference
record Whole (l : Bool) (i j : Joint) : Type 0 where
  part : SameCentre l i j
  reference : i.reference ≡ j.reference

whole : (k : Kind) (l f : Bool) (n : ℕ) (i j : Joint) → SameJoint k l f n i j → T (joint_read k l f n) → T (reference_read k l f n) → Whole l i j
whole k l f n i j g t u = record { part = same_centre k l f n i j g t; reference = g.reference u }

-- ---- one free joint

near_same : (l : Bool) (i j : Joint) → Whole l i j → model_angle i.sign i.offset i.reference ≡ model_angle j.sign j.offset j.reference
near_same l i j g = rw (g.part.sign, g.part.offset, g.reference)

marks_same : (l : Bool) (i j : Joint) → Whole l i j → marks l i ≡ marks l j
unfolding marks
marks_same true i j g = rw (g.part.center tt, g.part.sign, g.part.offset, g.reference)
marks_same false i j g = rw (g.part.sign, g.part.offset, g.reference)

free_limits_same : (l : Bool) (i j : Joint) → Whole l i j → SampleAngles.free_limits l i ≡ SampleAngles.free_limits l j
unfolding SampleAngles.free_limits
free_limits_same true i j g = rw (g.part.center tt, g.part.sign, g.part.offset)
free_limits_same false i j g = refl

sixth_same : (f l : Bool) (i j : Joint) → (T (not f) → Whole l i j) → SampleAngles.sixth f l i ≡ SampleAngles.sixth f l j
unfolding SampleAngles.sixth
sixth_same true l i j h = refl
sixth_same false l i j h = rw (marks_same l i j (h tt))

first_axes : (a b : Arm) → a.q2 ≡ b.q2 → a.q3 ≡ b.q3 → J1free.arm_axes a ≡ J1free.arm_axes b
unfolding J1free.arm_axes
first_axes a b e f = rw (e, f)

second_axes : (a b : Arm) → a.q1 ≡ b.q1 → a.q3 ≡ b.q3 → J2free.arm_axes a ≡ J2free.arm_axes b
unfolding J2free.arm_axes
second_axes a b e f = rw (e, f)

-- ---- two free joints

reference_same : (l : Bool) (i j : Joint) → Whole l i j → J1j2free.model_reference i ≡ J1j2free.model_reference j
unfolding J1j2free.model_reference
reference_same l i j g = rw (g.part.sign, g.part.offset, g.reference)

limits_same : (l : Bool) (i j : Joint) → SameCentre l i j → (T (not l) → i.reference ≡ j.reference) → limits l i ≡ limits l j
unfolding limits centered
limits_same true i j g r = rw (g.center tt, g.sign, g.offset)
limits_same false i j g r = rw (g.sign, g.offset, r tt)

wrist_limits_same : (l : Bool) (i j : Joint) → (T l → SameCentre l i j) → wrist_limits l i ≡ wrist_limits l j
unfolding wrist_limits centered
wrist_limits_same true i j h = rw ((h tt).center tt, (h tt).sign, (h tt).offset)
wrist_limits_same false i j h = refl

sixth_limits_same : (f l : Bool) (i j : Joint) → (T (not f) → T l → SameCentre l i j) → J1j2free.sixth_limits f l i ≡ J1j2free.sixth_limits f l j
unfolding J1j2free.sixth_limits
sixth_limits_same true l i j h = refl
sixth_limits_same false l i j h = wrist_limits_same l i j (h tt)

-- ---- by the kind

module _ (a b : Job) (g : SameRead a b) where
  abbrev l : Bool
  l = a.limited

  abbrev f : Bool
  f = a.fixed

  free_same : (x y : Axes) (i j : Joint) → x ≡ y → Whole l i j
      → Whole l a.j4 b.j4 → Whole l a.j5 b.j5 → (T (not f) → Whole l a.j6 b.j6) → SampleAngles.free x a i ≡ SampleAngles.free y b j
  unfolding SampleAngles.free
  free_same x y i j e h fourth fifth sixth =
      rw (
        ← g.limited,
        ← g.fixed,
        ← g.matrix,
        e,
        near_same l i j h,
        free_limits_same l i j h,
        marks_same l a.j4 b.j4 fourth,
        marks_same l a.j5 b.j5 fifth,
        sixth_same f l a.j6 b.j6 sixth,
      )

  module _ (k : Kind) (e : a.kind ≡ k) where
    at : (n : ℕ) (i j : Joint) → SameJoint a.kind l f n i j → SameJoint k l f n i j
    at n i j s = subst (λ (z : Kind). SameJoint z l f n i j) e s

    arm : (q : ℕ) → T (arm_read k q) → T (arm_read a.kind q)
    arm q t = subst (λ (z : Kind). T (arm_read z q)) (sym e) t

  first_same : a.kind ≡ J1free → first_free a ≡ first_free b
  unfolding first_free joint_read reference_read arm_read
  first_same e =
      free_same _ _ _ _ (first_axes a.arm b.arm (g.q2 (arm J1free e 2 tt)) (g.q3 (arm J1free e 3 tt)))
      (whole J1free l f 1 _ _ (at J1free e 1 _ _ g.j1) tt tt)
      (whole J1free l f 4 _ _ (at J1free e 4 _ _ g.j4) tt tt)
      (whole J1free l f 5 _ _ (at J1free e 5 _ _ g.j5) tt tt)
      (λ x. whole J1free l f 6 _ _ (at J1free e 6 _ _ g.j6) (so (not f) x) (so (not f) x))

  second_same : a.kind ≡ J2free → second_free a ≡ second_free b
  unfolding second_free joint_read reference_read arm_read
  second_same e =
      free_same _ _ _ _ (second_axes a.arm b.arm (g.q1 (arm J2free e 1 tt)) (g.q3 (arm J2free e 3 tt)))
      (whole J2free l f 2 _ _ (at J2free e 2 _ _ g.j2) tt tt)
      (whole J2free l f 4 _ _ (at J2free e 4 _ _ g.j4) tt tt)
      (whole J2free l f 5 _ _ (at J2free e 5 _ _ g.j5) tt tt)
      (λ x. whole J2free l f 6 _ _ (at J2free e 6 _ _ g.j6) (so (not f) x) (so (not f) x))

  both_same : a.kind ≡ J1j2free → J1j2free.folded a ≡ J1j2free.folded b
  unfolding J1j2free.folded joint_read reference_read arm_read
  both_same e =
      let k = J1j2free in
      let one = whole k l f 1 a.j1 b.j1 (at k e 1 _ _ g.j1) tt tt in
      let two = at k e 2 a.j2 b.j2 g.j2 in
      rw (
        ← g.limited,
        ← g.fixed,
        ← g.matrix,
        g.q3 (arm k e 3 tt),
        reference_same l a.j1 b.j1 one,
        limits_same l a.j1 b.j1 one.part (λ t. one.reference),
        limits_same l a.j2 b.j2 (same_centre k l f 2 a.j2 b.j2 two tt) (λ t. two.reference (so (not l) t)),
        wrist_limits_same l a.j4 b.j4 (λ t. same_centre k l f 4 a.j4 b.j4 (at k e 4 _ _ g.j4) (so l t)),
        wrist_limits_same l a.j5 b.j5 (λ t. same_centre k l f 5 a.j5 b.j5 (at k e 5 _ _ g.j5) (so l t)),
        sixth_limits_same f l a.j6 b.j6 (λ x t. same_centre k l f 6 a.j6 b.j6 (at k e 6 _ _ g.j6) (and_i l (not f && true) t (so (not f) x))),
      )

  module _ {A : Type 0} (one : Free → A) (two : Folded → A) where
    -- what depends on the kind's part alone
    kinds_same : (k : Kind) → a.kind ≡ k
        → by_kind k (one (first_free a)) (one (second_free a)) (two (J1j2free.folded a)) ≡ by_kind k (one (first_free b)) (one (second_free b))
        (two (J1j2free.folded b))
    kinds_same J1free e = ap one (first_same e)
    kinds_same J2free e = ap one (second_same e)
    kinds_same J1j2free e = ap two (both_same e)

    by_same : by_kind a.kind (one (first_free a)) (one (second_free a)) (two (J1j2free.folded a))
        ≡ by_kind b.kind (one (first_free b)) (one (second_free b)) (two (J1j2free.folded b))
    by_same = kinds_same a.kind refl ∙ ap (λ (k : Kind). by_kind k (one (first_free b)) (one (second_free b)) (two (J1j2free.folded b))) g.kind

  -- THEOREM: What is not read changes no angle and no number of cuts.
  pub angles_same : angles a ≡ angles b
  unfolding angles
  angles_same = by_same SampleAngles.sample_angles J1j2free.all_slices

  pub cuts_same : cut_count a ≡ cut_count b
  unfolding cut_count
  cuts_same = by_same SampleAngles.cut_count J1j2free.cut_count
