-- A job's angles: kind 1's those of free joint 1, kind 2's those of free joint 2, kind 3's the slices of joint 1 where joints
-- 1 and 2 are free (01, modules 5 and 6). Every field of the job is taken as given. Definitions only.
use Rattle.std.specs.Prelude.{ℕ, List, Float}
use Rattle.sampling.specs.J1free as J1free
use Rattle.sampling.specs.J2free as J2free
use Rattle.sampling.specs.SampleAngles as SampleAngles
use Rattle.sampling.specs.J1j2free as J1j2free
use Rattle.sampling.specs.declared.job.Job.{Job}
use Rattle.sampling.specs.declared.job.Kind.{Kind}
use Rattle.sampling.specs.declared.job.Kind.TheVariants.{J1free, J2free, J1j2free}
use Rattle.sampling.specs.declared.sample_angles.Free.{Free}

-- joint 1 free, joint 2 free
unfoldable pub first_free : Job → Free
first_free job = SampleAngles.free (J1free.arm_axes job.arm) job job.j1

unfoldable pub second_free : Job → Free
second_free job = SampleAngles.free (J2free.arm_axes job.arm) job job.j2

-- the first for kind 1, the second for kind 2, the last for kind 3
abbrev pub by_kind : {A : Type 0} → Kind → A → A → A → A
by_kind J1free first second both = first
by_kind J2free first second both = second
by_kind J1j2free first second both = both

-- The angles to try, in order.
unfoldable pub angles : Job → List Float
angles job =
    by_kind job.kind
    (SampleAngles.sample_angles (first_free job))
    (SampleAngles.sample_angles (second_free job))
    (J1j2free.all_slices (J1j2free.folded job))

-- the number of cuts
unfoldable pub cut_count : Job → ℕ
cut_count job =
    by_kind job.kind
    (SampleAngles.cut_count (first_free job))
    (SampleAngles.cut_count (second_free job))
    (J1j2free.cut_count (J1j2free.folded job))
