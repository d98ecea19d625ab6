-- Two theorems about a job's angles: how many there are at most, and that kind 3 tries the reference.
use Rattle.std.specs.Prelude.{None, Some, ℕ, ◌+◌, ◌*◌, ◌^◌, ◌≤◌, ◌<◌, ◌≡◌, refl, true, not, [], T, length, Float}
use Rattle.std.proofs.Common.{arith, sym, subst}
use Rattle.std.specs.Float.{binary64}
use Rattle.std.specs.Float.Ieee.{fits, is_nan}
use Rattle.sampling.specs.Angles.{first_free, second_free, by_kind, angles}
use Rattle.sampling.specs.J1j2free.{model_reference, folded, first_half, second_half, on_interval, cut_count, all_slices}
use Rattle.sampling.specs.Limits.{limits}
use Rattle.sampling.specs.Promises.Plan.{Moderate}
use Rattle.sampling.specs.SampleAngles.{sample_angles}
use Rattle.sampling.specs.Slices.{slices}
use Rattle.polynomial.specs.Kinds.{among}
use Rattle.sampling.proofs.Laws.AngleCounts.{sample_angles_few}
use Rattle.sampling.proofs.Laws.SliceCounts.{most_both_cuts, both_cuts_few}
use Rattle.sampling.proofs.Laws.Reference.{reference_number}
use Rattle.sampling.proofs.Laws.Slices.{slices_few, reference_in}
use Rattle.sampling.specs.declared.j1j2free.Folded.{Folded}
use Rattle.sampling.specs.declared.job.Job.{Job}
use Rattle.sampling.specs.declared.job.Kind.{Kind}
use Rattle.sampling.specs.declared.job.Kind.TheVariants.{J1free, J2free, J1j2free}
use Rattle.sampling.specs.Intervals.{Range}

-- twice the cuts of both halves, the reference and the limits: 351239
abbrev pub most_angles : ℕ
most_angles = 2 * most_both_cuts + 3

all_slices_few : (t : Folded) → length (all_slices t) ≤ most_angles
unfolding all_slices cut_count
all_slices_few t = go t.range1 refl
  where
    go : (range : Range) → t.range1 ≡ range
        → length (on_interval range [] (λ lower upper. slices t.reference lower upper (first_half t lower upper) (second_half t lower upper))) ≤ most_angles
    go None e = omega arith
    go (Some (lower, upper)) e =
        let a = first_half t lower upper in
        let b = second_half t lower upper in
        let h = subst (λ (g : Range). on_interval g 0 (λ x y. length (first_half t x y) + length (second_half t x y)) ≤ most_both_cuts) e (both_cuts_few t) in
        omega (arith, slices_few t.reference lower upper a b, h)

-- THEOREM: A job has at most 351239 angles, whatever its fields are.
pub angles_most : (job : Job) → length (angles job) ≤ most_angles
unfolding angles
angles_most job = go job.kind
  where
    go : (k : Kind) → length (by_kind k (sample_angles (first_free job)) (sample_angles (second_free job)) (all_slices (folded job))) ≤ most_angles
    go J1free = omega (arith, sample_angles_few (first_free job))
    go J2free = omega (arith, sample_angles_few (second_free job))
    go J1j2free = all_slices_few (folded job)

-- eight bytes for each of fewer angles have their number in 32 bits
abbrev pub angle_limit : ℕ
angle_limit = 2 ^ 29

pub angles_few : (job : Job) → length (angles job) < angle_limit
angles_few job = omega (arith, angles_most job)

slices_have : (t : Folded) (lower upper : Float) → t.range1 ≡ Some (lower, upper) → T (not (is_nan t.reference)) → among t.reference (all_slices t) ≡ true
unfolding all_slices
slices_have t lower upper e n = go t.range1 e
  where
    go : (range : Range) → range ≡ Some (lower, upper)
        → among t.reference (on_interval range [] (λ x y. slices t.reference x y (first_half t x y) (second_half t x y))) ≡ true
    go range e = rw e (reference_in t.reference lower upper (first_half t lower upper) (second_half t lower upper) n)

-- THEOREM: Where joint 1 has an interval, the angles of kind 3 have the reference as a model angle among them, inside the interval or not.
pub reference_stands : (job : Job) (lower upper : Float) → job.kind ≡ J1j2free → T (fits binary64 job.j1.reference) → Moderate job.j1
    → limits job.limited job.j1 ≡ Some (lower, upper) → among (model_reference job.j1) (angles job) ≡ true
unfolding angles folded
reference_stands job lower upper k fit j e =
    subst (λ (z : Kind). among (model_reference job.j1) (by_kind z (sample_angles (first_free job)) (sample_angles (second_free job))
    (all_slices (folded job))) ≡ true) (sym k)
    (slices_have (folded job) lower upper e (reference_number job.j1 fit j))
