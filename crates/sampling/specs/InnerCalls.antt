-- The inner calls of the root finder that a job makes, in order: what 01's refusal 9 went over, until 02's change 5 took it out, and what `Laws.InnerCalls`
-- says of each. No function promises any of it. Definitions only.
use Rattle.std.specs.Prelude.{cond, List, [], ◌++◌, map, Float}
use Rattle.std.specs.Option.{option_map_or}
use Rattle.std.specs.Float.Ieee.Scale.{finite}
use Rattle.float.specs.Number.{◌⊕◌, ◌⊗◌, abs, middle}
use Rattle.float.specs.Trig.{sin_cos}
use Rattle.polynomial.specs.InnerCalls.{Call, norm_calls}
use Rattle.polynomial.specs.declared.curve.Curve.{Curve}
use Rattle.sampling.specs.Bends.{harmonic, narrow}
use Rattle.sampling.specs.BendSlices.{fold}
use Rattle.sampling.specs.Boundaries.{across}
use Rattle.sampling.specs.CriticalSlices.{Chart, chart, all_polynomials, calls}
use Rattle.sampling.specs.J1j2free.{folded, curves, on_interval}
use Rattle.sampling.specs.Angles.{first_free, second_free, by_kind}
use Rattle.sampling.specs.declared.j1j2free.Folded.{Folded}
use Rattle.sampling.specs.declared.job.Job.{Job}
use Rattle.sampling.specs.declared.marks.Marks.{Marks}
use Rattle.sampling.specs.declared.pose.Vector.{Vector}
use Rattle.sampling.specs.declared.sample_angles.Free.{Free}
use Rattle.sampling.specs.declared.wrist.Ray.{Ray}
use Rattle.sampling.specs.Pose as Pose
use Rattle.sampling.specs.Intervals.{Range}

-- what is asked at both ends of an interval
abbrev pub at_ends : (Float → List Call) → Range → List Call
at_ends f range = on_interval range [] (λ lower upper. f lower ++ f upper)

-- ---- one free joint

-- joint 5 at an angle: where its sine is narrow, a squared norm
unfoldable pub bend_calls : Ray → Float → List Call
bend_calls q4 angle =
    let sine = abs (sin_cos angle).sine in
    cond (finite angle) (cond (narrow sine) (norm_calls (harmonic q4.x) (harmonic q4.y) sine) []) []

unfoldable pub marks_calls : Ray → Marks → List Call
marks_calls q4 m = bend_calls q4 m.reference ++ option_map_or (λ l. bend_calls q4 l.center ++ at_ends (bend_calls q4) l.range) m.limits []

unfoldable pub free_calls : Free → List Call
free_calls f = cond (finite f.near) (marks_calls f.wrist.q4 f.fifth) []

-- ---- two free joints

-- joint 5 at an end of its limits, joint 2 at an end of its own: a squared norm
unfoldable pub fold_calls : Vector → Float → Float → Float → List Call
fold_calls z q3 angle5 angle2 = norm_calls (fold z (angle2 ⊕ q3)) (across z) (Pose.vector_length z ⊗ abs (sin_cos angle5).sine)

unfoldable pub slice_calls : Folded → List Call
slice_calls t = at_ends (λ angle5. at_ends (fold_calls t.matrix.z t.q3 angle5) t.range2) t.range5

-- each curve alone, and with each earlier one, in a chart
unfoldable pub chart_calls : Chart → List Curve → List Call
chart_calls c l = map (λ p. record { coefficients = p; lower = c.lower; upper = c.upper }) (calls (all_polynomials c.origin l))

unfoldable pub halves_calls : Folded → Float → Float → List Call
halves_calls t lower upper =
    let m = middle lower upper in
    slice_calls t ++ (chart_calls (chart lower m) (curves t) ++ chart_calls (chart m upper) (curves t))

unfoldable pub folded_calls : Folded → List Call
folded_calls t = on_interval t.range1 [] (halves_calls t)

-- ---- a job

unfoldable pub inner_calls : Job → List Call
inner_calls job = by_kind job.kind (free_calls (first_free job)) (free_calls (second_free job)) (folded_calls (folded job))
