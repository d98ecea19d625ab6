-- Every inner call of the root finder that a job makes is fair, if the job is what 01's refusals 2 to 8 leave: the operation Roots takes it, so 01's refusal 9
-- never came. Kinds 1 and 2 ask nothing of joint 5: its sine counts as a norm only where `narrow` finds it between 0 and 1.0e-4, whatever the angle was.
use Rattle.std.specs.Option.{option_map_or}
use Rattle.std.specs.Prelude.{Option, None, Some, ℕ, zero, suc, ◌<◌, ◌≡◌, refl, ◌⊎◌, Bool, true, false, cond, T, eqb, length, Float}
use Rattle.std.proofs.Common.{not-suc-le-zero, le_of_suc-le-suc, arith, lit≤}
use mathlib.Core.List.{List, [], ◌∷◌, ◌++◌, map}
use Rattle.std.specs.Float.{binary64}
use Rattle.std.specs.Float.Ieee.{round, neg, lt, eq, le, fits}
use Rattle.std.specs.Float.Ieee.Fits.{and_l, and_r}
use Rattle.std.specs.Float.Ieee.Scale.{finite}
use Rattle.float.specs.Number.{◌⊕◌, ◌⊗◌, abs, middle, zero_float, one_float}
use Rattle.float.specs.Trig.{P, widest, sin_cos}
use Rattle.float.specs.Promises.Order.{Within, Span}
use Rattle.float.specs.Laws.Le.{or_l}
use Rattle.float.specs.Laws.Within.{weaken, neg_within, add_within, sub_within, mul_within}
use Rattle.float.specs.Laws.Interval.{in_of, in_wider, in_within}
use Rattle.float.specs.Laws.Middle.{middle_within, left_half, right_half}
use Rattle.float.specs.Laws.Under.{Under, two_to, under_le, under_zero}
use Rattle.polynomial.specs.Angle.{two_pi}
use Rattle.polynomial.specs.InnerCalls.{Call, Fair, norm_calls}
use Rattle.polynomial.specs.Promises.Lists.{All}
use Rattle.polynomial.specs.declared.compensated.Compensated.{Compensated}
use Rattle.polynomial.specs.declared.curve.Curve.{Curve}
use Rattle.polynomial.specs.Laws.Lists.{all_append}
use Rattle.polynomial.specs.Laws.InnerCalls.{small_fair}
use Rattle.polynomial.specs.Laws.Size.{one_small}
use Rattle.polynomial.specs.Laws.SmallNorm.{Harmonic-under, norm_fair}
use Rattle.sampling.specs.Limits.{centered, limits_of, limits}
use Rattle.sampling.specs.Wrist.{wrist}
use Rattle.sampling.specs.Bends.{harmonic, narrow}
use Rattle.sampling.specs.Boundaries.{wrist_limits}
use Rattle.sampling.specs.SampleAngles.{free}
use Rattle.sampling.specs.CriticalSlices.{Chart, Polynomials, chart, polynomials, all_polynomials, tangency, intersection, at, asked, calls}
use Rattle.sampling.specs.Pairs.{order}
use Rattle.sampling.specs.J1j2free.{sixth_limits, folded, curves, on_interval}
use Rattle.sampling.specs.Angles.{first_free, second_free, by_kind}
use Rattle.sampling.specs.InnerCalls.{at_ends, bend_calls, marks_calls, free_calls, chart_calls, halves_calls, slice_calls, folded_calls, inner_calls}
use Rattle.sampling.specs.Promises.Charts.{Bounded, Charted}
use Rattle.sampling.specs.declared.continuum.Axes.{Axes}
use Rattle.sampling.specs.declared.continuum.TrigVector.{TrigVector}
use Rattle.sampling.specs.declared.j1j2free.Folded.{Folded}
use Rattle.sampling.specs.declared.job.Arm.{Arm}
use Rattle.sampling.specs.declared.job.Job.{Job}
use Rattle.sampling.specs.declared.job.Joint.{Joint}
use Rattle.sampling.specs.declared.job.Kind.{Kind}
use Rattle.sampling.specs.declared.job.Kind.TheVariants.{J1free, J2free, J1j2free}
use Rattle.sampling.specs.declared.marks.Marks.{Marks}
use Rattle.sampling.specs.declared.marks.Limits.{Limits}
use Rattle.sampling.specs.declared.pose.Vector.{Vector}
use Rattle.sampling.specs.declared.wrist.Ray.{Ray}
use Rattle.sampling.proofs.Laws.Limits.{ends_span, limits_ends}
use Rattle.sampling.proofs.Laws.Charts.{limits_charted}
use Rattle.sampling.proofs.Laws.SliceBounds.{eight}
use Rattle.sampling.proofs.Laws.Pairs.{Placed, order_placed}
use Rattle.sampling.proofs.Laws.Pose.{seventeen, Vector-within, Matrix-within}
use Rattle.sampling.proofs.Laws.SmallCurves.{Curve-under, tangency_length, tangency_small, intersection_length, intersection_small}
use Rattle.sampling.proofs.Laws.SmallBoundaries.{sine_under, cosine_under, Ranged, none, some, boundaries_small, slices_fair}
use Rattle.sampling.specs.Pose as Pose
use Rattle.sampling.specs.Continuum as Continuum
use Rattle.sampling.specs.J1free as J1free
use Rattle.sampling.specs.J2free as J2free
use Rattle.sampling.specs.Intervals.{Range}

-- ---- one free joint: joint 5's calls, at any angles

-- calls that are made where a test holds
where_true : (l : List Call) (b : Bool) → (T b → All Fair l) → All Fair (cond b l [])
where_true l true h = h tt
where_true l false h = tt

narrow_under : (x : Float) → T (narrow x) → Under 0 x
unfolding narrow round le neg
narrow_under x t =
    let c = round binary64 false 1 10000 in
    let lower = or_l (lt zero_float x) (eq zero_float x) (and_l (lt zero_float x) (lt x c) t) in
    let upper = or_l (lt x c) (eq x c) (and_r (lt zero_float x) (lt x c) t) in
    in_within {B = one_float} tt (in_wider (neg one_float) one_float tt (in_of zero_float c x tt lower upper))

module _ (q4 : Ray) (u : Harmonic-under 10 (harmonic q4.x)) (v : Harmonic-under 10 (harmonic q4.y)) where
  bend_fair : (angle : Float) → All Fair (bend_calls q4 angle)
  unfolding bend_calls
  bend_fair angle =
      let s = abs (sin_cos angle).sine in
      let l = norm_calls (harmonic q4.x) (harmonic q4.y) s in
      where_true (cond (narrow s) l []) (finite angle) (λ f. where_true l (narrow s)
      (λ t. norm_fair 10 (harmonic q4.x) (harmonic q4.y) s (lit≤ tt) u v (under_le 0 10 (lit≤ tt) (narrow_under s t))))

  bends_fair : (r : Range) → All Fair (at_ends (bend_calls q4) r)
  bends_fair None = tt
  bends_fair (Some (lower, upper)) = all_append Fair (bend_calls q4 lower) (bend_calls q4 upper) (bend_fair lower) (bend_fair upper)

  limits_fair : (o : Option Limits) → All Fair (option_map_or (λ (l : Limits). bend_calls q4 l.center ++ at_ends (bend_calls q4) l.range) o [])
  limits_fair None = tt
  limits_fair (Some l) = all_append Fair (bend_calls q4 l.center) (at_ends (bend_calls q4) l.range) (bend_fair l.center) (bends_fair l.range)

  marks_fair : (m : Marks) → All Fair (marks_calls q4 m)
  unfolding marks_calls
  marks_fair m =
      all_append Fair (bend_calls q4 m.reference) (option_map_or (λ (l : Limits). bend_calls q4 l.center ++ at_ends (bend_calls q4) l.range) m.limits [])
      (bend_fair m.reference) (limits_fair m.limits)

-- ---- one free joint: the columns of the arm's rotation have parts of at most 2 ^ 3, joint 4's vector of at most 2 ^ 10

vector_within : {B x y z : Float} → Within B x → Within B y → Within B z → Vector-within B (Pose.vector x y z)
unfolding Pose.vector
vector_within a b c = record { x = a; y = b; z = c }

negated_within : {B : Float} {v : Vector} → Vector-within B v → Vector-within B (Pose.negated v)
unfolding Pose.negated
negated_within h = vector_within (neg_within h.x) (neg_within h.y) (neg_within h.z)

times_within : {v : Vector} {f : Float} → Vector-within (two_to 1) v → Under 1 f → Vector-within (two_to 2) (Pose.times v f)
unfolding Pose.times
times_within h g =
    vector_within (mul_within binary64 (two_to 2) tt h.x g) (mul_within binary64 (two_to 2) tt h.y g) (mul_within binary64 (two_to 2) tt h.z g)

minus_within : {v w : Vector} → Vector-within (two_to 2) v → Vector-within (two_to 2) w → Vector-within (two_to 3) (Pose.minus v w)
unfolding Pose.minus
minus_within h k =
    vector_within (sub_within binary64 (two_to 3) tt h.x k.x) (sub_within binary64 (two_to 3) tt h.y k.y)
    (sub_within binary64 (two_to 3) tt h.z k.z)

dot_under : {a b : Vector} → Vector-within (two_to 3) a → Vector-within seventeen b → Under 10 (Pose.dot a b)
unfolding Pose.dot
dot_under h k = add_within binary64 (two_to 10) tt (add_within binary64 (two_to 9) tt (by h.x k.x) (by h.y k.y)) (by h.z k.z)
  where
    by : {x y : Float} → Under 3 x → Within seventeen y → Under 8 (x ⊗ y)
    by x y = mul_within binary64 (two_to 8) tt x y

record Column (t : TrigVector) : Type 0 where
  cosine : Vector-within (two_to 3) t.cosine
  sine : Vector-within (two_to 3) t.sine
  constant : Vector-within (two_to 3) t.constant

column_under : {t : TrigVector} {v : Vector} → Column t → Vector-within seventeen v → Harmonic-under 10 (harmonic (Continuum.dot t v))
unfolding harmonic Continuum.dot
column_under h k = record { constant = dot_under h.constant k; cosine = dot_under h.cosine k; sine = dot_under h.sine k }

-- the columns that joint 4's vector takes
record Columns (a : Axes) : Type 0 where
  x : Column a.x
  y : Column a.y

first_columns : (arm : Arm) → Within widest (arm.q2 ⊕ arm.q3) → Columns (J1free.arm_axes arm)
unfolding J1free.arm_axes
first_columns arm w =
    let s = under_le 1 3 (lit≤ tt) (sine_under w) in
    let c = under_le 1 3 (lit≤ tt) (cosine_under w) in
    let one = under_le 0 3 (lit≤ tt) one_small in
    let o = under_zero 3 in
    record {
      x = record { cosine = vector_within c o o; sine = vector_within o c o; constant = vector_within o o (neg_within s) };
      y = record { cosine = vector_within o one o; sine = negated_within (vector_within one o o); constant = vector_within o o o };
    }

second_columns : (arm : Arm) → Within widest arm.q1 → Within widest arm.q3 → Columns (J2free.arm_axes arm)
unfolding J2free.arm_axes J2free.x_axis
second_columns arm u w =
    let o = under_zero 3 in
    let radial = vector_within (cosine_under u) (sine_under u) (under_zero 1) in
    let up = vector_within (under_zero 1) (under_zero 1) (under_le 0 1 (lit≤ tt) one_small) in
    record {
      x = record {
        cosine = minus_within (times_within radial (cosine_under w)) (times_within up (sine_under w));
        sine = minus_within (times_within (negated_within radial) (sine_under w)) (times_within up (cosine_under w));
        constant = vector_within o o o;
      };
      y = record {
        cosine = vector_within o o o;
        sine = vector_within o o o;
        constant = vector_within (under_le 1 3 (lit≤ tt) (neg_within (sine_under u))) (under_le 1 3 (lit≤ tt) (cosine_under u)) o;
      };
    }

free_fair : (a : Axes) (job : Job) (j : Joint) → Columns a → Matrix-within seventeen job.matrix → All Fair (free_calls (free a job j))
unfolding free_calls free wrist
free_fair a job j h k =
    let f = free a job j in
    where_true (marks_calls f.wrist.q4 f.fifth) (finite f.near)
    (λ t. marks_fair f.wrist.q4 (column_under h.x k.z) (column_under h.y k.z) f.fifth)

-- ---- two free joints: the calls of a chart

module _ (c : Chart) (w : Within widest c.origin) (b : Bounded c) where
  abbrev call : List Compensated → Call
  call p = record { coefficients = p; lower = c.lower; upper = c.upper }

  -- the polynomials of a curve whose coefficients are at most 2 ^ 7
  data Drawn : Polynomials → Type 0 where
    drawn : (q : Curve) → Curve-under 7 q → Drawn (polynomials q c.origin)

  drawn_at : (l : List Curve) (i : ℕ) → All (Curve-under 7) l → i < length (all_polynomials c.origin l) → Drawn (at (all_polynomials c.origin l) i)
  drawn_at [] i h k = absurd (not-suc-le-zero k)
  drawn_at (q ∷ l) zero h k = drawn q h.0
  drawn_at (q ∷ l) (suc i) h k = drawn_at l i h.1 (le_of_suc-le-suc k)

  either_fair : (own : Bool) {p q : Polynomials} → Drawn p → Drawn q → Fair (call (cond own (tangency q) (intersection p q)))
  either_fair true h (drawn q u) =
      let e = tangency_length q c.origin in
      small_fair c.lower c.upper b (tangency_small 7 (lit≤ tt) c.origin w q u) (omega arith)
  either_fair false (drawn p u) (drawn q v) =
      let e = intersection_length p q c.origin in
      small_fair c.lower c.upper b (intersection_small 7 (lit≤ tt) c.origin w p q u v) (omega arith)

  module _ (l : List Curve) (h : All (Curve-under 7) l) where
    abbrev ks : List Polynomials
    ks = all_polynomials c.origin l

    places_fair : (ps : List (ℕ × ℕ)) → All (Placed (length ks)) ps → All Fair (map call (map (asked ks) ps))
    unfolding asked
    places_fair [] k = tt
    places_fair ((i, j) ∷ ps) k =
        (either_fair (eqb i j) (drawn_at l i h (omega arith)) (drawn_at l j h k.0.1), places_fair ps k.1)

pub chart_fair : (c : Chart) (l : List Curve) → Within widest c.origin → Bounded c → All (Curve-under 7) l → All Fair (chart_calls c l)
unfolding chart_calls calls
chart_fair c l w b h =
    let n = length (all_polynomials c.origin l) in
    places_fair c w b l h (order n) (order_placed n)

half_fair : {lower upper : Float} (l : List Curve) → Span 3 lower upper → Bounded (chart lower upper) → All (Curve-under 7) l
    → All Fair (chart_calls (chart lower upper) l)
unfolding chart
half_fair {lower} {upper} l s b h = chart_fair (chart lower upper) l (weaken widest tt (middle_within s)) b h

-- slices, then the charts of both halves
halves_fair : (t : Folded) (lower upper : Float) → Span 3 lower upper → Charted (Some (lower, upper)) → All Fair (slice_calls t)
    → All (Curve-under 7) (curves t) → All Fair (halves_calls t lower upper)
unfolding halves_calls
halves_fair t lower upper s c a h =
    let m = middle lower upper in
    let first = chart_calls (chart lower m) (curves t) in
    let second = chart_calls (chart m upper) (curves t) in
    all_append Fair (slice_calls t) (first ++ second) a
    (all_append Fair first second (half_fair (curves t) (left_half s) c.0 h) (half_fair (curves t) (right_half s) c.1 h))

-- ---- two free joints: the joints' limits

-- what refusals 3 and 8 leave of a joint that is read
pub record Steady (j : Joint) : Type 0 where
  pub fit : T (fits binary64 j.reference)
  pub sign : (j.sign ≡ one_float) ⊎ (j.sign ≡ neg one_float)
  pub offset : Within two_pi j.offset

limits_ranged : (limited : Bool) (j : Joint) → Steady j → Ranged (limits limited j)
limits_ranged limited j s = go (limits limited j) refl
  where
    go : (r : Range) → limits limited j ≡ r → Ranged r
    go None e = none
    go (Some (lower, upper)) e =
        let k = limits_ends limited j lower upper s.fit s.sign s.offset e in
        some k.lower_within k.upper_within

wrist_ranged : (limited : Bool) (j : Joint) → (T limited → Steady j) → Ranged (wrist_limits limited j)
unfolding wrist_limits limits
wrist_ranged false j s = none
wrist_ranged true j s = go (le P (centered true j).tolerance)
  where
    go : (b : Bool) → Ranged (cond b None (limits_of (centered true j) j.sign j.offset))
    go true = none
    go false = limits_ranged true j (s tt)

sixth_ranged : (fixed limited : Bool) (j : Joint) → (T (cond fixed false limited) → Steady j) → Ranged (sixth_limits fixed limited j)
unfolding sixth_limits
sixth_ranged true limited j s = none
sixth_ranged false limited j s = wrist_ranged limited j s

-- ---- a job

-- what refusals 2 to 8 leave of a job of kind 3: a joint of the wrist is read where there are limits, joint 6 if it is not fixed
pub record Folds (job : Job) : Type 0 where
  pub arm : Within eight job.arm.q3
  pub first : Steady job.j1
  pub second : Steady job.j2
  pub fourth : T job.limited → Steady job.j4
  pub fifth : T job.limited → Steady job.j5
  pub sixth : T (cond job.fixed false job.limited) → Steady job.j6

folded_fair : (job : Job) → Matrix-within seventeen job.matrix → Folds job → All Fair (folded_calls (folded job))
unfolding folded_calls folded curves
folded_fair job h f =
    go (limits job.limited job.j1) refl (limits_charted job.limited job.j1 f.first.fit f.first.sign f.first.offset)
  where
    second : Ranged (limits job.limited job.j2)
    second = limits_ranged job.limited job.j2 f.second

    fifth : Ranged (wrist_limits job.limited job.j5)
    fifth = wrist_ranged job.limited job.j5 f.fifth

    go : (r : Range) → limits job.limited job.j1 ≡ r → Charted r → All Fair (on_interval r [] (halves_calls (folded job)))
    go None e c = tt
    go (Some (lower, upper)) e c =
        halves_fair (folded job) lower upper
        (ends_span (limits_ends job.limited job.j1 lower upper f.first.fit f.first.sign f.first.offset e)) c
        (slices_fair (folded job) h f.arm second fifth)
        (boundaries_small job.matrix job.arm.q3 _ _ _ _ h f.arm second (wrist_ranged job.limited job.j4 f.fourth) fifth
        (sixth_ranged job.fixed job.limited job.j6 f.sixth))

-- what they leave of a job, by its kind
pub record Domain (job : Job) : Type 0 where
  pub matrix : Matrix-within seventeen job.matrix
  pub first : job.kind ≡ J1free → Within widest (job.arm.q2 ⊕ job.arm.q3)
  pub second : job.kind ≡ J2free → Within widest job.arm.q1 × Within widest job.arm.q3
  pub both : job.kind ≡ J1j2free → Folds job

-- THEOREM: Every inner call of such a job is fair.
pub calls_fair : (job : Job) → Domain job → All Fair (inner_calls job)
unfolding inner_calls first_free second_free
calls_fair job d = go job.kind refl
  where
    go : (k : Kind) → job.kind ≡ k → All Fair (by_kind k (free_calls (first_free job)) (free_calls (second_free job)) (folded_calls (folded job)))
    go J1free e = free_fair (J1free.arm_axes job.arm) job job.j1 (first_columns job.arm (d.first e)) d.matrix
    go J2free e = free_fair (J2free.arm_axes job.arm) job job.j2 (second_columns job.arm (d.second e).0 (d.second e).1) d.matrix
    go J1j2free e = folded_fair job d.matrix (d.both e)

-- So is every call of joint 2, where joint 1 stands at any of these values.
pub rows_fair : (job : Job) (l : List Float) → Matrix-within seventeen job.matrix → Within widest job.arm.q3 → All (Within widest) l
    → All (λ a. All Fair (free_calls (free (J2free.arm_axes (record { q1 = a; q2 = zero_float; q3 = job.arm.q3 })) job job.j2))) l
rows_fair job [] h w k = tt
rows_fair job (a ∷ l) h w k =
    let arm : Arm = record { q1 = a; q2 = zero_float; q3 = job.arm.q3 } in
    (free_fair (J2free.arm_axes arm) job job.j2 (second_columns arm k.0 w) h, rows_fair job l h w k.1)
