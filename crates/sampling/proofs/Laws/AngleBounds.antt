-- Every angle of a job lies within ±32. One free joint: its cuts lie within ±8, so what is tried between two of them lies within ±16.
-- Two free joints: the cuts of both halves lie within ±32, and the middle of two neighbours lies between them.
use Rattle.std.specs.Prelude.{None, Some, ◌≡◌, refl, Bool, cond, pos, T, Float}
use Rattle.std.proofs.Math.Bool.{true, false}
use mathlib.Core.List.{List, [], ◌∷◌, ◌++◌}
use Rattle.std.specs.Float.{nan, inf, fin}
use Rattle.std.specs.Float.Ieee.{binary64, neg, add, sub, rem, lt, is_nan, fits}
use Rattle.std.specs.Float.Ieee.Fits.{add-fits, sub-fits}
use Rattle.std.specs.Float.Ieee.Scale.{finite}
use Rattle.float.specs.Number.{◌⊕◌, ◌⊖◌, ◌⊗◌, abs, rem_euclid, minimum, maximum, middle, one_float, two_float}
use Rattle.float.specs.Trig.{P, widest, four_float}
use Rattle.float.specs.Promises.Order.{Within, Span}
use Rattle.float.specs.Laws.Le.{le→Le, add_mono}
use Rattle.float.specs.Laws.Within.{fits→held, weaken, numeral, numeral_beyond, add_within, sub_within, mul_within, div_within}
use Rattle.float.specs.Laws.Interval.{Le-refl}
use Rattle.float.specs.Laws.Middle.{middle_within, left_half, right_half}
use Rattle.float.specs.Laws.Range.{within_abs}
use Rattle.polynomial.specs.Angle.{two_pi, wrapped_angle}
use Rattle.polynomial.specs.Cuts.{cuts}
use Rattle.polynomial.specs.Promises.Lists.{All, Fit}
use Rattle.polynomial.specs.Laws.Cuts.{Strict, all_cuts, fit_cuts, strict_cuts}
use Rattle.polynomial.specs.Laws.Lists.{all_append}
use Rattle.polynomial.specs.Laws.Wrapped.{wrapped_within}
use Rattle.sampling.specs.Angles.{first_free, second_free, by_kind, angles}
use Rattle.sampling.specs.Continuum.{root_roundoff}
use Rattle.sampling.specs.Intervals.{Range, interval, wrist_limit_intervals}
use Rattle.sampling.specs.J1j2free.{folded, curves, bends, half_cuts, first_half, second_half, on_interval, all_slices}
use Rattle.sampling.specs.CriticalSlices.{chart}
use Rattle.sampling.specs.Marks.{model_angle}
use Rattle.sampling.specs.Promises.Charts.{Bounded, Charted}
use Rattle.sampling.specs.Promises.Halves.{half_values}
use Rattle.sampling.specs.Promises.Plan.{Moderate}
use Rattle.sampling.specs.SampleAngles.{free, roots, intervals, first_cuts, second_cuts, third_cuts, sample_angles}
use Rattle.sampling.specs.Samples.{copies, windings, all_windings, interval_values, interval_cuts, inset, between, all_between, samples, three_samples}
use Rattle.sampling.specs.Slices.{mids, slices}
use Rattle.sampling.proofs.Laws.Charts.{limits_charted}
use Rattle.sampling.proofs.Laws.Intervals.{Cut, interval_cut}
use Rattle.sampling.proofs.Laws.J1j2free.{half_fit, half_cuts_are}
use Rattle.sampling.proofs.Laws.Limits.{Ends, ends_span, limits_ends}
use Rattle.sampling.proofs.Laws.Reference.{reference_within}
use Rattle.sampling.proofs.Laws.SliceBounds.{eight, all_small, copies_within, half_small}
use Rattle.sampling.proofs.Laws.Woven.{Small, neighbours}
use Rattle.sampling.specs.declared.constraints.Center.{Center}
use Rattle.sampling.specs.declared.continuum.Axes.{Axes}
use Rattle.sampling.specs.declared.j1j2free.Folded.{Folded}
use Rattle.sampling.specs.declared.job.Job.{Job}
use Rattle.sampling.specs.declared.job.Joint.{Joint}
use Rattle.sampling.specs.declared.job.Kind.{Kind}
use Rattle.sampling.specs.declared.job.Kind.TheVariants.{J1free, J2free, J1j2free}
use Rattle.sampling.specs.declared.sample_angles.Free.{Free}

abbrev sixteen : Float
sixteen = fin false 1 (pos 4)

-- ---- one free joint: the reference

-- a wrapped angle that is finite was finite before, so it lies within P
finite_wrapped : (x : Float) → T (fits binary64 x) → T (finite (wrapped_angle x)) → Within P (wrapped_angle x)
unfolding wrapped_angle rem_euclid add sub rem lt neg
finite_wrapped nan t f = absurd f
finite_wrapped (inf s) t f = absurd f
finite_wrapped (fin s m e) t f = wrapped_within (fin s m e) (fits→held binary64 (fin s m e) t tt)

near_within : (sign offset angle : Float) → T (finite (model_angle sign offset angle)) → Within P (model_angle sign offset angle)
unfolding model_angle
near_within sign offset angle f =
    finite_wrapped (wrapped_angle angle ⊗ sign ⊖ wrapped_angle offset) (sub-fits binary64 (wrapped_angle angle ⊗ sign) (wrapped_angle offset)) f

-- ---- one free joint: the cuts

-- an interval of displacements, if there is one, is in order and lies within P
abbrev RangeCut : Range → Type 0
RangeCut None = Unit {0}
RangeCut (Some (lower, upper)) = Cut lower upper

interval_range : (c : Center) (shift : Float) → RangeCut (interval c shift)
interval_range c shift = go (interval c shift) refl
  where
    go : (g : Range) → interval c shift ≡ g → RangeCut g
    go None e = tt
    go (Some (lower, upper)) e = interval_cut c shift lower upper e

-- around a reference within P its ends lie within 2P
around_span : {near lower upper : Float} → Within P near → Cut lower upper → Span 3 (near ⊕ lower) (near ⊕ upper)
around_span {near} {lower} {upper} w c =
    let l = add_within binary64 two_pi tt w c.lower_within in
    let u = add_within binary64 two_pi tt w c.upper_within in
    ends_span (record {
      lower_fits = add-fits binary64 near lower;
      upper_fits = add-fits binary64 near upper;
      lower_within = l;
      upper_within = u;
      order = le→Le (near ⊕ lower) (near ⊕ upper) l.real u.real (add_mono binary64 (Le-refl near w.real) c.order);
    })

module _ (lower upper : Float) (s : Span 3 lower upper) where
  windings_within : (root : Float) → All (Within eight) (windings lower upper root)
  unfolding windings
  windings_within root = go (finite root)
    where
      go : (b : Bool) → All (Within eight) (cond b (copies lower upper root) [])
      go true = copies_within lower upper s root
      go false = tt

  all_windings_within : (l : List Float) → All (Within eight) (all_windings lower upper l)
  unfolding all_windings
  all_windings_within [] = tt
  all_windings_within (x ∷ l) =
      all_append (Within eight) (windings lower upper x) (all_windings lower upper l) (windings_within x) (all_windings_within l)

values_within : (near : Float) (l : List Float) (g : Range) → Within P near → RangeCut g → All (Within eight) (interval_values near l g)
unfolding interval_values
values_within near l None w c = tt
values_within near l (Some (lower, upper)) w c =
    let s = around_span w c in
    all_append (Within eight) ((near ⊕ lower) ∷ [] ++ (near ⊕ upper) ∷ []) (all_windings (near ⊕ lower) (near ⊕ upper) l)
    (s.lo_within, (s.hi_within, tt)) (all_windings_within (near ⊕ lower) (near ⊕ upper) s l)

-- ---- one free joint: the samples between two cuts

picked : {B x y : Float} (b : Bool) → Within B x → Within B y → Within B (cond b x y)
picked true h k = h
picked false h k = k

module _ {B x y : Float} (h : Within B x) (k : Within B y) where
  minimum_within : Within B (minimum x y)
  unfolding minimum
  minimum_within = picked (is_nan x) k (picked (lt y x) k h)

  maximum_within : Within B (maximum x y)
  unfolding maximum
  maximum_within = picked (is_nan x) k (picked (lt x y) k h)

module _ {a b : Float} (h : Within eight a) (k : Within eight b) where
  gap_within : Within sixteen (b ⊖ a)
  gap_within = sub_within binary64 sixteen tt k h

  inset_within : Within eight (inset a b)
  unfolding inset
  inset_within =
      let size : Within sixteen (one_float ⊕ maximum (abs a) (abs b)) = add_within binary64 sixteen tt
      (numeral one_float one_float tt) (maximum_within (within_abs h) (within_abs k)) in
      minimum_within (mul_within binary64 eight tt (numeral root_roundoff root_roundoff tt) size)
      (div_within binary64 eight tt gap_within (numeral_beyond four_float four_float tt))

  middle_small : Small (middle a b)
  unfolding middle
  middle_small = add_within binary64 widest tt h (div_within binary64 eight tt gap_within (numeral_beyond two_float two_float tt))

  between_small : All Small (between a b)
  unfolding between
  between_small = (add_within binary64 widest tt h inset_within, (middle_small, (sub_within binary64 widest tt k inset_within, tt)))

all_between_small : (l : List Float) → All (Within eight) l → All Small (all_between l)
unfolding all_between
all_between_small [] h = tt
all_between_small (a ∷ []) h = tt
all_between_small (a ∷ (b ∷ l)) h =
    all_append Small (between a b) (all_between (b ∷ l)) (between_small h.0 h.1.0) (all_between_small (b ∷ l) h.1)

samples_small : (l : List Float) → All (Within eight) l → All Small (samples l)
unfolding samples
samples_small l h = all_append Small l (all_between l) (all_small l h) (all_between_small l h)

-- ---- one free joint: the angles

-- where the reference is not finite there is no cut
cuts_within : (near : Float) (l : List Float) (g : Range) → (T (finite near) → Within P near) → RangeCut g
    → All (Within eight) (cond (finite near) (interval_cuts near l g) [])
unfolding interval_cuts
cuts_within near l g w c = go (finite near) w
  where
    go : (b : Bool) → (T b → Within P near) → All (Within eight) (cond b (cuts (interval_values near l g)) [])
    go true w = all_cuts (Within eight) (interval_values near l g) (values_within near l g (w tt) c)
    go false w = tt

sample_angles_small : (f : Free) → (T (finite f.near) → Within P f.near) → All Small (sample_angles f)
unfolding sample_angles three_samples first_cuts second_cuts third_cuts intervals wrist_limit_intervals
sample_angles_small f w =
    let small : (g : Range) → RangeCut g → All Small (samples (cond (finite f.near) (interval_cuts f.near (roots f) g) [])) = λ g c.
    samples_small (cond (finite f.near) (interval_cuts f.near (roots f) g) []) (cuts_within f.near (roots f) g w c) in
    all_append Small (samples (first_cuts f) ++ samples (second_cuts f)) (samples (third_cuts f))
    (all_append Small (samples (first_cuts f)) (samples (second_cuts f)) (small (intervals f).first (interval_range _ _))
    (small (intervals f).second (interval_range _ _)))
    (small (intervals f).third (interval_range _ _))

free_small : (axes : Axes) (job : Job) (j : Joint) → All Small (sample_angles (free axes job j))
unfolding free
free_small axes job j = sample_angles_small (free axes job j) (near_within j.sign j.offset j.reference)

-- ---- two free joints

mids_small : (l : List Float) → Fit l → All Small l → Strict l → All Small (mids l)
unfolding mids
mids_small [] f h a = tt
mids_small (x ∷ []) f h a = tt
mids_small (x ∷ (y ∷ l)) f h a =
    (middle_within (neighbours x y f.0 f.1.0 h.0 h.1.0 a.0 a.1), mids_small (y ∷ l) f.1 h.1 a.2)

cuts_mids_small : (l : List Float) → Fit l → All Small l → All Small (cuts l ++ mids (cuts l))
cuts_mids_small l f h =
    let c = all_cuts Small l h in
    all_append Small (cuts l) (mids (cuts l)) c (mids_small (cuts l) (fit_cuts l f) c (strict_cuts l))

half_all : (t : Folded) (lower upper : Float) → Span 3 lower upper → Bounded (chart lower upper)
    → All Small (half_cuts t lower upper ++ mids (half_cuts t lower upper))
half_all t lower upper s b =
    rw (half_cuts_are t lower upper s.lo_fits s.hi_fits)
    (cuts_mids_small (half_values (curves t) (bends t) lower upper) (half_fit t lower upper s.lo_fits s.hi_fits) (half_small lower upper s t b))

slices_small : (t : Folded) (lower upper : Float) → Small t.reference → Ends lower upper → Charted (Some (lower, upper))
    → All Small (slices t.reference lower upper (first_half t lower upper) (second_half t lower upper))
unfolding slices first_half second_half
slices_small t lower upper r e c =
    let s = ends_span e in
    let a = half_cuts t lower (middle lower upper) in
    let b = half_cuts t (middle lower upper) upper in
    let halves = all_append Small (a ++ mids a) (b ++ mids b) (half_all t lower (middle lower upper) (left_half s) c.0)
    (half_all t (middle lower upper) upper (right_half s) c.1) in
    all_cuts Small (t.reference ∷ lower ∷ upper ∷ ((a ++ mids a) ++ (b ++ mids b)))
    (r, (weaken widest tt s.lo_within, (weaken widest tt s.hi_within, halves)))

all_slices_small : (t : Folded) → Small t.reference → ((lower upper : Float) → t.range1 ≡ Some (lower, upper) → Ends lower upper) → Charted t.range1
    → All Small (all_slices t)
unfolding all_slices
all_slices_small t r e c = go t.range1 e c
  where
    go : (g : Range) → ((lower upper : Float) → g ≡ Some (lower, upper) → Ends lower upper) → Charted g
        → All Small (on_interval g [] (λ lower upper. slices t.reference lower upper (first_half t lower upper) (second_half t lower upper)))
    go None e c = tt
    go (Some (lower, upper)) e c = slices_small t lower upper r (e lower upper refl) c

pub folded_small : (job : Job) → T (fits binary64 job.j1.reference) → Moderate job.j1 → All Small (all_slices (folded job))
unfolding folded
folded_small job fit m =
    all_slices_small (folded job) (weaken widest tt (reference_within job.j1 fit m))
    (λ lower upper e. limits_ends job.limited job.j1 lower upper fit m.sign m.offset e)
    (limits_charted job.limited job.j1 fit m.sign m.offset)

-- THEOREM: Every angle of a job lies within ±32, if joint 1 of kind 3 has a fitting finite reference, a sign of 1 or -1 and an
-- offset within a turn. Kinds 1 and 2 ask nothing: where their reference is not finite they have no angle.
pub angles_small : (job : Job) → T (fits binary64 job.j1.reference) → (job.kind ≡ J1j2free → Moderate job.j1) → All Small (angles job)
unfolding angles first_free second_free
angles_small job fit m = go job.kind refl
  where
    go : (k : Kind) → job.kind ≡ k → All Small (by_kind k (sample_angles (first_free job)) (sample_angles (second_free job)) (all_slices (folded job)))
    go J1free e = free_small _ job job.j1
    go J2free e = free_small _ job job.j2
    go J1j2free e = folded_small job fit (m e)
