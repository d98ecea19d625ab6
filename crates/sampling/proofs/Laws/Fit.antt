-- Every angle of a job is a float that the format holds, so that its 64 bits stand for it.
use Rattle.std.specs.Prelude.{None, Some, Bool, true, false, not, ◌||◌, cond, List, [], ◌∷◌, ◌++◌, Float}
use Rattle.std.proofs.Common.{sym, subst}
use Rattle.std.specs.Float.{binary64}
use Rattle.std.specs.Float.Ieee.{lt, is_nan}
use Rattle.std.specs.Float.Ieee.Fits.{add-fits, sub-fits}
use Rattle.std.specs.Float.Ieee.Scale.{finite}
use Rattle.float.specs.Number.{◌⊕◌, ◌⊖◌, ◌⊗◌, middle, minimum, zero_float}
use Rattle.float.specs.Trig.{P}
use Rattle.polynomial.specs.Angle.{wrapped_angle}
use Rattle.polynomial.specs.Cuts.{cuts}
use Rattle.polynomial.specs.Promises.Lists.{Fits, Fit}
use Rattle.polynomial.specs.Laws.Cuts.{fit_append, fit_cuts}
use Rattle.sampling.specs.Samples.{copies, windings, all_windings, interval_values, interval_cuts, inset, between, all_between, samples, three_samples}
use Rattle.sampling.specs.SampleAngles.{roots, intervals, first_cuts, second_cuts, third_cuts, sample_angles}
use Rattle.sampling.specs.Slices.{mids, slices}
use Rattle.sampling.specs.Limits.{centered, limits_of, limits}
use Rattle.sampling.specs.J1j2free.{model_reference, folded, curves, bends, half_cuts, first_half, second_half, on_interval, all_slices}
use Rattle.sampling.specs.Angles.{first_free, second_free, by_kind, angles}
use Rattle.sampling.specs.Promises.Halves.{half_values}
use Rattle.sampling.proofs.Laws.J1j2free.{picked, copies_fit, half_fit, half_cuts_are}
use Rattle.sampling.specs.declared.constraints.Center.{Center}
use Rattle.sampling.specs.declared.sample_angles.Free.{Free}
use Rattle.sampling.specs.declared.j1j2free.Folded.{Folded}
use Rattle.sampling.specs.declared.job.Job.{Job}
use Rattle.sampling.specs.declared.job.Joint.{Joint}
use Rattle.sampling.specs.declared.job.Kind.{Kind}
use Rattle.sampling.specs.declared.job.Kind.TheVariants.{J1free, J2free, J1j2free}
use Rattle.sampling.specs.Intervals.{Range}

middle_fits : (a b : Float) → Fits (middle a b)
unfolding middle
middle_fits a b = add-fits binary64 a _

-- ---- one free joint: every cut and every sample is a sum or a difference

windings_fit : (lower upper root : Float) → Fit (windings lower upper root)
unfolding windings
windings_fit lower upper root = picked (finite root) (copies lower upper root) (copies_fit lower upper root)

all_windings_fit : (lower upper : Float) (l : List Float) → Fit (all_windings lower upper l)
unfolding all_windings
all_windings_fit lower upper [] = tt
all_windings_fit lower upper (a ∷ l) = fit_append (windings lower upper a) (all_windings lower upper l) (windings_fit lower upper a)
    (all_windings_fit lower upper l)

values_fit : (near : Float) (l : List Float) (g : Range) → Fit (interval_values near l g)
unfolding interval_values
values_fit near l None = tt
values_fit near l (Some (lower, upper)) =
    fit_append ((near ⊕ lower) ∷ [] ++ (near ⊕ upper) ∷ []) (all_windings (near ⊕ lower) (near ⊕ upper) l)
    (add-fits binary64 near lower, (add-fits binary64 near upper, tt)) (all_windings_fit (near ⊕ lower) (near ⊕ upper) l)

interval_fit : (b : Bool) (near : Float) (l : List Float) (g : Range) → Fit (cond b (interval_cuts near l g) [])
unfolding interval_cuts
interval_fit b near l g = picked b (cuts (interval_values near l g)) (fit_cuts (interval_values near l g) (values_fit near l g))

between_fit : (a b : Float) → Fit (between a b)
unfolding between
between_fit a b = (add-fits binary64 a (inset a b), (middle_fits a b, (sub-fits binary64 b (inset a b), tt)))

all_between_fit : (l : List Float) → Fit (all_between l)
unfolding all_between
all_between_fit [] = tt
all_between_fit (a ∷ []) = tt
all_between_fit (a ∷ (b ∷ l)) = fit_append (between a b) (all_between (b ∷ l)) (between_fit a b) (all_between_fit (b ∷ l))

samples_fit : (l : List Float) → Fit l → Fit (samples l)
unfolding samples
samples_fit l f = fit_append l (all_between l) f (all_between_fit l)

sample_angles_fit : (f : Free) → Fit (sample_angles f)
unfolding sample_angles three_samples first_cuts second_cuts third_cuts
sample_angles_fit f =
    fit_append (samples (first_cuts f) ++ samples (second_cuts f)) (samples (third_cuts f))
    (fit_append (samples (first_cuts f)) (samples (second_cuts f))
    (samples_fit (first_cuts f) (interval_fit (finite f.near) f.near (roots f) (intervals f).first))
    (samples_fit (second_cuts f) (interval_fit (finite f.near) f.near (roots f) (intervals f).second)))
    (samples_fit (third_cuts f) (interval_fit (finite f.near) f.near (roots f) (intervals f).third))

-- ---- two free joints

mids_fit : (l : List Float) → Fit (mids l)
unfolding mids
mids_fit [] = tt
mids_fit (a ∷ []) = tt
mids_fit (a ∷ (b ∷ l)) = (middle_fits a b, mids_fit (b ∷ l))

half_cuts_fit : (t : Folded) (lower upper : Float) → Fits lower → Fits upper → Fit (half_cuts t lower upper)
half_cuts_fit t lower upper f g =
    subst Fit (sym (half_cuts_are t lower upper f g)) (fit_cuts (half_values (curves t) (bends t) lower upper) (half_fit t lower upper f g))

slices_fit : (t : Folded) (lower upper : Float) → Fits t.reference → Fits lower → Fits upper
    → Fit (slices t.reference lower upper (first_half t lower upper) (second_half t lower upper))
unfolding slices first_half second_half
slices_fit t lower upper r f g =
    let a = half_cuts t lower (middle lower upper) in
    let b = half_cuts t (middle lower upper) upper in
    let p : Fit a = half_cuts_fit t lower (middle lower upper) f (middle_fits lower upper) in
    let q : Fit b = half_cuts_fit t (middle lower upper) upper (middle_fits lower upper) g in
    let h : Fit ((a ++ mids a) ++ (b ++ mids b)) = fit_append (a ++ mids a) (b ++ mids b) (fit_append a (mids a) p (mids_fit a))
    (fit_append b (mids b) q (mids_fit b)) in
    fit_cuts (t.reference ∷ lower ∷ upper ∷ ((a ++ mids a) ++ (b ++ mids b))) (r, (f, (g, h)))

abbrev RangeFits : Range → Type 0
RangeFits None = Unit {0}
RangeFits (Some (lower, upper)) = Fits lower × Fits upper

all_slices_fit : (t : Folded) (g : Range) → Fits t.reference → RangeFits g
    → Fit (on_interval g [] (λ lower upper. slices t.reference lower upper (first_half t lower upper) (second_half t lower upper)))
all_slices_fit t None r f = tt
all_slices_fit t (Some (lower, upper)) r f = slices_fit t lower upper r f.0 f.1

limits_fit : (c : Center) (sign offset : Float) → RangeFits (limits_of c sign offset)
unfolding limits_of
limits_fit c sign offset = go (is_nan c.tolerance || lt c.tolerance zero_float || not (finite c.center))
  where
    go : (x : Bool)
        → RangeFits (cond x None
        (Some (
          wrapped_angle (wrapped_angle c.center ⊗ sign ⊖ offset) ⊖ minimum c.tolerance P,
          wrapped_angle (wrapped_angle c.center ⊗ sign ⊖ offset) ⊕ minimum c.tolerance P,
        )))
    go true = tt
    go false = (sub-fits binary64 _ (minimum c.tolerance P), add-fits binary64 _ (minimum c.tolerance P))

reference_fits : (j : Joint) → Fits (model_reference j)
unfolding model_reference wrapped_angle
reference_fits j = sub-fits binary64 _ P

pub angles_fit : (job : Job) → Fit (angles job)
unfolding angles all_slices folded limits
angles_fit job = go job.kind
  where
    go : (k : Kind) → Fit (by_kind k (sample_angles (first_free job)) (sample_angles (second_free job)) (all_slices (folded job)))
    go J1free = sample_angles_fit (first_free job)
    go J2free = sample_angles_fit (second_free job)
    go J1j2free =
        all_slices_fit (folded job) (limits job.limited job.j1) (reference_fits job.j1)
        (limits_fit (centered job.limited job.j1) job.j1.sign job.j1.offset)
