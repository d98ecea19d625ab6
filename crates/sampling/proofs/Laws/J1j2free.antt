-- The cuts of a half as those of one list of values, which all fit.
use Rattle.std.specs.Prelude.{◌≡◌, Bool, true, false, ◌&&◌, cond, T, Float}
use mathlib.Core.List.{List, [], ◌∷◌, ◌++◌, flat_map}
use Rattle.std.specs.Float.{binary64}
use Rattle.std.specs.Float.Ieee.{neg, le, fits}
use Rattle.std.specs.Float.Ieee.Fits.{add-fits}
use Rattle.float.specs.Number.{◌⊕◌, ◌⊗◌, zero_float, one_float, two_float}
use Rattle.float.specs.Trig.{atan}
use Rattle.polynomial.specs.Angle.{two_pi}
use Rattle.polynomial.specs.Cuts.{cuts}
use Rattle.polynomial.specs.Roots.{roots}
use Rattle.polynomial.specs.Promises.Lists.{Fit}
use Rattle.polynomial.specs.Laws.Cuts.{fit_append, cuts_left}
use Rattle.polynomial.specs.declared.compensated.Compensated.{Compensated}
use Rattle.polynomial.specs.declared.curve.Curve.{Curve}
use Rattle.sampling.specs.Samples.{inside, copies, all_copies}
use Rattle.sampling.specs.CriticalSlices.{Chart, chart, angles, chart_roots, all_polynomials, calls, critical}
use Rattle.sampling.specs.J1j2free.{curves, bends, critical_slices, half_cuts}
use Rattle.sampling.specs.Promises.Halves.{half_values}
use Rattle.sampling.specs.declared.j1j2free.Folded.{Folded}

-- ---- the values fit

pub picked : (b : Bool) (l : List Float) → Fit l → Fit (cond b l [])
picked true l f = f
picked false l f = tt

angles_fit : (origin : Float) (l : List Float) → Fit (angles origin l)
unfolding angles
angles_fit origin [] = tt
angles_fit origin (u ∷ l) = (add-fits binary64 origin (two_float ⊗ atan u), angles_fit origin l)

chart_roots_fit : (c : Chart) (p : List Compensated) → Fit (chart_roots c p)
unfolding chart_roots
chart_roots_fit c p = angles_fit c.origin (roots p c.lower c.upper)

calls_fit : (c : Chart) (ps : List (List Compensated)) → Fit (flat_map (chart_roots c) ps)
unfolding flat_map
calls_fit c [] = tt
calls_fit c (p ∷ ps) = fit_append (chart_roots c p) (flat_map (chart_roots c) ps) (chart_roots_fit c p) (calls_fit c ps)

pub critical_fit : (c : Chart) (l : List Curve) → Fit (critical c l)
unfolding critical
critical_fit c l = calls_fit c (calls (all_polynomials c.origin l))

inside_fit : (lower upper angle : Float) → T (fits binary64 angle) → Fit (inside lower upper angle)
unfolding inside
inside_fit lower upper angle f = picked (le lower angle && le angle upper) (angle ∷ []) (f, tt)

pub copies_fit : (lower upper angle : Float) → Fit (copies lower upper angle)
unfolding copies
copies_fit lower upper angle =
    let at : Float → List Float = λ w. inside lower upper (angle ⊕ w ⊗ two_pi) in
    let fit : (w : Float) → Fit (at w) = λ w. inside_fit lower upper (angle ⊕ w ⊗ two_pi) (add-fits binary64 angle (w ⊗ two_pi)) in
    fit_append (at (neg one_float) ++ at zero_float) (at one_float)
    (fit_append (at (neg one_float)) (at zero_float) (fit (neg one_float)) (fit zero_float)) (fit one_float)

all_copies_fit : (lower upper : Float) (l : List Float) → Fit (all_copies lower upper l)
unfolding all_copies
all_copies_fit lower upper [] = tt
all_copies_fit lower upper (a ∷ l) = fit_append (copies lower upper a) (all_copies lower upper l) (copies_fit lower upper a) (all_copies_fit lower upper l)

-- ---- one list

module _ (t : Folded) (lower upper : Float) (f : T (fits binary64 lower)) (g : T (fits binary64 upper)) where
  ends_fit : Fit ((lower ∷ [] ++ upper ∷ []) ++ critical (chart lower upper) (curves t))
  ends_fit = fit_append (lower ∷ [] ++ upper ∷ []) (critical (chart lower upper) (curves t)) (f, (g, tt)) (critical_fit (chart lower upper) (curves t))

  pub half_fit : Fit (half_values (curves t) (bends t) lower upper)
  half_fit = fit_append ((lower ∷ [] ++ upper ∷ []) ++ critical (chart lower upper) (curves t)) (all_copies lower upper (bends t)) ends_fit
      (all_copies_fit lower upper (bends t))

  pub half_cuts_are : half_cuts t lower upper ≡ cuts (half_values (curves t) (bends t) lower upper)
  unfolding half_cuts critical_slices
  half_cuts_are = cuts_left ((lower ∷ [] ++ upper ∷ []) ++ critical (chart lower upper) (curves t)) (all_copies lower upper (bends t)) ends_fit
      (all_copies_fit lower upper (bends t))
