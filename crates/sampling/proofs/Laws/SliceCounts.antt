-- How many boundary curves, slices of narrow bends and cuts there are at most where joints 1 and 2 are free.
use Rattle.std.specs.Prelude.{None, Some, ℕ, zero, suc, ◌+◌, ◌*◌, ◌≤◌, ◌≡◌, refl, ◌&&◌, eqb, length, Float}
use Rattle.std.proofs.Common.{zero-le, not-suc-le-zero, le_of_suc-le-suc, ap, length-append}
use native.Mathlib.Omega.{arith}
use mathlib.Core.List.{List, [], ◌∷◌, ◌++◌, map, flat_map}
use Rattle.std.proofs.lemmas.List.{length-map}
use Rattle.std.specs.Float.Ieee.{lt, le, neg}
use Rattle.float.specs.Number.{◌⊕◌, ◌⊖◌, ◌⊗◌, ◌⊘◌, abs, clamp, middle, zero_float, one_float}
use Rattle.float.specs.Trig.{P, sin_cos, hypot, atan2, asin}
use Rattle.float.specs.declared.trig.SinCos.{SinCos}
use Rattle.polynomial.specs.Angle.{wrapped_angle}
use Rattle.polynomial.specs.Cuts.{cuts}
use Rattle.polynomial.specs.Curve.{numerator}
use Rattle.polynomial.specs.Polynomial.{add, coefficients, multiply, determinant}
use Rattle.polynomial.specs.Roots.{roots}
use Rattle.polynomial.specs.Laws.Enclosed.{cuts_short, all_most}
use Rattle.polynomial.specs.Laws.Norm.{squared_norm_few}
use Rattle.polynomial.specs.declared.compensated.Compensated.{Compensated}
use Rattle.polynomial.specs.declared.curve.Curve.{Curve}
use Rattle.sampling.specs.Continuum.{root_roundoff}
use Rattle.sampling.specs.Samples.{all_copies}
use Rattle.sampling.specs.Boundaries.{across, second_curves, pole_curves, fourth_curves, fifth_curves, sixth_curves, signed_corners}
use Rattle.sampling.specs.Boundaries.{corner_curves, boundaries}
use Rattle.sampling.specs.BendSlices.{transverse, transverse_range, transverses, axis_angles, axes_range, fold, folds, folds_range, bend_slice}
use Rattle.sampling.specs.BendSlices.{bend_slices}
use Rattle.sampling.specs.Pairs.{earlier, order}
use Rattle.sampling.specs.CriticalSlices.{Chart, chart, angles, chart_roots, Polynomials, polynomials, all_polynomials, nowhere, at, asked, calls}
use Rattle.sampling.specs.CriticalSlices.{squares, tangency, intersection, critical}
use Rattle.sampling.specs.J1j2free.{curves, bends, critical_slices, half_cuts, first_half, second_half, on_interval, cut_count}
use Rattle.sampling.specs.Promises.Curves.{most_curves}
use Rattle.sampling.proofs.Laws.AngleCounts.{both, either, all_copies_few}
use Rattle.sampling.specs.declared.j1j2free.Folded.{Folded}
use Rattle.sampling.specs.declared.pose.Vector.{Vector}
use Rattle.sampling.specs.declared.pose.Matrix.{Matrix}
use Rattle.sampling.specs.Pose as Pose
use Rattle.sampling.specs.Intervals.{Range}

-- ---- curves

second_curves_few : (q3 : Float) (range : Range) → length (second_curves q3 range) ≤ 2
unfolding second_curves
second_curves_few q3 None = omega arith
second_curves_few q3 (Some (lower, upper)) = omega arith

pole_curves_few : (z : Vector) → length (pole_curves z) ≤ 2
unfolding pole_curves
pole_curves_few z = omega arith

fourth_curves_few : (z : Vector) (range : Range) → length (fourth_curves z range) ≤ 2
unfolding fourth_curves
fourth_curves_few z None = omega arith
fourth_curves_few z (Some (lower, upper)) = omega arith

fifth_curves_few : (z : Vector) (range : Range) → length (fifth_curves z range) ≤ 2
unfolding fifth_curves
fifth_curves_few z None = omega arith
fifth_curves_few z (Some (lower, upper)) = omega arith

sixth_curves_few : (m : Matrix) (range : Range) → length (sixth_curves m range) ≤ 2
unfolding sixth_curves
sixth_curves_few m None = omega arith
sixth_curves_few m (Some (lower, upper)) = omega arith

corner_curves_few : (m : Matrix) (range4 range6 : Range) → length (corner_curves m range4 range6) ≤ 8
unfolding corner_curves signed_corners
corner_curves_few m None range6 = omega arith
corner_curves_few m (Some (a, b)) None = omega arith
corner_curves_few m (Some (a, b)) (Some (c, d)) = omega arith

module _ (m : Matrix) (q3 : Float) (range2 range4 range5 range6 : Range) where
  pub boundaries_few : length (boundaries m q3 range2 range4 range5 range6) ≤ most_curves
  unfolding boundaries
  boundaries_few =
      let s = second_curves q3 range2 in
      let p = pole_curves m.z in
      let a = fourth_curves m.z range4 in
      let b = fifth_curves m.z range5 in
      let c = sixth_curves m range6 in
      both ((((s ++ p) ++ a) ++ b) ++ c) (corner_curves m range4 range6)
      (both (((s ++ p) ++ a) ++ b) c
      (both ((s ++ p) ++ a) b (both (s ++ p) a (both s p (second_curves_few q3 range2) (pole_curves_few m.z)) (fourth_curves_few m.z range4))
      (fifth_curves_few m.z range5))
      (sixth_curves_few m range6))
      (corner_curves_few m range4 range6)

-- ---- slices of narrow bends

transverse_few : (radius azimuth component : Float) → length (transverse radius azimuth component) ≤ 2
unfolding transverse
transverse_few radius azimuth component =
    let offset = asin (clamp (component ⊘ radius)) in
    let l = wrapped_angle (azimuth ⊖ offset) ∷ [] ++ wrapped_angle (azimuth ⊖ P ⊕ offset) ∷ [] in
    either (lt zero_float radius && le (abs component) (radius ⊗ (one_float ⊕ root_roundoff))) l [] (omega arith) (omega arith)

transverse_range_few : (radius azimuth extreme : Float) (range : Range) → length (transverse_range radius azimuth extreme range) ≤ 4
unfolding transverse_range
transverse_range_few radius azimuth extreme None = omega arith
transverse_range_few radius azimuth extreme (Some (lower, upper)) =
    let a = extreme ⊗ (sin_cos lower).sine in
    let b = extreme ⊗ (sin_cos upper).sine in
    both (transverse radius azimuth a) (transverse radius azimuth b) (transverse_few radius azimuth a) (transverse_few radius azimuth b)

transverses_few : (z : Vector) (s5 : Float) (range : Range) → length (transverses z s5 range) ≤ 8
unfolding transverses
transverses_few z s5 range =
    let norm = Pose.vector_length z in
    let radius = hypot z.x z.y in
    let azimuth = atan2 z.y z.x in
    let a = transverse radius azimuth (neg norm ⊗ s5) in
    let b = transverse radius azimuth (norm ⊗ s5) in
    both (a ++ b) (transverse_range radius azimuth (norm ⊗ s5) range)
    (both a b (transverse_few radius azimuth (neg norm ⊗ s5)) (transverse_few radius azimuth (norm ⊗ s5)))
    (transverse_range_few radius azimuth (norm ⊗ s5) range)

axes_range_few : (m : Matrix) (q5 : SinCos) (range : Range) → length (axes_range m q5 range) ≤ 4
unfolding axes_range axis_angles
axes_range_few m q5 None = omega arith
axes_range_few m q5 (Some (lower, upper)) = omega arith

folds_few : (z : Vector) (q3 s5 angle2 : Float) → length (folds z q3 s5 angle2) ≤ 58
unfolding folds
folds_few z q3 s5 angle2 = squared_norm_few (fold z (angle2 ⊕ q3)) (across z) (Pose.vector_length z ⊗ abs s5)

folds_range_few : (z : Vector) (q3 s5 : Float) (range : Range) → length (folds_range z q3 s5 range) ≤ 116
unfolding folds_range
folds_range_few z q3 s5 None = omega arith
folds_range_few z q3 s5 (Some (lower, upper)) = both (folds z q3 s5 lower) (folds z q3 s5 upper) (folds_few z q3 s5 lower) (folds_few z q3 s5 upper)

module _ (m : Matrix) (q3 : Float) (range2 range4 : Range) where
  bend_slice_few : (range6 : Range) (angle5 : Float) → length (bend_slice m q3 range2 range4 range6 angle5) ≤ 128
  unfolding bend_slice
  bend_slice_few range6 angle5 =
      let q5 = sin_cos angle5 in
      let a = transverses m.z q5.sine range4 in
      let b = axes_range m q5 range6 in
      both (a ++ b) (folds_range m.z q3 q5.sine range2) (both a b (transverses_few m.z q5.sine range4) (axes_range_few m q5 range6))
      (folds_range_few m.z q3 q5.sine range2)

  pub bend_slices_few : (range5 range6 : Range) → length (bend_slices m q3 range2 range4 range5 range6) ≤ 256
  unfolding bend_slices
  bend_slices_few None range6 = omega arith
  bend_slices_few (Some (lower, upper)) range6 =
      both (bend_slice m q3 range2 range4 range6 lower) (bend_slice m q3 range2 range4 range6 upper) (bend_slice_few range6 lower) (bend_slice_few range6 upper)

-- ---- what the curves give: 509 for each curve and for each pair of curves

angles_length : (origin : Float) (l : List Float) → length (angles origin l) ≡ length l
unfolding angles
angles_length origin [] = refl
angles_length origin (u ∷ l) = ap suc (angles_length origin l)

-- nine coefficients have at most 2 ^ 9 - 3 roots
chart_roots_few : (c : Chart) (p : List Compensated) → length p ≤ 9 → length (chart_roots c p) ≤ 509
unfolding chart_roots
chart_roots_few c p h = omega (arith, angles_length c.origin (roots p c.lower c.upper), all_most c.lower c.upper 9 p h)

-- what a place of the order stands for: the polynomials of a curve, or none
data Own (origin : Float) : Polynomials → Type 0 where
  own : (q : Curve) → Own origin (polynomials q origin)
  none : Own origin nowhere

own_at : (origin : Float) (l : List Curve) (i : ℕ) → Own origin (at (all_polynomials origin l) i)
own_at origin [] i = none
own_at origin (q ∷ l) zero = own q
own_at origin (q ∷ l) (suc i) = own_at origin l i

tangency_few : {origin : Float} {k : Polynomials} → Own origin k → length (tangency k) ≤ 9
unfolding tangency squares numerator coefficients multiply add
tangency_few (own q) = omega arith
tangency_few none = omega arith

intersection_few : {origin : Float} {k l : Polynomials} → Own origin k → Own origin l → length (intersection k l) ≤ 9
unfolding intersection squares determinant numerator coefficients multiply add
intersection_few (own q) (own r) = omega arith
intersection_few (own q) none = omega arith
intersection_few none (own r) = omega arith
intersection_few none none = omega arith

asked_few : (origin : Float) (l : List Curve) (p : ℕ × ℕ) → length (asked (all_polynomials origin l) p) ≤ 9
unfolding asked
asked_few origin l p =
    let at_first = own_at origin l p.0 in
    let at_second = own_at origin l p.1 in
    either (eqb p.0 p.1) _ _ (tangency_few at_second) (intersection_few at_first at_second)

module _ (c : Chart) (l : List Curve) where
  abbrev call : ℕ × ℕ → List Compensated
  call p = asked (all_polynomials c.origin l) p

  calls_few : (ps : List (ℕ × ℕ)) → length (flat_map (chart_roots c) (map call ps)) ≤ 509 * length ps
  unfolding flat_map
  calls_few [] = omega arith
  calls_few (p ∷ ps) =
      let few = chart_roots_few c (call p) (asked_few c.origin l p) in
      let h = calls_few ps in
      omega (arith, both (chart_roots c (call p)) (flat_map (chart_roots c) (map call ps)) few h)

-- 1 + 2 + .. + n, which is n curves and their pairs
abbrev pairs : ℕ → ℕ
pairs zero = 0
pairs (suc n) = suc n + pairs n

pairs_up : (n m : ℕ) → n ≤ m → pairs n ≤ pairs m
pairs_up zero m h = zero-le
pairs_up (suc n) zero h = absurd (not-suc-le-zero h)
pairs_up (suc n) (suc m) h = let k = pairs_up n m (le_of_suc-le-suc h) in omega arith

earlier_length : (i j : ℕ) → length (earlier i j) ≡ i
unfolding earlier
earlier_length zero j = refl
earlier_length (suc i) j = omega (arith, length-append (earlier i j) ((i, j) ∷ []), earlier_length i j)

order_length : (n : ℕ) → length (order n) ≡ pairs n
unfolding order
order_length zero = refl
order_length (suc n) = omega (arith, length-append (order n) ((n, n) ∷ earlier n n), order_length n, earlier_length n n)

critical_by : (c : Chart) (l : List Curve) → length (critical c l) ≤ 509 * pairs (length l)
unfolding critical calls
critical_by c l =
    let n = length (all_polynomials c.origin l) in
    let e = length-map l (λ (k : Curve). polynomials k c.origin) in
    rw (← e, ← order_length n) (calls_few c l (order n))

abbrev most_critical : ℕ
most_critical = 509 * pairs most_curves

critical_few : (c : Chart) (l : List Curve) → length l ≤ most_curves → length (critical c l) ≤ most_critical
critical_few c l h = omega (arith, critical_by c l, pairs_up (length l) most_curves h)

-- ---- cuts

curves_few : (t : Folded) → length (curves t) ≤ most_curves
unfolding curves
curves_few t = boundaries_few t.matrix t.q3 t.range2 t.range4 t.range5 t.range6

bends_few : (t : Folded) → length (bends t) ≤ 256
unfolding bends
bends_few t = bend_slices_few t.matrix t.q3 t.range2 t.range4 t.range5 t.range6

-- two ends, the curves and the pairs of them, three copies of each of 256 bends
abbrev most_half_cuts : ℕ
most_half_cuts = 2 + most_critical + 3 * 256

pub half_cuts_few : (t : Folded) (lower upper : Float) → length (half_cuts t lower upper) ≤ most_half_cuts
unfolding half_cuts critical_slices
half_cuts_few t lower upper =
    let c = critical (chart lower upper) (curves t) in
    let ends = (lower ∷ [] ++ upper ∷ []) ++ c in
    let copied = all_copies lower upper (bends t) in
    let a = critical_few (chart lower upper) (curves t) (curves_few t) in
    let b = bends_few t in
    let d = all_copies_few lower upper (bends t) in
    let e = length-append (cuts ends) copied in
    let f = cuts_short (cuts ends ++ copied) in
    let g = cuts_short ends in
    let h = length-append (lower ∷ [] ++ upper ∷ []) c in
    omega (arith, a, b, d, e, f, g, h)

-- the most cuts of both halves together
abbrev pub most_both_cuts : ℕ
most_both_cuts = 2 * most_half_cuts

pub both_cuts_few : (t : Folded) → cut_count t ≤ most_both_cuts
unfolding cut_count first_half second_half
both_cuts_few t = go t.range1
  where
    go : (range : Range) → on_interval range 0 (λ lower upper. length (first_half t lower upper) + length (second_half t lower upper)) ≤ most_both_cuts
    go None = omega arith
    go (Some (lower, upper)) = omega (arith, half_cuts_few t lower (middle lower upper), half_cuts_few t (middle lower upper) upper)
