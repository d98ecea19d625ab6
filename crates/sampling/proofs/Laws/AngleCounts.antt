-- How many boundary angles of one free joint there are at most, how many cuts, and how many angles.
use Rattle.std.specs.Option.{option_map_or}
use Rattle.std.specs.Prelude.{Option, None, Some, ◌≡◌, Bool, true, false, ◌&&◌, cond, List, [], ◌∷◌, ◌++◌, ℕ, ◌+◌, ◌*◌, ◌≤◌, length, Float}
use native.Mathlib.Omega.{arith}
use Rattle.std.proofs.Math.ListN.{length-append}
use Rattle.std.specs.Float.Ieee.{le, neg}
use Rattle.std.specs.Float.Ieee.Scale.{finite}
use Rattle.float.specs.Number.{◌⊕◌, ◌⊗◌, abs, zero_float, one_float}
use Rattle.float.specs.Trig.{sin_cos}
use Rattle.polynomial.specs.Angle.{two_pi}
use Rattle.polynomial.specs.Curve.{squared_norm_roots}
use Rattle.polynomial.specs.Laws.Enclosed.{cuts_short}
use Rattle.polynomial.specs.Laws.Norm.{squared_norm_few}
use Rattle.sampling.specs.Continuum.{crossings, listed, line, roots, ray_roots}
use Rattle.sampling.specs.Rays.{poles, ray_at, ray_range, ray_marks, corner, corners, phase_roots, phases, sixth_roots}
use Rattle.sampling.specs.Bends.{harmonic, narrow, bend_roots, bend_at, bend_range, bend_marks, all_roots}
use Rattle.sampling.specs.Samples.{inside, copies, all_copies, windings, all_windings}
use Rattle.sampling.specs.Samples.{interval_values, interval_cuts, samples, sample_count, three_samples}
use Rattle.sampling.specs.SampleAngles as SampleAngles
use Rattle.sampling.proofs.Laws.Samples.{samples_length, sample_count_most}
use Rattle.sampling.specs.declared.continuum.Trig.{Trig}
use Rattle.sampling.specs.declared.wrist.Ray.{Ray}
use Rattle.sampling.specs.declared.wrist.Wrist.{Wrist}
use Rattle.sampling.specs.declared.marks.Marks.{Marks}
use Rattle.sampling.specs.declared.marks.Limits.{Limits}
use Rattle.sampling.specs.declared.sample_angles.Free.{Free}
use Rattle.sampling.specs.Intervals.{Range}
use Rattle.sampling.specs.Marks.{range}

pub both : {A : Type 0} {m n : ℕ} (a b : List A) → length a ≤ m → length b ≤ n → length (a ++ b) ≤ m + n
both a b p q = omega (arith, length-append a b, p, q)

pub either : {A : Type 0} {n : ℕ} (c : Bool) (a b : List A) → length a ≤ n → length b ≤ n → length (cond c a b) ≤ n
either true a b p q = p
either false a b p q = q

of_limits : {n : ℕ} (f : Limits → List Float) → ((l : Limits) → length (f l) ≤ n) → (o : Option Limits) → length (option_map_or f o []) ≤ n
of_limits f h None = omega arith
of_limits f h (Some l) = h l

-- ---- boundary angles

listed_few : (c : Option (Float × Float)) → length (listed c) ≤ 2
listed_few None = omega arith
listed_few (Some (a, b)) = omega arith

pub roots_few : (t : Trig) (target : Float) → length (roots t target) ≤ 2
unfolding roots
roots_few t target = listed_few (crossings t target)

ray_roots_few : (x y : Trig) (angle : Float) → length (ray_roots x y angle) ≤ 2
unfolding ray_roots
ray_roots_few x y angle = roots_few (line x y angle) zero_float

poles_few : (cos5 : Trig) → length (poles cos5) ≤ 4
unfolding poles
poles_few cos5 = both (roots cos5 one_float) (roots cos5 (neg one_float)) (roots_few cos5 one_float) (roots_few cos5 (neg one_float))

ray_at_few : (ray : Ray) (angle : Float) → length (ray_at ray angle) ≤ 2
unfolding ray_at
ray_at_few ray angle = either (finite angle) (ray_roots ray.x ray.y angle) [] (ray_roots_few ray.x ray.y angle) (omega arith)

ray_range_few : (ray : Ray) (range : Range) → length (ray_range ray range) ≤ 4
unfolding ray_range
ray_range_few ray None = omega arith
ray_range_few ray (Some (lower, upper)) = both (ray_at ray lower) (ray_at ray upper) (ray_at_few ray lower) (ray_at_few ray upper)

ray_marks_few : (ray : Ray) (m : Marks) → length (ray_marks ray m) ≤ 8
unfolding ray_marks
ray_marks_few ray m =
    let limits = λ (l : Limits). ray_at ray l.center ++ ray_range ray l.range in
    let few : (l : Limits) → length (limits l) ≤ 6 =
    λ l. both (ray_at ray l.center) (ray_range ray l.range) (ray_at_few ray l.center) (ray_range_few ray l.range) in
    both (ray_at ray m.reference) (option_map_or limits m.limits []) (ray_at_few ray m.reference) (of_limits limits few m.limits)

corner_few : (ray : Ray) (sign angle4 angle6 : Float) → length (corner ray sign angle4 angle6) ≤ 2
unfolding corner
corner_few ray sign angle4 angle6 = ray_roots_few ray.x ray.y (angle4 ⊕ sign ⊗ angle6)

corners_few : (ray : Ray) (sign : Float) (limit4 limit6 : Range) → length (corners ray sign limit4 limit6) ≤ 8
unfolding corners
corners_few ray sign None limit6 = omega arith
corners_few ray sign (Some (a, b)) None = omega arith
corners_few ray sign (Some (a, b)) (Some (c, d)) =
    both ((corner ray sign a c ++ corner ray sign a d) ++ corner ray sign b c) (corner ray sign b d)
    (both (corner ray sign a c ++ corner ray sign a d) (corner ray sign b c)
    (both (corner ray sign a c) (corner ray sign a d) (corner_few ray sign a c) (corner_few ray sign a d))
    (corner_few ray sign b c))
    (corner_few ray sign b d)

phase_roots_few : (ray : Ray) (sign : Float) (m4 m6 : Marks) → length (phase_roots ray sign m4 m6) ≤ 10
unfolding phase_roots
phase_roots_few ray sign m4 m6 =
    both (corner ray sign m4.reference m6.reference) (corners ray sign (range m4) (range m6))
    (corner_few ray sign m4.reference m6.reference)
    (corners_few ray sign (range m4) (range m6))

phases_few : (w : Wrist) (m4 m6 : Marks) → length (phases w m4 m6) ≤ 20
unfolding phases
phases_few w m4 m6 =
    both (phase_roots w.sum one_float m4 m6) (phase_roots w.difference (neg one_float) m4 m6)
    (phase_roots_few w.sum one_float m4 m6)
    (phase_roots_few w.difference (neg one_float) m4 m6)

sixth_roots_few : (w : Wrist) (m4 : Marks) (s : Option Marks) → length (sixth_roots w m4 s) ≤ 28
unfolding sixth_roots
sixth_roots_few w m4 None = omega arith
sixth_roots_few w m4 (Some m6) = both (ray_marks w.q6 m6) (phases w m4 m6) (ray_marks_few w.q6 m6) (phases_few w m4 m6)

bend_roots_few : (cos5 : Trig) (q4 : Ray) (angle : Float) → length (bend_roots cos5 q4 angle) ≤ 60
unfolding bend_roots
bend_roots_few cos5 q4 angle =
    let sine = abs (sin_cos angle).sine in
    let found = squared_norm_roots (harmonic q4.x) (harmonic q4.y) sine in
    both (roots cos5 (sin_cos angle).cosine) (cond (narrow sine) found [])
    (roots_few cos5 (sin_cos angle).cosine)
    (either (narrow sine) found [] (squared_norm_few (harmonic q4.x) (harmonic q4.y) sine) (omega arith))

bend_at_few : (cos5 : Trig) (q4 : Ray) (angle : Float) → length (bend_at cos5 q4 angle) ≤ 60
unfolding bend_at
bend_at_few cos5 q4 angle = either (finite angle) (bend_roots cos5 q4 angle) [] (bend_roots_few cos5 q4 angle) (omega arith)

bend_range_few : (cos5 : Trig) (q4 : Ray) (range : Range) → length (bend_range cos5 q4 range) ≤ 120
unfolding bend_range
bend_range_few cos5 q4 None = omega arith
bend_range_few cos5 q4 (Some (lower, upper)) = both (bend_at cos5 q4 lower) (bend_at cos5 q4 upper) (bend_at_few cos5 q4 lower) (bend_at_few cos5 q4 upper)

bend_marks_few : (cos5 : Trig) (q4 : Ray) (m : Marks) → length (bend_marks cos5 q4 m) ≤ 240
unfolding bend_marks
bend_marks_few cos5 q4 m =
    let at = bend_at cos5 q4 in
    let few = bend_at_few cos5 q4 in
    let limits = λ (l : Limits). at l.center ++ bend_range cos5 q4 l.range in
    let most : (l : Limits) → length (limits l) ≤ 180 = λ l. both (at l.center) (bend_range cos5 q4 l.range) (few l.center) (bend_range_few cos5 q4 l.range) in
    both (at m.reference) (option_map_or limits m.limits []) (few m.reference) (of_limits limits most m.limits)

pub all_roots_few : (w : Wrist) (near : Float) (m4 m5 : Marks) (m6 : Option Marks) (center : Float) → length (all_roots w near m4 m5 m6 center) ≤ 282
unfolding all_roots
all_roots_few w near m4 m5 m6 center =
    let rays = (near ∷ [] ++ poles w.cos5) ++ ray_marks w.q4 m4 in
    let bends = bend_marks w.cos5 w.q4 m5 in
    let sixth = sixth_roots w m4 m6 in
    let alone : (x : Float) → length (x ∷ []) ≤ 1 = λ x. omega arith in
    let start : length (near ∷ [] ++ poles w.cos5) ≤ 5 = both (near ∷ []) (poles w.cos5) (alone near) (poles_few w.cos5) in
    let few : length rays ≤ 13 = both (near ∷ [] ++ poles w.cos5) (ray_marks w.q4 m4) start (ray_marks_few w.q4 m4) in
    both ((rays ++ bends) ++ sixth) (center ∷ [])
    (both (rays ++ bends) sixth (both rays bends few (bend_marks_few w.cos5 w.q4 m5)) (sixth_roots_few w m4 m6))
    (alone center)

-- ---- cuts

inside_few : (lower upper angle : Float) → length (inside lower upper angle) ≤ 1
unfolding inside
inside_few lower upper angle =
    either (le lower angle && le angle upper) (angle ∷ []) [] (omega arith) (omega arith)

pub copies_few : (lower upper angle : Float) → length (copies lower upper angle) ≤ 3
unfolding copies
copies_few lower upper angle =
    let below = angle ⊕ neg one_float ⊗ two_pi in
    let same = angle ⊕ zero_float ⊗ two_pi in
    let above = angle ⊕ one_float ⊗ two_pi in
    let at = inside lower upper in
    let few = inside_few lower upper in
    both (at below ++ at same) (at above) (both (at below) (at same) (few below) (few same)) (few above)

pub all_copies_few : (lower upper : Float) (l : List Float) → length (all_copies lower upper l) ≤ 3 * length l
unfolding all_copies
all_copies_few lower upper [] = omega arith
all_copies_few lower upper (x ∷ l) = omega (
  arith,
  both (copies lower upper x) (all_copies lower upper l) (copies_few lower upper x)
      (all_copies_few lower upper l),
)

windings_few : (lower upper root : Float) → length (windings lower upper root) ≤ 3
unfolding windings
windings_few lower upper root = either (finite root) (copies lower upper root) [] (copies_few lower upper root) (omega arith)

all_windings_few : (lower upper : Float) (l : List Float) → length (all_windings lower upper l) ≤ 3 * length l
unfolding all_windings
all_windings_few lower upper [] = omega arith
all_windings_few lower upper (x ∷ l) =
    omega (arith, both (windings lower upper x) (all_windings lower upper l) (windings_few lower upper x) (all_windings_few lower upper l))

interval_values_few : (near : Float) (l : List Float) (range : Range) → length (interval_values near l range) ≤ 2 + 3 * length l
unfolding interval_values
interval_values_few near l None = omega arith
interval_values_few near l (Some (lower, upper)) = omega (arith, all_windings_few (near ⊕ lower) (near ⊕ upper) l)

-- by polynomial's law: there are no more cuts than values
pub interval_cuts_few : (near : Float) (l : List Float) (range : Range) → length (interval_cuts near l range) ≤ 2 + 3 * length l
unfolding interval_cuts
interval_cuts_few near l range = omega (arith, cuts_short (interval_values near l range), interval_values_few near l range)

-- ---- one free joint

-- three intervals of 848: 4,096 places of work always do
abbrev pub most_free_cuts : ℕ
most_free_cuts = 2544

-- four for each cut
abbrev pub most_free_angles : ℕ
most_free_angles = 10176

module _ (f : Free) where
  free_roots_few : length (SampleAngles.roots f) ≤ 282
  unfolding SampleAngles.roots
  free_roots_few = all_roots_few f.wrist f.near f.fourth f.fifth f.sixth f.limits.center

  -- 2 ends and 282 roots, each with a turn below and a turn above
  one_few : (range : Range) → length (cond (finite f.near) (interval_cuts f.near (SampleAngles.roots f) range) []) ≤ 848
  one_few range =
      let most : length (interval_cuts f.near (SampleAngles.roots f) range) ≤ 848 = omega
      (arith, interval_cuts_few f.near (SampleAngles.roots f) range, free_roots_few) in
      either (finite f.near) (interval_cuts f.near (SampleAngles.roots f) range) [] most (omega arith)

  pub free_cuts_few : SampleAngles.cut_count f ≤ most_free_cuts
  unfolding SampleAngles.cut_count SampleAngles.first_cuts SampleAngles.second_cuts SampleAngles.third_cuts
  free_cuts_few = omega (
    arith,
    one_few (SampleAngles.intervals f).first,
    one_few (SampleAngles.intervals f).second,
    one_few (SampleAngles.intervals f).third,
  )

  pub sample_angles_length : length (SampleAngles.sample_angles f)
      ≡ sample_count (length (SampleAngles.first_cuts f)) + sample_count (length (SampleAngles.second_cuts f)) + sample_count
      (length (SampleAngles.third_cuts f))
  unfolding SampleAngles.sample_angles three_samples
  sample_angles_length =
      let a = SampleAngles.first_cuts f in
      let b = SampleAngles.second_cuts f in
      let c = SampleAngles.third_cuts f in
      omega (
        arith,
        length-append (samples a ++ samples b) (samples c),
        length-append (samples a) (samples b),
        samples_length a,
        samples_length b,
        samples_length c,
      )

  pub sample_angles_few : length (SampleAngles.sample_angles f) ≤ most_free_angles
  unfolding SampleAngles.cut_count
  sample_angles_few =
      let a = sample_count_most (length (SampleAngles.first_cuts f)) in
      let b = sample_count_most (length (SampleAngles.second_cuts f)) in
      let c = sample_count_most (length (SampleAngles.third_cuts f)) in
      omega (arith, sample_angles_length, free_cuts_few, a, b, c)
