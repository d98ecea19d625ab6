-- Definitions that are one sentence with `||` and `&&`, test by test: what is said first is asked first. For proofs that go by cases.
use Rattle.std.specs.Prelude.{Ok, Err, None, Some, ◌≡◌, refl, Bool, true, false, not, ◌&&◌, ◌||◌, cond, [], ◌∷◌, ◌++◌, Float}
use Rattle.std.specs.Float.{nan, inf, binary64}
use Rattle.std.specs.Float.Ieee.{neg, eq, lt, le, is_nan, round}
use Rattle.std.specs.Float.Ieee.Scale.{finite}
use Rattle.float.specs.Number.{◌⊕◌, ◌⊖◌, ◌⊗◌, ◌⊘◌, abs, clamp, minimum, maximum, zero_float, one_float, two_float}
use Rattle.float.specs.Trig.{P, hypot, atan2, acos, asin}
use Rattle.polynomial.specs.Angle.{wrapped_angle}
use Rattle.sampling.specs.Constraints.{arc, compute_center}
use Rattle.sampling.specs.Intervals.{interval}
use Rattle.sampling.specs.Limits.{centered, limits_of}
use Rattle.sampling.specs.Pose.{quaternion_length, all_finite, over, try_normalize}
use Rattle.sampling.specs.Continuum.{root_roundoff, error, crossings}
use Rattle.sampling.specs.Marks.{ends}
use Rattle.sampling.specs.Bends.{narrow}
use Rattle.sampling.specs.Samples.{inside}
use Rattle.sampling.specs.Boundaries.{wrist_limits}
use Rattle.sampling.specs.BendSlices.{transverse}
use Rattle.sampling.specs.declared.constraints.Center.{Center}
use Rattle.sampling.specs.declared.pose.Quaternion.{Quaternion}
use Rattle.sampling.specs.declared.pose.Degenerate.TheVariants.{NotFinite, Zero}
use Rattle.sampling.specs.declared.continuum.Trig.{Trig}
use Rattle.sampling.specs.declared.job.Joint.{Joint}

module _ {A : Type 0} (x y : A) where
  both : (a b : Bool) → cond (a && b) x y ≡ cond a (cond b x y) y
  both true b = refl
  both false b = refl

  all_three : (a b c : Bool) → cond (a && b && c) x y ≡ cond a (cond b (cond c x y) y) y
  all_three true true c = refl
  all_three true false c = refl
  all_three false b c = refl

  neither : (a b : Bool) → cond (not a || not b) x y ≡ cond a (cond b y x) x
  neither true true = refl
  neither true false = refl
  neither false b = refl

  none : (a b c : Bool) → cond (a || b || not c) x y ≡ cond a x (cond b x (cond c y x))
  none true b c = refl
  none false true c = refl
  none false false true = refl
  none false false false = refl

  no_four : (a b c d : Bool) → cond (not a || not b || c || d) x y ≡ cond a (cond b (cond c x (cond d x y)) x) x
  no_four true true true d = refl
  no_four true true false d = refl
  no_four true false c d = refl
  no_four false b c d = refl

  unless : (a b : Bool) → cond (not a || b) x y ≡ cond a (cond b x y) x
  unless true b = refl
  unless false b = refl

and_nested : (a b : Bool) → (a && b) ≡ cond a b false
and_nested true b = refl
and_nested false b = refl

four_nested : (a b c d : Bool) → (a && b && c && d) ≡ cond a (cond b (cond c d false) false) false
four_nested true true true d = refl
four_nested true true false d = refl
four_nested true false c d = refl
four_nested false b c d = refl

pub compute_center_nested : (a b : Float)
    → compute_center a b ≡ cond (finite a)
    (cond (finite b)
    (cond (eq a b) (record { center = zero_float; tolerance = inf false })
    (cond (lt a b) (record { center = (a ⊕ b) ⊘ two_float; tolerance = (b ⊖ a) ⊘ two_float })
    (record { center = a ⊕ arc a b ⊘ two_float; tolerance = arc a b ⊘ two_float })))
    (record { center = nan; tolerance = nan }))
    (record { center = nan; tolerance = nan })
unfolding compute_center
compute_center_nested a b = neither _ _ (finite a) (finite b)

pub limits_of_nested : (c : Center) (sign offset : Float)
    → limits_of c sign offset ≡ cond (is_nan c.tolerance) None
    (cond (lt c.tolerance zero_float) None
    (cond (finite c.center)
    (Some (
      wrapped_angle (wrapped_angle c.center ⊗ sign ⊖ offset) ⊖ minimum c.tolerance P,
      wrapped_angle (wrapped_angle c.center ⊗ sign ⊖ offset) ⊕ minimum c.tolerance P,
    ))
    None))
unfolding limits_of
limits_of_nested c sign offset = none _ _ (is_nan c.tolerance) (lt c.tolerance zero_float) (finite c.center)

-- the ends of the copy of a range that is shifted by a turn
abbrev pub lower_end : Center → Float → Float
lower_end c shift = maximum (c.center ⊕ shift ⊖ c.tolerance) (neg P)

abbrev pub upper_end : Center → Float → Float
upper_end c shift = minimum (c.center ⊕ shift ⊕ c.tolerance) P

pub interval_nested : (c : Center) (shift : Float)
    → interval c shift ≡ cond (finite c.center)
    (cond (le zero_float c.tolerance)
    (cond (le (lower_end c shift) (upper_end c shift)) (Some (lower_end c shift, upper_end c shift)) None)
    None)
    None
unfolding interval
interval_nested c shift = all_three _ _ (finite c.center) (le zero_float c.tolerance) (le (lower_end c shift) (upper_end c shift))

pub all_finite_nested : (q : Quaternion)
    → all_finite q ≡ cond (finite q.x) (cond (finite q.y) (cond (finite q.z) (finite q.w) false) false) false
all_finite_nested q = four_nested (finite q.x) (finite q.y) (finite q.z) (finite q.w)

pub try_normalize_nested : (q : Quaternion)
    → try_normalize q ≡ cond (all_finite q)
    (cond (finite (quaternion_length q))
    (cond (le (quaternion_length q) zero_float) (Err Zero) (Ok (over q (quaternion_length q))))
    (Err NotFinite))
    (Err NotFinite)
unfolding try_normalize
try_normalize_nested q = neither _ _ (all_finite q) (finite (quaternion_length q))

pub ends_nested : (center tolerance : Float)
    → ends center tolerance ≡ cond (finite tolerance)
    (cond (le zero_float tolerance)
    (cond (lt tolerance P) (Some (center ⊖ tolerance, center ⊕ tolerance)) None)
    None)
    None
unfolding ends
ends_nested center tolerance = all_three _ _ (finite tolerance) (le zero_float tolerance) (lt tolerance P)

pub crossings_nested : (t : Trig) (target : Float)
    → crossings t target ≡ cond (finite (hypot t.cosine t.sine))
    (cond (finite (t.constant ⊖ target))
    (cond (eq (hypot t.cosine t.sine) zero_float) None
    (cond (lt (hypot t.cosine t.sine ⊕ error t target) (abs (t.constant ⊖ target))) None
    (Some (
      wrapped_angle (atan2 t.sine t.cosine ⊖ acos (clamp (neg (t.constant ⊖ target) ⊘ hypot t.cosine t.sine))),
      wrapped_angle (atan2 t.sine t.cosine ⊕ acos (clamp (neg (t.constant ⊖ target) ⊘ hypot t.cosine t.sine))),
    ))))
    None)
    None
unfolding crossings
crossings_nested t target =
    no_four _ _ (finite (hypot t.cosine t.sine)) (finite (t.constant ⊖ target)) (eq (hypot t.cosine t.sine) zero_float)
    (lt (hypot t.cosine t.sine ⊕ error t target) (abs (t.constant ⊖ target)))

pub inside_nested : (lower upper angle : Float) → inside lower upper angle ≡ cond (le lower angle) (cond (le angle upper) (angle ∷ []) []) []
unfolding inside
inside_nested lower upper angle = both _ _ (le lower angle) (le angle upper)

pub narrow_nested : (sine : Float) → narrow sine ≡ cond (lt zero_float sine) (lt sine (round binary64 false 1 10000)) false
unfolding narrow
narrow_nested sine = and_nested (lt zero_float sine) (lt sine (round binary64 false 1 10000))

pub transverse_nested : (radius azimuth component : Float)
    → transverse radius azimuth component ≡ cond (lt zero_float radius)
    (cond (le (abs component) (radius ⊗ (one_float ⊕ root_roundoff)))
    (wrapped_angle (azimuth ⊖ asin (clamp (component ⊘ radius))) ∷ [] ++ wrapped_angle (azimuth ⊖ P ⊕ asin (clamp (component ⊘ radius))) ∷ [])
    [])
    []
unfolding transverse
transverse_nested radius azimuth component = both _ _ (lt zero_float radius) (le (abs component) (radius ⊗ (one_float ⊕ root_roundoff)))

pub wrist_limits_nested : (limited : Bool) (j : Joint)
    → wrist_limits limited j ≡ cond limited
    (cond (le P (centered limited j).tolerance) None (limits_of (centered limited j) j.sign j.offset))
    None
unfolding wrist_limits
wrist_limits_nested limited j = unless _ _ limited (le P (centered limited j).tolerance)
