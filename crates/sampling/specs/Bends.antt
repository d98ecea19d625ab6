-- The boundary angles of joint 5, and all boundary angles in the order in which the Rust finds them: `bend_roots`
-- and `sample_angles` of continuum.rs (01, module 5). Definitions only.
use Rattle.std.specs.Prelude.{Option, None, Some, Bool, false, ◌&&◌, cond, List, [], ◌∷◌, ◌++◌, Float}
use Rattle.std.specs.Float.{binary64}
use Rattle.std.specs.Float.Ieee.{round, lt}
use Rattle.std.specs.Float.Ieee.Scale.{finite}
use Rattle.std.specs.Option.{option_map_or}
use Rattle.float.specs.Number.{abs, zero_float}
use Rattle.float.specs.Trig.{sin_cos}
use Rattle.polynomial.specs.Curve.{squared_norm_roots}
use Rattle.polynomial.specs.declared.curve.Harmonic.{Harmonic}
use Rattle.sampling.specs.Continuum.{roots}
use Rattle.sampling.specs.Rays.{poles, ray_marks, sixth_roots}
use Rattle.sampling.specs.declared.continuum.Trig.{Trig}
use Rattle.sampling.specs.declared.wrist.Ray.{Ray}
use Rattle.sampling.specs.declared.wrist.Wrist.{Wrist}
use Rattle.sampling.specs.declared.marks.Marks.{Marks}
use Rattle.sampling.specs.Intervals.{Range}

unfoldable pub harmonic : Trig → Harmonic
harmonic t = record { constant = t.constant; cosine = t.cosine; sine = t.sine }

-- Above 0 and below 1.0e-4: so close to a pole that the cosine can round to ±1 although the bend is not zero.
unfoldable pub narrow : Float → Bool
narrow sine = lt zero_float sine && lt sine (round binary64 false 1 10000)

-- Where the cosine of joint 5 is that of the angle and, for a narrow sine, where the vector of joint 4, whose
-- length it is, has that length: its square is small, and compensated arithmetic keeps it.
unfoldable pub bend_roots : Trig → Ray → Float → List Float
bend_roots cos5 q4 angle =
    let sine = abs (sin_cos angle).sine in
    roots cos5 (sin_cos angle).cosine ++ cond (narrow sine) (squared_norm_roots (harmonic q4.x) (harmonic q4.y) sine) []

-- limits that admit no angle have a centre that is not finite
unfoldable pub bend_at : Trig → Ray → Float → List Float
bend_at cos5 q4 angle = cond (finite angle) (bend_roots cos5 q4 angle) []

unfoldable pub bend_range : Trig → Ray → Range → List Float
bend_range cos5 q4 None = []
bend_range cos5 q4 (Some (lower, upper)) = bend_at cos5 q4 lower ++ bend_at cos5 q4 upper

-- with limits, their centre and ends after the reference
unfoldable pub bend_marks : Trig → Ray → Marks → List Float
bend_marks cos5 q4 m = bend_at cos5 q4 m.reference ++ option_map_or (λ l. bend_at cos5 q4 l.center ++ bend_range cos5 q4 l.range) m.limits []

-- All of them: the free joint's reference, the poles, joints 4, 5 and 6, the centre of the free joint's limits. Only joint 5 asks the root finder.
unfoldable pub all_roots : Wrist → Float → Marks → Marks → Option Marks → Float → List Float
all_roots w near m4 m5 m6 center =
    ((((near ∷ [] ++ poles w.cos5) ++ ray_marks w.q4 m4) ++ bend_marks w.cos5 w.q4 m5) ++ sixth_roots w m4 m6) ++ center ∷ []
