-- `crossings` in steps: the tests, then the angles around the phase.
use Rattle.std.specs.Prelude.{None, Some}
use mathlib.Core.Path.{◌≡◌, refl, ap, ◌∙◌}
use mathlib.Core.Bool.{Bool, true, false, not, ◌&&◌, ◌||◌, cond}
use mathlib.Core.List.{[], ◌∷◌}
use lib.Ieee.{Float, neg, eq, lt}
use lib.Ieee.Scale.{finite}
use Rattle.float.specs.Number.{◌⊕◌, ◌⊖◌, ◌⊘◌, abs, clamp, zero_float}
use Rattle.float.specs.Trig.{hypot, atan2}
use Rattle.sampling.specs.Continuum.{crossings, error, listed, roots}
use Rattle.sampling.specs.Promises.Deferred.{angles_of}
use Rattle.sampling.specs.Promises.Polar.{meets, around}
use Rattle.sampling.specs.declared.continuum.Trig.{Trig}
use Rattle.sampling.specs.declared.deferred.Pending.{Pending}
use Rattle.sampling.specs.declared.polar.Polar.{Polar}

-- four tests as one
as_one : {A : Type 0} (a b c d : Bool) (x z : A) → cond (not a || not b || c || d) z x ≡ cond (a && b && not c && not d) x z
as_one false b c d x z = refl
as_one true false c d x z = refl
as_one true true true d x z = refl
as_one true true false true x z = refl
as_one true true false false x z = refl

steps : (t : Trig) (target : Float) → crossings t target ≡ cond (meets t (hypot t.cosine t.sine) target)
    (Some (around t (hypot t.cosine t.sine) (atan2 t.sine t.cosine) target)) None
unfolding crossings meets around
steps t target =
    let radius = hypot t.cosine t.sine in
    let constant = t.constant ⊖ target in
    as_one (finite radius) (finite constant) (eq radius zero_float) (lt (radius ⊕ error t target) (abs constant)) _ _

-- by a radius and a phase worked out before
pub crossed : (p : Polar) (target : Float) → crossings p.harmonic target ≡ cond (meets p.harmonic p.radius target)
    (Some (around p.harmonic p.radius p.phase target)) None
crossed p target = rw (p.radius_is, p.phase_is) (steps p.harmonic target)

-- as a list
abbrev pub deferred : Trig → Float → Pending
deferred t v = record { sine = t.sine; cosine = t.cosine; ratio = v }

listed_cond : (b : Bool) (x y : Float) → listed (cond b (Some (x, y)) None) ≡ cond b (x ∷ (y ∷ [])) []
listed_cond true x y = refl
listed_cond false x y = refl

pub rooted : (t : Trig) (target : Float) → roots t target ≡ cond (meets t (hypot t.cosine t.sine) target)
    (angles_of (deferred t (clamp (neg (t.constant ⊖ target) ⊘ hypot t.cosine t.sine)))) []
unfolding angles_of roots around
rooted t target = ap listed (steps t target) ∙ listed_cond (meets t (hypot t.cosine t.sine) target) _ _
