-- Curves A(q1) cos(t) + B(q1) sin(t) + C(q1) = 0 and the roots of a squared norm (01, module 3), named as in the Rust. Definitions only.
use Rattle.std.specs.Prelude.{List, [], ◌∷◌, ◌++◌, Float}
use Rattle.std.specs.Float.Ieee.{neg}
use Rattle.float.specs.Number.{◌⊕◌, ◌⊗◌, middle, zero_float, one_float, two_float}
use Rattle.float.specs.Trig.{P, sin, cos, atan}
use Rattle.polynomial.specs.Angle.{wrapped_angle}
use Rattle.polynomial.specs.Compensated as Compensated
use Rattle.polynomial.specs.Compensated.{from}
use Rattle.polynomial.specs.Cuts.{cuts}
use Rattle.polynomial.specs.Polynomial.{add, multiply}
use Rattle.polynomial.specs.Roots.{roots}
use Rattle.polynomial.specs.declared.compensated.Compensated.{Compensated}
use Rattle.polynomial.specs.declared.curve.Harmonic.{Harmonic}
use Rattle.polynomial.specs.declared.curve.Curve.{Curve}

-- harmonics added, and scaled by a factor, coefficient by coefficient
unfoldable pub plus : Harmonic → Harmonic → Harmonic
plus a b = record { constant = a.constant ⊕ b.constant; cosine = a.cosine ⊕ b.cosine; sine = a.sine ⊕ b.sine }

unfoldable pub times : Harmonic → Float → Harmonic
times a factor = record { constant = a.constant ⊗ factor; cosine = a.cosine ⊗ factor; sine = a.sine ⊗ factor }

-- A harmonic of J1 as a polynomial numerator in u = tan((q1 - origin) / 2), over the denominator 1 + u ^ 2.
unfoldable pub numerator : Harmonic → Float → List Compensated
numerator h origin =
    let s = sin origin in
    let c = cos origin in
    let rotated-cosine = h.cosine ⊗ c ⊕ h.sine ⊗ s in
    let rotated-sine = neg h.cosine ⊗ s ⊕ h.sine ⊗ c in
    Compensated.plus (from h.constant) (from rotated-cosine) ∷
    from (two_float ⊗ rotated-sine) ∷
    Compensated.plus (from h.constant) (from (neg rotated-cosine)) ∷
    []

-- the three harmonics of a curve
abbrev pub harmonic_a : Curve → Harmonic
harmonic_a k = record { constant = k.a0; cosine = k.a1; sine = k.a2 }

abbrev pub harmonic_b : Curve → Harmonic
harmonic_b k = record { constant = k.b0; cosine = k.b1; sine = k.b2 }

abbrev pub harmonic_c : Curve → Harmonic
harmonic_c k = record { constant = k.c0; cosine = k.c1; sine = k.c2 }

-- ---- roots of x(angle)^2 + y(angle)^2 = norm^2

-- each coefficient times a factor
unfoldable pub times_each : List Compensated → Compensated → List Compensated
times_each [] f = []
times_each (c ∷ cs) f = Compensated.times c f ∷ times_each cs f

-- 1 + u ^ 2
abbrev pub denominator : List Compensated
denominator = from one_float ∷ from zero_float ∷ from one_float ∷ []

-- (1 + u ^ 2) ^ 2 * norm ^ 2
unfoldable pub target : Float → List Compensated
target norm = times_each (multiply denominator denominator) (Compensated.times (from norm) (from norm))

unfoldable pub norm_polynomial : Harmonic → Harmonic → Float → Float → List Compensated
norm_polynomial x y norm origin =
    let p = numerator x origin in
    let q = numerator y origin in
    add (add (multiply p p) (multiply q q) one_float) (target norm) (neg one_float)

-- the angles of roots in the chart around the origin
unfoldable pub chart_angles : Float → List Float → List Float
chart_angles origin [] = []
chart_angles origin (u ∷ us) = wrapped_angle (origin ⊕ two_float ⊗ atan u) ∷ chart_angles origin us

-- one half of the turn, from lower to upper
unfoldable pub half_roots : Harmonic → Harmonic → Float → Float → Float → List Float
half_roots x y norm lower upper = let origin = middle lower upper in chart_angles origin (roots (norm_polynomial x y norm origin) (neg one_float) one_float)

-- both halves, sorted, each once
unfoldable pub squared_norm_roots : Harmonic → Harmonic → Float → List Float
squared_norm_roots x y norm = cuts (half_roots x y norm (neg P) zero_float ++ half_roots x y norm zero_float P)
