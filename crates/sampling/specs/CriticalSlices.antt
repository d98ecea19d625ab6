-- The cuts of joint 1 at the intersections and the vertical tangencies of curves: `critical_slices` of j1j2free.rs (01, module 6), with the
-- curves taken in the order of `Pairs` (02, change 3). Definitions only.
-- Between two neighbouring cuts the curves keep their order, so what joint 2 may do does not change: one value of joint 1 stands for all of them.
use Rattle.std.specs.Prelude.{ℕ, cond, eqb, length, get_or, Float}
use mathlib.Core.List.{List, [], ◌∷◌, map, flat_map}
use Rattle.std.specs.Float.Ieee.{neg}
use Rattle.float.specs.Number.{◌⊕◌, ◌⊖◌, ◌⊗◌, ◌⊘◌, middle, one_float, two_float}
use Rattle.float.specs.Trig.{tan, atan}
use Rattle.polynomial.specs.Polynomial.{add, multiply, determinant}
use Rattle.polynomial.specs.Roots.{roots}
use Rattle.polynomial.specs.Curve.{numerator, harmonic_a, harmonic_b, harmonic_c}
use Rattle.polynomial.specs.declared.compensated.Compensated.{Compensated}
use Rattle.polynomial.specs.declared.curve.Curve.{Curve}
use Rattle.sampling.specs.Pairs.{order}

-- The chart u = tan((q1 - origin) / 2) of a half of joint 1's interval: its origin and its bounds. A half, so that u
-- stays within ±1: over a whole turn the tangent has its pole, and large u spoil the coefficients.
pub record Chart : Type 0 where
  pub origin : Float
  pub lower : Float
  pub upper : Float

unfoldable pub chart : Float → Float → Chart
chart lower upper =
    let origin = middle lower upper in
    record { origin = origin; lower = tan ((lower ⊖ origin) ⊘ two_float); upper = tan ((upper ⊖ origin) ⊘ two_float) }

-- The angles of roots in the chart. Rounding may carry one past an end of its half; it stays a cut, since without it that crossing would be lost.
unfoldable pub angles : Float → List Float → List Float
angles origin [] = []
angles origin (u ∷ us) = (origin ⊕ two_float ⊗ atan u) ∷ angles origin us

-- an inner call of the root finder
unfoldable pub chart_roots : Chart → List Compensated → List Float
chart_roots c p = angles c.origin (roots p c.lower c.upper)

-- a curve's three harmonics as polynomial numerators
pub record Polynomials : Type 0 where
  pub a : List Compensated
  pub b : List Compensated
  pub c : List Compensated

abbrev pub polynomials : Curve → Float → Polynomials
polynomials k origin = record { a = numerator (harmonic_a k) origin; b = numerator (harmonic_b k) origin; c = numerator (harmonic_c k) origin }

-- p * p + q * q - r * r
unfoldable pub squares : List Compensated → List Compensated → List Compensated → List Compensated
squares p q r = add (add (multiply p p) (multiply q q) one_float) (multiply r r) (neg one_float)

-- Where a curve's two values of t fall together it has a vertical tangency: a range of t begins or ends there. A curve that vanishes for all t counts too.
unfoldable pub tangency : Polynomials → List Compensated
tangency k = squares k.a k.b k.c

-- where two curves have a common t: cos(t) and sin(t) by Cramer's rule, and their squares' sum is 1
unfoldable pub intersection : Polynomials → Polynomials → List Compensated
intersection k l =
    let denominator = determinant k.a l.b l.a k.b in
    let cosine-numerator = determinant k.b l.c l.b k.c in
    let sine-numerator = determinant k.c l.a l.c k.a in
    squares cosine-numerator sine-numerator denominator

-- what stands past the list, where the order has no place
abbrev pub nowhere : Polynomials
nowhere = record { a = []; b = []; c = [] }

-- a curve's polynomials, by its place
abbrev pub at : List Polynomials → ℕ → Polynomials
at ks i = get_or ks i nowhere

-- what the root finder is asked at a place of the order: (j, j) is curve j's own tangency, (i, j) the intersection of the curves i and j
unfoldable pub asked : List Polynomials → ℕ × ℕ → List Compensated
asked ks p = cond (eqb p.0 p.1) (tangency (at ks p.1)) (intersection (at ks p.0) (at ks p.1))

-- the polynomials that it is asked about, in order
unfoldable pub calls : List Polynomials → List (List Compensated)
calls ks = map (asked ks) (order (length ks))

abbrev pub all_polynomials : Float → List Curve → List Polynomials
all_polynomials origin curves = map (λ k. polynomials k origin) curves

-- the angles of all calls
unfoldable pub critical : Chart → List Curve → List Float
critical c curves = flat_map (chart_roots c) (calls (all_polynomials c.origin curves))
