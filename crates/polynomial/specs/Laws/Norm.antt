-- How many roots a squared norm has. A half of the turn has a polynomial of five coefficients,
-- so at most 2 ^ 5 - 3 = 29 roots; the cuts of both halves are at most 58.
use Rattle.std.specs.Prelude.{◌≤◌, ◌≡◌, refl, List, [], ◌∷◌, ◌++◌, length, Float}
use native.Mathlib.Omega.{arith}
use Rattle.std.proofs.Math.ListN.{length-append}
use Rattle.std.specs.Float.Ieee.{neg}
use Rattle.float.specs.Number.{middle, zero_float, one_float}
use Rattle.float.specs.Trig.{P}
use Rattle.polynomial.specs.Roots.{roots}
use Rattle.polynomial.specs.Curve.{norm_polynomial, chart_angles, half_roots, squared_norm_roots}
use Rattle.polynomial.specs.declared.curve.Harmonic.{Harmonic}
use Rattle.polynomial.specs.Laws.Enclosed.{cuts_short, all_most}
use Rattle.polynomial.specs.Laws.Nine.{length_norm}

pub angles_length : (o : Float) (us : List Float) → length (chart_angles o us) ≡ length us
unfolding chart_angles
angles_length o [] = refl
angles_length o (u ∷ us) = let e = angles_length o us in omega arith

module _ (x y : Harmonic) (norm : Float) where
  -- the roots of an inner call
  pub inner_few : (origin lower upper : Float) → length (roots (norm_polynomial x y norm origin) lower upper) ≤ 29
  inner_few origin lower upper = let e = length_norm x y norm origin in all_most lower upper 5 (norm_polynomial x y norm origin) (omega arith)

  pub half_roots_few : (lower upper : Float) → length (half_roots x y norm lower upper) ≤ 29
  unfolding half_roots
  half_roots_few lower upper =
      let o = middle lower upper in
      let e = angles_length o (roots (norm_polynomial x y norm o) (neg one_float) one_float) in
      let f = inner_few o (neg one_float) one_float in
      omega arith

  pub squared_norm_few : length (squared_norm_roots x y norm) ≤ 58
  unfolding squared_norm_roots
  squared_norm_few =
      let a = half_roots x y norm (neg P) zero_float in
      let b = half_roots x y norm zero_float P in
      let f = half_roots_few (neg P) zero_float in
      let g = half_roots_few zero_float P in
      let e = length-append a b in
      let s = cuts_short (a ++ b) in
      omega arith
