-- The polynomials that the root finder is asked about in a chart: where the curves' coefficients are at most 2 ^ k, with k up to 32, and the origin lies
-- within ±32, no part of a tangency's or an intersection's reaches 2 ^ 400; they have five and nine coefficients.
use Rattle.std.specs.Prelude.{ℕ, ◌+◌, ◌*◌, ◌≤◌, ◌≡◌, refl, List, length, Float}
use Rattle.std.proofs.Common.{arith}
use Rattle.std.specs.Float.Ieee.{neg}
use Rattle.float.specs.Number.{one_float}
use Rattle.float.specs.Trig.{widest}
use Rattle.float.specs.Promises.Order.{Within}
use Rattle.polynomial.specs.Polynomial.{add, multiply, determinant, coefficients}
use Rattle.polynomial.specs.Curve.{numerator, harmonic_a, harmonic_b, harmonic_c}
use Rattle.polynomial.specs.declared.compensated.Compensated.{Compensated}
use Rattle.polynomial.specs.declared.curve.Harmonic.{Harmonic}
use Rattle.polynomial.specs.declared.curve.Curve.{Curve}
use Rattle.polynomial.specs.Laws.Size.{All-small, small_add, small_multiply, small_determinant, one_small, minus_small}
use Rattle.polynomial.specs.Laws.SmallNorm.{Harmonic-under, numerator_small, numerator_length}
use Rattle.sampling.specs.CriticalSlices.{polynomials, squares, tangency, intersection}

-- all nine coefficients are at most 2 ^ k
pub record Curve-under (k : ℕ) (q : Curve) : Type 0 where
  pub a : Harmonic-under k (harmonic_a q)
  pub b : Harmonic-under k (harmonic_b q)
  pub c : Harmonic-under k (harmonic_c q)

-- ---- how many coefficients

pub tangency_length : (c : Curve) (origin : Float) → length (tangency (polynomials c origin)) ≡ 5
unfolding tangency squares numerator multiply coefficients add
tangency_length c origin = refl

determinant_length : (a b c d : Harmonic) (origin : Float)
    → length (determinant (numerator a origin) (numerator b origin) (numerator c origin) (numerator d origin)) ≡ 5
unfolding determinant numerator multiply coefficients add
determinant_length a b c d origin = refl

pub intersection_length : (c d : Curve) (origin : Float) → length (intersection (polynomials c origin) (polynomials d origin)) ≡ 9
unfolding intersection squares determinant numerator multiply coefficients add
intersection_length c d origin = refl

-- ---- how large

-- m coefficients each
squares_small : (k m n : ℕ) {p q r : List Compensated} → k + k + 47 + 10 * m ≤ n → n ≤ 1023 → length p ≡ m → length q ≡ m → length r ≡ m
    → All-small k p → All-small k q → All-small k r → All-small n (squares p q r)
unfolding squares
squares_small k m n a b c d e x y z =
    let i = k + k + 7 + 10 * m in
    small_add (i + 20) n (neg one_float) (omega arith) b minus_small
    (small_add i (i + 20) one_float (omega arith) (omega arith) one_small (small_multiply k k i (omega arith) (omega arith) x x)
    (small_multiply k k i (omega arith) (omega arith) y y))
    (small_multiply k k (i + 20) (omega arith) (omega arith) z z)

module _ (k : ℕ) (room : k ≤ 32) (origin : Float) (w : Within widest origin) where
  numerators : {h : Harmonic} → Harmonic-under k h → All-small (k + 12) (numerator h origin)
  numerators {h} u = numerator_small k (k + 12) h origin (omega arith) (omega arith) u w

  crossed : {a b c d : Harmonic} → Harmonic-under k a → Harmonic-under k b → Harmonic-under k c → Harmonic-under k d
      → All-small (k + k + 81) (determinant (numerator a origin) (numerator b origin) (numerator c origin) (numerator d origin))
  crossed {a} {b} {c} {d} x y z t =
      let e = numerator_length a origin in
      let f = numerator_length c origin in
      small_determinant (k + 12) (k + k + 81) (omega arith) (omega arith) (omega arith) (numerators x) (numerators y) (numerators z) (numerators t)

  pub tangency_small : (c : Curve) → Curve-under k c → All-small 399 (tangency (polynomials c origin))
  unfolding tangency
  tangency_small c u =
      squares_small (k + 12) 3 399 (omega arith) (omega arith) (numerator_length (harmonic_a c) origin) (numerator_length (harmonic_b c) origin)
      (numerator_length (harmonic_c c) origin) (numerators u.a) (numerators u.b) (numerators u.c)

  pub intersection_small : (c d : Curve) → Curve-under k c → Curve-under k d → All-small 399 (intersection (polynomials c origin) (polynomials d origin))
  unfolding intersection
  intersection_small c d u v =
      squares_small (k + k + 81) 5 399 (omega arith) (omega arith) (determinant_length _ _ _ _ origin) (determinant_length _ _ _ _ origin)
      (determinant_length _ _ _ _ origin)
      (crossed u.b v.c v.b u.c) (crossed u.c v.a v.c u.a) (crossed u.a v.b v.a u.b)
