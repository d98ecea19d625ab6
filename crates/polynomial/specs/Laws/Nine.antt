-- Nine places with a polynomial's coefficients and zeros behind them: the coefficients read back.
use Rattle.std.specs.Prelude.{ℕ, zero, suc, ◌+◌, ◌-◌, ◌≤◌, max, ◌≡◌, List, [], ◌∷◌, length, take, drop, replicate, Float}
use Rattle.std.proofs.Common.{arith, ap, ap₂, ◌∙◌, take_at, drop_at, length-take-le}
use Rattle.std.proofs.Math.Path.{refl}
use Rattle.std.specs.Float.Ieee.{neg}
use Rattle.float.specs.Number.{one_float}
use Rattle.polynomial.specs.Polynomial.{zero_pair, nine, add, coefficients, multiply, determinant}
use Rattle.polynomial.specs.Curve.{numerator, times_each, target, norm_polynomial}
use Rattle.polynomial.specs.declared.compensated.Compensated.{Compensated}
use Rattle.polynomial.specs.declared.curve.Harmonic.{Harmonic}

-- the coefficients, and the zeros behind them
pub front : (r l : List Compensated) (k : ℕ) → length l ≡ k → r ≡ nine l → take k r ≡ l
unfolding nine
front r l k h e = ap (take k) e ∙ take_at l (replicate (9 - length l) zero_pair) k h

behind : (r l : List Compensated) (k : ℕ) → length l ≡ k → r ≡ nine l → drop k r ≡ replicate (9 - k) zero_pair
unfolding nine
behind r l k h e = ap (drop k) e ∙ drop_at l (replicate (9 - length l) zero_pair) k h ∙ ap (λ (j : ℕ). replicate (9 - j) zero_pair) h

pub length_add : (a b : List Compensated) (scale : Float) → length (add a b scale) ≡ max (length a) (length b)
unfolding add
length_add [] [] scale = refl
length_add [] (b ∷ bs) scale = let e = length_add [] bs scale in omega arith
length_add (a ∷ cs) [] scale = let e = length_add cs [] scale in omega arith
length_add (a ∷ cs) (b ∷ bs) scale = let e = length_add cs bs scale in omega arith

length_coefficients : (a b : List Compensated) (k count : ℕ) → length (coefficients a b k count) ≡ count
unfolding coefficients
length_coefficients a b k zero = refl
length_coefficients a b k (suc count) = ap suc (length_coefficients a b (suc k) count)

pub length_multiply : (a b : List Compensated) → length (multiply a b) ≡ length a + length b - 1
unfolding multiply
length_multiply a b = length_coefficients a b 0 (length a + length b - 1)

pub length_determinant : (a b c d : List Compensated) → length (determinant a b c d) ≡ max (length a + length b - 1) (length c + length d - 1)
unfolding determinant
length_determinant a b c d = length_add (multiply a b) (multiply c d) (neg one_float) ∙ ap₂ max (length_multiply a b) (length_multiply c d)

module _ (r a b : List Compensated) (n : ℕ) where
  pub add_front : (scale : Float) → r ≡ nine (add (take n a) (take n b) scale) → n ≤ length a → n ≤ length b → take n r ≡ add (take n a) (take n b) scale
  add_front scale e h k =
      let x = length-take-le n a h in
      let y = length-take-le n b k in
      let l = length_add (take n a) (take n b) scale in
      front r (add (take n a) (take n b) scale) n (omega arith) e

  module _ (m : ℕ) where
    pub multiply_front : r ≡ nine (multiply (take n a) (take m b)) → n ≤ length a → m ≤ length b → take (n + m - 1) r ≡ multiply (take n a) (take m b)
    multiply_front e h k =
        let x = length-take-le n a h in
        let y = length-take-le m b k in
        let l = length_multiply (take n a) (take m b) in
        front r (multiply (take n a) (take m b)) (n + m - 1) (omega arith) e

    pub multiply_behind : r ≡ nine (multiply (take n a) (take m b)) → n ≤ length a → m ≤ length b → drop (n + m - 1) r ≡ replicate (9 - (n + m - 1)) zero_pair
    multiply_behind e h k =
        let x = length-take-le n a h in
        let y = length-take-le m b k in
        let l = length_multiply (take n a) (take m b) in
        behind r (multiply (take n a) (take m b)) (n + m - 1) (omega arith) e

    pub determinant_front : (c d : List Compensated) → r ≡ nine (determinant (take n a) (take m b) (take n c) (take m d)) → n ≤ length a
        → m ≤ length b → n ≤ length c → m ≤ length d
        → take (n + m - 1) r ≡ determinant (take n a) (take m b) (take n c) (take m d)
    determinant_front c d e h k p q =
        let x = length-take-le n a h in
        let y = length-take-le m b k in
        let z = length-take-le n c p in
        let w = length-take-le m d q in
        let l = length_determinant (take n a) (take m b) (take n c) (take m d) in
        front r (determinant (take n a) (take m b) (take n c) (take m d)) (n + m - 1) (omega arith) e

pub numerator_front : (r : List Compensated) (h : Harmonic) (origin : Float) → r ≡ nine (numerator h origin) → take 3 r ≡ numerator h origin
unfolding numerator
numerator_front r h origin = front r (numerator h origin) 3 refl

pub target_front : (r : List Compensated) (norm : Float) → r ≡ nine (target norm) → take 5 r ≡ target norm
unfolding coefficients multiply times_each target
target_front r norm = front r (target norm) 5 refl

pub length_target : (norm : Float) → length (target norm) ≡ 5
unfolding coefficients multiply times_each target
length_target norm = refl

module _ (x y : Harmonic) (norm origin : Float) where
  pub length_norm : length (norm_polynomial x y norm origin) ≡ 5
  unfolding numerator coefficients multiply add times_each target norm_polynomial
  length_norm = refl

  pub norm_front : (r : List Compensated) → r ≡ nine (norm_polynomial x y norm origin) → take 5 r ≡ norm_polynomial x y norm origin
  norm_front r = front r (norm_polynomial x y norm origin) 5 length_norm
