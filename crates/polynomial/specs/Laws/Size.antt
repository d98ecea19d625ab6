-- The size of compensated sums and products, and of polynomials with compensated coefficients: `Small n c`, both parts of c are at most 2 ^ n; `All-small n
-- p`, every coefficient is.
-- Each law takes any n that is large enough and at most 1023: a sum takes 10 bits more, a product 7 more than both, a sum of lists 20, a product of lists 7
-- more than both and 10 for each coefficient.
use Rattle.std.specs.Prelude.{ℕ, zero, suc, ◌+◌, ◌-◌, ◌*◌, ◌≤◌, ◌≡◌, List, [], ◌∷◌, length, get_or, Float}
use Rattle.std.proofs.Common.{arith}
use Rattle.std.specs.Float.Ieee.{neg}
use Rattle.float.specs.Number.{one_float}
use Rattle.float.specs.Laws.Within.{numeral, neg_within}
use Rattle.polynomial.specs.Compensated.{from, plus, times}
use Rattle.polynomial.specs.Polynomial.{zero_pair, add, column, coefficients, multiply, determinant, first_place, places}
use Rattle.polynomial.specs.Curve.{times_each}
use Rattle.polynomial.specs.declared.compensated.Compensated.{Compensated}
use Rattle.float.specs.Laws.Under.{Under, under_add, under_sub, under_mul, under_error, under_le, under_zero}

pub record Small (k : ℕ) (a : Compensated) : Type 0 where
  pub high : Under k a.high
  pub low : Under k a.low

pub small_le : (k n : ℕ) {a : Compensated} → k ≤ n → Small k a → Small n a
small_le k n h a = record { high = under_le k n h a.high; low = under_le k n h a.low }

pub small_from : (k : ℕ) {x : Float} → Under k x → Small k (from x)
small_from k h = record { high = h; low = under_zero k }

pub small_zero : (k : ℕ) → Small k zero_pair
small_zero k = small_from k (under_zero k)

-- ---- sum and product
pub small_plus : (k n : ℕ) {a b : Compensated} → k + 10 ≤ n → n ≤ 1023 → Small k a → Small k b → Small n (plus a b)
unfolding plus
small_plus k n {a} {b} l r x y =
    let s = under_add k k (k + 1) (omega arith) (omega arith) (omega arith) x.high y.high in
    let v = under_sub (k + 1) k (k + 2) (omega arith) (omega arith) (omega arith) s x.high in
    let e1 = under_sub k (k + 3) (k + 4) (omega arith) (omega arith) (omega arith) x.high
    (under_sub (k + 1) (k + 2) (k + 3) (omega arith) (omega arith) (omega arith) s v) in
    let e2 = under_sub k (k + 2) (k + 3) (omega arith) (omega arith) (omega arith) y.high v in
    let e3 = under_add (k + 4) (k + 3) (k + 5) (omega arith) (omega arith) (omega arith) e1 e2 in
    let e4 = under_add (k + 5) k (k + 6) (omega arith) (omega arith) (omega arith) e3 x.low in
    let e5 = under_add (k + 6) k (k + 7) (omega arith) (omega arith) (omega arith) e4 y.low in
    let h = under_add (k + 1) (k + 7) (k + 8) (omega arith) (omega arith) (omega arith) s e5 in
    record {
      high = under_le (k + 8) n (omega arith) h;
      low = under_sub (k + 7) (k + 9) n (omega arith) (omega arith) (omega arith) e5
          (under_sub (k + 8) (k + 1) (k + 9) (omega arith) (omega arith) (omega arith) h s);
    }

pub small_times : (k l n : ℕ) {a b : Compensated} → k + l + 7 ≤ n → n ≤ 1023 → Small k a → Small l b → Small n (times a b)
unfolding times
small_times k l n {a} {b} i r x y =
    let p = under_mul k l (k + l) (omega arith) (omega arith) x.high y.high in
    let f = under_error k l (k + l + 1) (omega arith) (omega arith) x.high y.high in
    let e1 = under_add (k + l + 1) (k + l) (k + l + 2) (omega arith) (omega arith) (omega arith) f
    (under_mul k l (k + l) (omega arith) (omega arith) x.high y.low) in
    let e2 = under_add (k + l + 2) (k + l) (k + l + 3) (omega arith) (omega arith) (omega arith) e1
    (under_mul k l (k + l) (omega arith) (omega arith) x.low y.high) in
    let e3 = under_add (k + l + 3) (k + l) (k + l + 4) (omega arith) (omega arith) (omega arith) e2
    (under_mul k l (k + l) (omega arith) (omega arith) x.low y.low) in
    let h = under_add (k + l) (k + l + 4) (k + l + 5) (omega arith) (omega arith) (omega arith) p e3 in
    record {
      high = under_le (k + l + 5) n (omega arith) h;
      low = under_sub (k + l + 4) (k + l + 6) n (omega arith) (omega arith) (omega arith) e3
          (under_sub (k + l + 5) (k + l) (k + l + 6) (omega arith) (omega arith) (omega arith) h p);
    }

-- ---- lists of coefficients
pub data All-small (k : ℕ) : List Compensated → Type 0 where
  none : All-small k []
  more : {c : Compensated} {cs : List Compensated} → Small k c → All-small k cs → All-small k (c ∷ cs)

pub small_at : (k : ℕ) {p : List Compensated} (i : ℕ) → All-small k p → Small k (get_or p i zero_pair)
small_at k i none = small_zero k
small_at k zero (more s t) = s
small_at k (suc i) (more s t) = small_at k i t

-- a sum, the second list times a scale within 1
pub small_add : (k n : ℕ) {a b : List Compensated} (scale : Float) → k + 20 ≤ n → n ≤ 1023 → Under 0 scale → All-small k a → All-small k b
    → All-small n (add a b scale)
unfolding add
small_add k n scale l r h none none = none
small_add k n scale l r h none (more y t) =
    more (small_plus (k + 7) n (omega arith) r (small_zero (k + 7)) (small_times k 0 (k + 7) (omega arith) (omega arith) y (small_from 0 h)))
    (small_add k n scale l r h none t)
small_add k n scale l r h (more x s) none = more (small_plus k n (omega arith) r (small_zero k) x) (small_add k n scale l r h s none)
small_add k n scale l r h (more x s) (more y t) =
    more (small_plus (k + 10) n (omega arith) r (small_plus k (k + 10) (omega arith) (omega arith) (small_zero k) x)
    (small_times k 0 (k + 10) (omega arith) (omega arith) y (small_from 0 h))) (small_add k n scale l r h s t)

-- a column of a product: 10 bits for each place
small_column : (k l n : ℕ) {a b : List Compensated} (j i count m : ℕ) {r : Compensated} → k + l + 7 ≤ m → m + 10 * count ≤ n → n ≤ 1023 → All-small k a
    → All-small l b → Small m r → Small n (column a b j i count r)
unfolding column
small_column k l n j i zero m u v w x y s = small_le m n (omega arith) s
small_column k l n j i (suc count) m u v w x y s =
    small_column k l n j (suc i) count (m + 10) (omega arith) (omega arith) w x y
    (small_plus m (m + 10) (omega arith) (omega arith) s (small_times k l m u (omega arith) (small_at k i x) (small_at l (j - i) y)))

small_coefficients : (k l n : ℕ) {a b : List Compensated} (j count : ℕ) → k + l + 7 + 10 * length a ≤ n → n ≤ 1023 → All-small k a → All-small l b
    → All-small n (coefficients a b j count)
unfolding coefficients
small_coefficients k l n j zero u w x y = none
small_coefficients k l n {a} {b} j (suc count) u w x y =
    more (small_column k l n j (first_place (length b) j) (places (length a) (length b) j) (k + l + 7) (omega arith)
    (room (places (length a) (length b) j) (omega arith)) w x y (small_zero (k + l + 7)))
    (small_coefficients k l n (suc j) count u w x y)
  where
    room : (c : ℕ) → c ≤ length a → k + l + 7 + 10 * c ≤ n
    room c h = omega arith

pub small_multiply : (k l n : ℕ) {a b : List Compensated} → k + l + 7 + 10 * length a ≤ n → n ≤ 1023 → All-small k a → All-small l b
    → All-small n (multiply a b)
unfolding multiply
small_multiply k l n {a} {b} u w x y = small_coefficients k l n 0 (length a + length b - 1) u w x y

-- 1 and -1
pub one_small : Under 0 one_float
one_small = numeral one_float one_float tt

pub minus_small : Under 0 (neg one_float)
minus_small = neg_within one_small

pub small_determinant : (k n : ℕ) {a b c d : List Compensated} → k + k + 27 + 10 * length a ≤ n → length a ≡ length c → n ≤ 1023 → All-small k a
    → All-small k b → All-small k c → All-small k d → All-small n (determinant a b c d)
unfolding determinant
small_determinant k n {a} {b} {c} {d} u e w x y z t =
    let m = k + k + 7 + 10 * length a in
    small_add (k + k + 7 + 10 * length a) n (neg one_float) (omega arith) w minus_small
    (small_multiply k k (k + k + 7 + 10 * length a) (omega arith) (omega arith) x y)
    (small_multiply k k (k + k + 7 + 10 * length a) (omega arith) (omega arith) z t)

pub small_times_each : (k l n : ℕ) {p : List Compensated} {f : Compensated} → k + l + 7 ≤ n → n ≤ 1023 → All-small k p → Small l f
    → All-small n (times_each p f)
unfolding times_each
small_times_each k l n u w none f = none
small_times_each k l n u w (more s t) f = more (small_times k l n u w s f) (small_times_each k l n u w t f)
