-- Compensated sums and products in units: how far each part of a result is from the exact one, where every rounding is off by at most h units.
use Prim.Native.Nat.{ℕ, ◌+◌, ◌*◌, ◌^◌, ◌≤◌}
use native.Mathlib.Omega.{arith}
use lib.Ieee.{Float, binary64}
use Rattle.float.specs.Number.{◌⊕◌, ◌⊖◌, ◌⊗◌}
use Rattle.float.specs.ProductError.{product_error}
use Rattle.float.specs.Laws.Units.{Is}
use Rattle.float.specs.Laws.Close.{Close, Room, close_add, close_sub, close_self}
use Rattle.polynomial.specs.Compensated.{rounded, plus, times}
use Rattle.polynomial.specs.declared.compensated.Compensated.{Compensated}

-- ---- one sum or difference, about another centre
-- p - n is at most e from q - m
abbrev pub Apart : ℕ → ℕ → ℕ → ℕ → ℕ → Type 0
Apart p n q m e = (p + m ≤ q + n + e) × (q + n ≤ p + m + e)

pub close_to : {x : Float} {p n e : ℕ} (q m d : ℕ) → Close x p n e → (p + m + e ≤ q + n + d) × (q + n + e ≤ p + m + d) → Close x q m d
close_to q m d c h =
    let o = c.over in
    let u = c.under in
    record { r = c.r; s = c.s; is = c.is; over = omega arith; under = omega arith }

-- what a sum asks: h is a rounding that is large enough, and w units about u - v hold the result
abbrev pub Sum : ℕ → ℕ → ℕ → ℕ → ℕ → ℕ → ℕ → ℕ → ℕ → ℕ → Type 0
Sum p n e q m d h u v w = (p + q + e + d ≤ n + m + 2 ^ 53 * h) × (n + m + e + d ≤ p + q + 2 ^ 53 * h) × (p + q + v + e + d + h ≤ u + (n + m) + w) ×
    (u + (n + m) + e + d + h ≤ p + q + v + w)

pub add_to : {x y : Float} {p n e q m d : ℕ} (h u v w : ℕ) → Room h → Close x p n e → Close y q m d → Sum p n e q m d h u v w → Close (x ⊕ y) u v w
add_to {p = p} {n = n} {e = e} {q = q} {m = m} {d = d} h u v w r a b s =
    close_to u v w (close_add p n q m e d h r s.0 s.1 a b) (let s2 = s.2 in omega arith, let s3 = s.3 in omega arith)

pub sub_to : {x y : Float} {p n e q m d : ℕ} (h u v w : ℕ) → Room h → Close x p n e → Close y q m d → Sum p n e m q d h u v w → Close (x ⊖ y) u v w
sub_to {p = p} {n = n} {e = e} {q = q} {m = m} {d = d} h u v w r a b s =
    close_to u v w (close_sub p n q m e d h r s.0 s.1 a b) (let s2 = s.2 in omega arith, let s3 = s.3 in omega arith)

-- ---- a rounded value and what is left
-- the parts of c: the first at most e from p - n, the second at most d from zero
pub record Parts (c : Compensated) (p n e d : ℕ) : Type 0 where
  pub first : Close c.high p n e
  pub second : Close c.low 0 0 d

-- at most e from zero
abbrev pub Small : ℕ → ℕ → ℕ → Type 0
Small p n e = (p ≤ n + e) × (n ≤ p + e)

rounded_own : {x y : Float} (p n q m A B h : ℕ) → Room h → A + B + 2 * h ≤ 2 ^ 53 * h → Small p n A → Small q m B → Is binary64 x p n 0
    → Is binary64 y q m 0 → Parts (rounded x y) (p + q) (n + m) h (3 * h)
rounded_own p n q m A B h r w a b i j =
    let x = close_self p n i in
    let y = close_self q m j in
    let high = add_to h (p + q) (n + m) h r x y (omega arith) in
    let back = sub_to h q m (2 * h) r high x (omega arith) in
    record { first = high; second = sub_to h 0 0 (3 * h) r y back (omega arith) }

rounded_parts : {x y : Float} (p n A B h : ℕ) → Room h → A + B + 2 * h ≤ 2 ^ 53 * h → Small p n A → Is binary64 x p n 0 → Close y 0 0 B
    → Parts (rounded x y) p n (B + h) (3 * h)
rounded_parts p n A B h r w a i y =
    let o = y.over in
    let u = y.under in
    let z = rounded_own p n y.r y.s A B h r w a (omega arith) i y.is in
    record { first = close_to p n (B + h) z.first (omega arith); second = z.second }

-- ---- a sum
-- x + y, and the error that the two-sum finds
record TwoSum (x y : Float) (p n q m h : ℕ) : Type 0 where
  total : Close (x ⊕ y) (p + q) (n + m) h
  error : Close (x ⊖ (x ⊕ y ⊖ (x ⊕ y ⊖ x)) ⊕ (y ⊖ (x ⊕ y ⊖ x))) 0 0 (7 * h)

-- with s for the sum, which is r - t
error_own : {x y s : Float} (p n q m r t A B h : ℕ) → Room h → A + B + 8 * h ≤ 2 ^ 53 * h → Small p n A → Small q m B → Apart r t (p + q) (n + m) h
    → Is binary64 x p n 0 → Is binary64 y q m 0 → Is binary64 s r t 0 → Close (x ⊖ (s ⊖ (s ⊖ x)) ⊕ (y ⊖ (s ⊖ x))) 0 0 (7 * h)
error_own p n q m r t A B h k w a b c i j l =
    let x = close_self p n i in
    let y = close_self q m j in
    let s = close_self r t l in
    let virtual = sub_to h (r + n) (t + p) h k s x (omega arith) in
    let own = sub_to h p n (2 * h) k s virtual (omega arith) in
    let left = sub_to h 0 0 (3 * h) k x own (omega arith) in
    let right = sub_to h 0 0 (3 * h) k y virtual (omega arith) in
    add_to h 0 0 (7 * h) k left right (omega arith)

two_sum : {x y : Float} (p n q m A B h : ℕ) → Room h → A + B + 8 * h ≤ 2 ^ 53 * h → Small p n A → Small q m B → Is binary64 x p n 0
    → Is binary64 y q m 0 → TwoSum x y p n q m h
two_sum {x = x} {y = y} p n q m A B h k w a b i j = go (add_to h (p + q) (n + m) h k (close_self p n i) (close_self q m j) (omega arith))
  where
    go : Close (x ⊕ y) (p + q) (n + m) h → TwoSum x y p n q m h
    go s = let o = s.over in let u = s.under in record { total = s; error = error_own p n q m s.r s.s A B h k w a b (omega arith) i j s.is }

-- `plus`, where the first residual is at most 3 * h and the second at most h
pub plus_parts : (a b : Compensated) (p n q m A B h : ℕ) → Room h → A + B + 20 * h ≤ 2 ^ 53 * h → Small p n A → Small q m B
    → Is binary64 a.high p n 0 → Close a.low 0 0 (3 * h) → Is binary64 b.high q m 0 → Close b.low 0 0 h
    → Parts (plus a b) (p + q) (n + m) (15 * h) (3 * h)
unfolding plus
plus_parts a b p n q m A B h k w sa sb i l j c = go (two_sum p n q m A B h k (omega arith) sa sb i j)
  where
    go : TwoSum a.high b.high p n q m h → Parts (plus a b) (p + q) (n + m) (15 * h) (3 * h)
    go t =
        let o = t.total.over in
        let u = t.total.under in
        let e1 = add_to h 0 0 (11 * h) k t.error l (omega arith) in
        let e2 = add_to h 0 0 (13 * h) k e1 c (omega arith) in
        let z = rounded_parts t.total.r t.total.s (A + B + h) (13 * h) h k (omega arith) (omega arith) t.total.is e2 in
        record { first = close_to (p + q) (n + m) (15 * h) z.first (omega arith); second = z.second }

-- `times`, from its four products
pub times_parts : (a b : Compensated) (p n A h : ℕ) → Room h → A + 20 * h ≤ 2 ^ 53 * h → Small p n A → Is binary64 (a.high ⊗ b.high) p n 0
    → Close (product_error a.high b.high) 0 0 (2 * h)
    → Close (a.high ⊗ b.low) 0 0 h → Close (a.low ⊗ b.high) 0 0 (4 * h) → Close (a.low ⊗ b.low) 0 0 h → Parts (times a b) p n (12 * h) (3 * h)
unfolding times
times_parts a b p n A h k w s i e x y z =
    let e1 = add_to h 0 0 (4 * h) k e x (omega arith) in
    let e2 = add_to h 0 0 (9 * h) k e1 y (omega arith) in
    let e3 = add_to h 0 0 (11 * h) k e2 z (omega arith) in
    let r = rounded_parts p n A (11 * h) h k (omega arith) s i e3 in
    record { first = close_to p n (12 * h) r.first (omega arith); second = r.second }
