-- Dekker's error of a product and the fused product of a, b and minus the rounded product are one value, for a and b above zero in the range: `positive-equal`.
--
use Rattle.std.proofs.Common.{◌≡◌, ℕ, ◌+◌, ◌*◌, ◌^◌, ◌<◌, ◌≤◌, sym, ap, ◌∙◌, mul_assoc, mul_comm, add-mul, mul-pos, mul_right_comm, mul_left_comm}
use Rattle.std.proofs.Common.{arith, pow_pos}
use native.Mathlib.Nat.{eq_of_mul-eq-mul_right}
use lib.Ieee.{Float, binary64, neg, mul}
use lib.Ieee.Positive.{den, den_pos}
use Rattle.float.specs.Laws.Sign.{Alike}
use Rattle.float.specs.Promises.Order.{pl, mi}
use Rattle.float.specs.Laws.Le.{add_srnd}
use Rattle.float.specs.Laws.MulAdd.{by_parts, by_parts_srnd}
use Rattle.float.specs.Laws.Units.{Is, Is-neg, Is-unit, sum_eq, mul_value, srnd_same}
use Rattle.float.specs.Promises.Halves.{low_half}
use Rattle.float.proofs.product_error.Split.{halves}
use Rattle.float.proofs.product_error.Dekker.{numbers, product, dekker, step3, third, fourth}

-- ---- two fractions of the same number of units are equal
same_value : (u w P N c p n P' N' c' p' n' : ℕ) → 0 < u → P * u + n * w * c ≡ p * w * c + N * u → P' * u + n' * w * c' ≡ p' * w * c' + N' * u
    → p + n' ≡ p' + n → P * c' + N' * c ≡ P' * c + N * c'
same_value u w P N c p n P' N' c' p' n' U h k e =
    eq_of_mul-eq-mul_right u U (P * c' + N' * c) (P' * c + N * c') (both)
  where
    x : ℕ
    x = w * c * c'

    spread : (s t v : ℕ) → (s * u + t * w * c) * v ≡ s * v * u + t * (w * c * v)
    spread s t v = simp (add-mul, mul_assoc, mul_comm, mul_left_comm)

    spread' : (s t v : ℕ) → (t * w * c + s * u) * v ≡ t * (w * c * v) + s * v * u
    spread' s t v = simp (add-mul, mul_assoc, mul_comm, mul_left_comm)

    a1 : P * c' * u + n * (w * c * c') ≡ p * (w * c * c') + N * c' * u
    a1 = sym (spread P n c') ∙ ap (λ (z : ℕ). z * c') h ∙ spread' N p c'

    spread2 : (s t v : ℕ) → (s * u + t * w * c') * v ≡ s * v * u + t * (w * v * c')
    spread2 s t v = simp (add-mul, mul_assoc, mul_comm, mul_left_comm)

    spread2' : (s t v : ℕ) → (t * w * c' + s * u) * v ≡ t * (w * v * c') + s * v * u
    spread2' s t v = simp (add-mul, mul_assoc, mul_comm, mul_left_comm)

    a2 : P' * c * u + n' * (w * c * c') ≡ p' * (w * c * c') + N' * c * u
    a2 = sym (spread2 P' n' c) ∙ ap (λ (z : ℕ). z * c) k ∙ spread2' N' p' c

    a3 : p * (w * c * c') + n' * (w * c * c') ≡ p' * (w * c * c') + n * (w * c * c')
    a3 = sym (add-mul p n' (w * c * c')) ∙ ap (λ (z : ℕ). z * (w * c * c')) e ∙ add-mul p' n (w * c * c')

    both : (P * c' + N' * c) * u ≡ (P' * c + N * c') * u
    both =
        let b1 = a1 in
        let b2 = a2 in
        let b3 = a3 in
        let c1 : (P * c' + N' * c) * u ≡ P * c' * u + N' * c * u = add-mul (P * c') (N' * c) u in
        let c2 : (P' * c + N * c') * u ≡ P' * c * u + N * c' * u = add-mul (P' * c) (N * c') u in
        omega arith

pub positive_equal : (a b : Float) (A B i j k : ℕ) → i + j ≡ 1074 + k → k < 1900 → 2 ^ 52 ≤ A → A < 2 ^ 53 → i < 2000 → 2 ^ 52 ≤ B → B < 2 ^ 53
    → j < 2000 → Is binary64 a A 0 i → Is binary64 b B 0 j
    → Alike (dekker a b) (by_parts binary64 a b (neg (mul binary64 a b)))
positive_equal a b A B i j k e r la ha ri lb hb rj x y =
    let hx = halves a A i la ha ri x in
    let hy = halves b B j lb hb rj y in
    let h = hx.0 in
    let g = hy.0 in
    let N = numbers A B h g hb hx.1.few hy.1.few hx.1.over hx.1.under hy.1.over hy.1.under in
    let p = product a b A B i j k e r la ha lb hb x y in
    let t = Is-unit binary64 (step3 a b) (h * B + A * g) (p.Q * 2 ^ 25 + h * g * 2 ^ 27) k 27 (third a b A B i j k h g e r hx.1 hy.1 N p) in
    let u = fourth a b A B i j k h g e r hx.1 hy.1 N p in
    let s3 = step3 a b in
    let s4 = mul binary64 (low_half a) (low_half b) in
    let z = neg (mul binary64 a b) in
    let m = Is-neg binary64 (mul binary64 a b) (p.Q * 2 ^ 52) 0 k p.is in
    let q3 : A * (g * 2 ^ 27) ≡ A * g * 2 ^ 27 = sym (mul_assoc A g (2 ^ 27)) in
    let q4 : h * 2 ^ 27 * B ≡ h * B * 2 ^ 27 = mul_right_comm h (2 ^ 27) B in
    let q5 : h * 2 ^ 27 * (g * 2 ^ 27) ≡ h * g * 2 ^ 54 = native.Mathlib.Nat.mul-mul-mul_comm h (2 ^ 27) g (2 ^ 27) in
    let q6 : (h * B + A * g) * 2 ^ 27 ≡ h * B * 2 ^ 27 + A * g * 2 ^ 27 = add-mul (h * B) (A * g) (2 ^ 27) in
    let P1 = pl s3 * den s4 + pl s4 * den s3 in
    let N1 = mi s3 * den s4 + mi s4 * den s3 in
    let P2 = (pl a * pl b + mi a * mi b) * den z + pl z * (den a * den b) in
    let N2 = (pl a * mi b + mi a * pl b) * den z + mi z * (den a * den b) in
    add_srnd binary64 s3 s4 t.real u.real
    ∙ srnd_same binary64 P1 N1 (den s3 * den s4) P2 N2 (den a * den b * den z) (mul-pos (den_pos s3) (den_pos s4))
    (mul-pos (mul-pos (den_pos a) (den_pos b)) (den_pos z))
    (same_value (2 ^ 1074) (2 ^ k) P1 N1 (den s3 * den s4) ((h * B + A * g) * 2 ^ 27 + (A * B + h * 2 ^ 27 * (g * 2 ^ 27)))
    ((p.Q * 2 ^ 25 + h * g * 2 ^ 27) * 2 ^ 27 + (A * (g * 2 ^ 27) + h * 2 ^ 27 * B))
    P2 N2 (den a * den b * den z) (A * B + 0 * 0 + 0) (A * 0 + 0 * B + p.Q * 2 ^ 52) (pow_pos 1074)
    (sum_eq (2 ^ 1074) (2 ^ k) ((h * B + A * g) * 2 ^ 27) ((p.Q * 2 ^ 25 + h * g * 2 ^ 27) * 2 ^ 27) (den s3) (pl s3) (mi s3)
    (A * B + h * 2 ^ 27 * (g * 2 ^ 27)) (A * (g * 2 ^ 27) + h * 2 ^ 27 * B) (den s4) (pl s4) (mi s4) t.value u.value)
    (sum_eq (2 ^ 1074) (2 ^ k) (A * B + 0 * 0) (A * 0 + 0 * B) (den a * den b) (pl a * pl b + mi a * mi b) (pl a * mi b + mi a * pl b) 0
    (p.Q * 2 ^ 52) (den z) (pl z) (mi z) (mul_value binary64 a b A 0 B 0 i j k e x y) m.value)
    (omega arith))
    ∙ sym (by_parts_srnd binary64 a b z x.real y.real m.real)
