-- Where m * 2 ^ 52 lies to the middles beside q, by the distance d = m * 2 ^ 52 - q * q + 3 * 2 ^ 52; and the value that the nearest whole number makes.
use Rattle.std.proofs.Common.{◌≡◌, refl, ℕ, zero, suc, ◌+◌, ◌-◌, ◌*◌, ◌^◌, ◌<◌, ◌≤◌, Bool, true, false, sym, subst, mul-le-mul_right, mul-le-mul}
use Rattle.std.proofs.Common.{mul-lt-mul_of_pos_right, lt_of_not-le, arith, pow_pos}
use native.Mathlib.Numerals.{unary_clauses}
use mir.Val.{bool_byte}
use lib.Dec.{ltb, leb}
use Rattle.std.proofs.lemmas.Bool.{ltb-true, ltb-false, leb-true, leb-false}
use lib.Ieee.{binary64, units}
use Rattle.float.specs.Sqrt.{root_of}
use Rattle.float.specs.Promises.Parts.{Roots}
use Rattle.float.proofs.sqrt.Rooted.{root_at, root_range}

less_one : (q : ℕ) → q * (q - 1) + q ≡ q * q
less_one zero = omega arith
less_one (suc p) = simp unary_clauses (omega arith)

one_before : (q : ℕ) → 1 ≤ q → q * q ≡ (q - 1) * (q - 1) + (q - 1) + q
one_before zero h = absurd (omega arith)
one_before (suc p) h = simp unary_clauses (omega arith)

-- the result by where d lies
module _ (m d q : ℕ) (g : 2 ^ 52 ≤ q) (e : d + q * q ≡ (m + 3) * 2 ^ 52) where
  pub same : d ≤ q + 3 * 2 ^ 52 → 3 * 2 ^ 52 < d + q → Roots (m * 2 ^ 52) q
  same a b = record { above = omega (arith, less_one q); below = omega arith }

  up : d ≤ 6 * 2 ^ 52 → q + 3 * 2 ^ 52 < d → Roots (m * 2 ^ 52) (q + 1)
  up a b = record { above = omega (arith, less_one (q + 1)); below = omega arith }

  -- q is not 2 ^ 52 here, since m * 2 ^ 52 is not below the square of that
  more : 2 ^ 52 ≤ m → d + q ≤ 3 * 2 ^ 52 → 2 ^ 52 < q
  more l b = lt_of_not-le (λ (k : q ≤ 2 ^ 52). no (mul-le-mul k k))
    where
      no : q * q ≤ 2 ^ 52 * 2 ^ 52 → ⊥
      no k = omega arith

  down : 2 ^ 52 ≤ m → 0 < d → d + q ≤ 3 * 2 ^ 52 → Roots (m * 2 ^ 52) (q - 1)
  down l a b =
      let k : 2 ^ 52 < q = more l b in
      let x : q * q ≡ (q - 1) * (q - 1) + (q - 1) + q = one_before q (omega arith) in
      record { above = omega (arith, less_one (q - 1)); below = omega arith }

  pub beside : 2 ^ 52 ≤ m → 0 < d → d ≤ 6 * 2 ^ 52 → Roots (m * 2 ^ 52) (q + bool_byte (ltb (q + 3 * 2 ^ 52) d) - bool_byte (leb (d + q) (3 * 2 ^ 52)))
  beside l a b = go (ltb (q + 3 * 2 ^ 52) d) (leb (d + q) (3 * 2 ^ 52)) refl refl
    where
      go : (u v : Bool) → ltb (q + 3 * 2 ^ 52) d ≡ u → leb (d + q) (3 * 2 ^ 52) ≡ v → Roots (m * 2 ^ 52) (q + bool_byte u - bool_byte v)
      go true true x y = let i = ltb-true _ _ x in let j = leb-true _ _ y in absurd (omega arith)
      go true false x y = subst (Roots (m * 2 ^ 52)) (omega arith) (up b (ltb-true _ _ x))
      go false true x y = subst (Roots (m * 2 ^ 52)) (omega arith) (down l a (leb-true _ _ y))
      go false false x y = subst (Roots (m * 2 ^ 52)) (omega arith) (same (ltb-false _ _ x) (leb-false _ _ y))

-- ---- for m of 53 or 54 digits
module _ (m q : ℕ) (lo : 2 ^ 52 ≤ m) (hi : m < 2 ^ 54) (R : Roots (m * 2 ^ 52) q) where
  least : 2 ^ 104 ≤ m * 2 ^ 52
  least = mul-le-mul_right (2 ^ 52) lo

  most : m * 2 ^ 52 < 2 ^ 106
  most = mul-lt-mul_of_pos_right hi (pow_pos 52)

  pub nearest_range : (2 ^ 52 ≤ q) × (q ≤ 2 ^ 53)
  nearest_range = root_range (m * 2 ^ 52) q least most R

  pub nearest_root : (k : ℕ) → units binary64 false q k ≡ root_of binary64 (m * 2 ^ 52 * 2 ^ k * 2 ^ k)
  nearest_root k = sym (root_at (m * 2 ^ 52) k q least most R)
