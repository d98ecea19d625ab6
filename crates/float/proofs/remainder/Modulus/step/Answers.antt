-- `float::remainder::Modulus::step` meets its contract: the quotient that it takes is the right one or one less.
use Rattle.std.proofs.Common.{◌≡◌, ℕ, ◌+◌, ◌-◌, ◌*◌, ◌/◌, ◌%◌, ◌^◌, ◌<◌, ◌≤◌, sym, refl, ap, ◌∙◌, subst, le_of_lt, mul-le-mul_right, mod-lt}
use Rattle.std.proofs.Common.{mul-le-mul_left, div-add-mod', arith, pow_pos}
use lib.Arith.{digits_mod}
use Rattle.float.proofs.remainder.Modulus.step.Goals as goal

-- v is the inverse, and h the quotient that its product with r gives
module _ (r q v h : ℕ) (R : r < q) (Q : q < 2 ^ 53) (E : v ≡ (2 ^ 64 - 1) / q) (H : h ≡ r * v / 2 ^ 53) where
  some : 0 < q
  some = omega arith

  whole : v * q + (2 ^ 64 - 1) % q ≡ 2 ^ 64 - 1
  whole = ap (λ (x : ℕ). x * q + (2 ^ 64 - 1) % q) E ∙ div-add-mod' (2 ^ 64 - 1) q

  cut : h * 2 ^ 53 + r * v % 2 ^ 53 ≡ r * v
  cut = ap (λ (x : ℕ). x * 2 ^ 53 + r * v % 2 ^ 53) H ∙ div-add-mod' (r * v) (2 ^ 53)

  fits : r * v < 2 ^ 64
  fits =
      let a : r * v ≤ q * v = mul-le-mul_right v (le_of_lt R) in
      let b = whole in
      omega arith

  -- not more than the quotient
  low : h * q ≤ r * 2 ^ 11
  low =
      let a = cut in
      let b : h * 2 ^ 53 * q ≤ r * v * q = mul-le-mul_right q (omega arith) in
      let w = whole in
      let d : r * (v * q) ≤ r * (2 ^ 64 - 1) = mul-le-mul_left r (omega arith) in
      omega arith

  -- and less by one at most
  high : r * 2 ^ 11 < (h + 2) * q
  high =
      let w = whole in
      let m : (2 ^ 64 - 1) % q < q = mod-lt (2 ^ 64 - 1) some in
      let a : r * 2 ^ 64 ≤ r * ((v + 1) * q) = mul-le-mul_left r (omega arith) in
      let k = cut in
      let n : r * v % 2 ^ 53 < 2 ^ 53 = mod-lt (r * v) (pow_pos 53) in
      let b : (r * v + r + 1) * q ≤ (h + 2) * 2 ^ 53 * q = mul-le-mul_right q (omega arith) in
      omega arith

  -- the rest
  kept : r * 2 ^ 11 % 2 ^ 64 ≡ r * 2 ^ 11
  kept = omega arith

  abbrev rest : ℕ
  rest = r * 2 ^ 11 % 2 ^ 64 - h * q

  one : rest < q → rest ≡ r * 2 ^ 11 % q
  one l = sym (ap (λ (x : ℕ). x % q) back ∙ digits_mod h l)
    where
      back : r * 2 ^ 11 ≡ h * q + rest
      back = omega (arith, low, kept)

  two : q ≤ rest → rest - q ≡ r * 2 ^ 11 % q
  two l = sym (ap (λ (x : ℕ). x % q) back ∙ digits_mod (h + 1) (omega (arith, low, high, kept)))
    where
      back : r * 2 ^ 11 ≡ (h + 1) * q + (rest - q)
      back = omega (arith, low, kept)

pub overflow_mul-quotient : goal.overflow_mul-quotient
overflow_mul-quotient c = record { fits = fits c.args.r c.args.self.q c.args.self.inverse _ c.requires c.args.self.short c.args.self.inverted refl }

pub overflow_mul-rest : goal.overflow_mul-rest
overflow_mul-rest c = let l : c.args.r * c.args.self.inverse / 2 ^ 53 * c.args.self.q ≤ c.args.r * 2 ^ 11 =
    low c.args.r c.args.self.q c.args.self.inverse _ c.requires c.args.self.short c.args.self.inverted refl in
    omega arith

pub overflow_sub-rest : goal.overflow_sub-rest
overflow_sub-rest c = let l = low c.args.r c.args.self.q c.args.self.inverse _ c.requires c.args.self.short c.args.self.inverted refl in
    subst (λ (x : ℕ). c.args.r * c.args.self.inverse / 2 ^ 53 * c.args.self.q ≤ x)
    (sym (kept c.args.r c.args.self.q c.args.self.inverse _ c.requires c.args.self.short c.args.self.inverted refl)) l

pub returns-then-rest-self : goal.returns-then-rest-self
returns-then-rest-self c = one c.args.r c.args.self.q c.args.self.inverse _ c.requires c.args.self.short c.args.self.inverted refl c.if-rest-self.true

pub returns-else-rest-self : goal.returns-else-rest-self
returns-else-rest-self c = two c.args.r c.args.self.q c.args.self.inverse _ c.requires c.args.self.short c.args.self.inverted refl (omega arith)
