-- `float::mul_add::shift` meets its contract. A count of leading zeros makes the width with the place of the highest digit (`leading_top`).
use Rattle.std.proofs.Common.{◌≡◌, ℕ, suc, ◌+◌, ◌*◌, ◌^◌, ◌<◌, ◌≤◌, min, sym, ap, ◌∙◌, subst, inl, inr, le_trans, le_of_eq, lt_of_lt_of_le, lt_of_le_of_lt}
use Rattle.std.proofs.Common.{mul-le-mul_left, mul-le-mul_right, mul-lt-mul_of_pos_right, arith, pow_pos, pow_mono, pow-add}
use Rattle.std.proofs.lemmas.Nat.{leading_top}
use Rattle.std.specs.Int.Count.{count_leading_zeros}
use Rattle.float.specs.Promises.Parts.{Shifts}
use Rattle.float.specs.Laws.Compare.{lt_or_le}
use Rattle.float.proofs.mul_add.shift.Goals as goal

-- shifted by z, the highest digit of D is the top one of 128
abbrev Tops : ℕ → ℕ → Type 0
Tops D z = (2 ^ 127 ≤ D * 2 ^ z) × (D * 2 ^ z < 2 ^ 128)

-- D has its highest digit at j, and z makes 127 with j
tops : (D j z : ℕ) → z + suc j ≡ 128 → 2 ^ j ≤ D → D < 2 ^ suc j → Tops D z
tops D j z e lo hi = (
  le_trans (le_of_eq (ap (λ (x : ℕ). 2 ^ x) (before j z e) ∙ pow-add 2 j z)) (mul-le-mul_right (2 ^ z) lo),
  lt_of_lt_of_le (mul-lt-mul_of_pos_right hi (pow_pos z)) (le_of_eq (sym (pow-add 2 (suc j) z) ∙ ap (λ (x : ℕ). 2 ^ x) (all j z e))),
)
  where
    before : (j z : ℕ) → z + suc j ≡ 128 → 127 ≡ j + z
    before j z e = omega arith

    all : (j z : ℕ) → z + suc j ≡ 128 → suc j + z ≡ 128
    all j z e = omega arith

-- a shift by less leaves less
shifts : (D y z : ℕ) → Tops D z → Shifts D y (min z y)
shifts D y z t = elim (lt_or_le z y) [
  | inl h ↦ subst (λ (s : ℕ). Shifts D y s) (first z y h) (record { within = omega arith; top = t.1; full = λ _. t.0 })
  | inr h ↦ subst (λ (s : ℕ). Shifts D y s) (second z y h)
      (record { within = omega arith; top = lt_of_le_of_lt (mul-le-mul_left D (pow_mono h)) t.1; full = λ l. absurd (no y l) })
]
  where
    first : (z y : ℕ) → z < y → z ≡ min z y
    first z y h = omega arith

    second : (z y : ℕ) → y ≤ z → y ≡ min z y
    second z y h = omega arith

    no : (y : ℕ) → y < y → ⊥
    no y l = omega arith

pub returns : goal.returns
returns c =
    let x = c.args.x in
    let t = leading_top 128 x c.requires c.ranges.x.fits in
    subst (λ (s : ℕ). Shifts x c.args.y s) (sym (c.min.ensures ∙ ap (λ (z : ℕ). min z c.args.y) c.from.ensures))
    (shifts x c.args.y (count_leading_zeros 128 x) (tops x t.0 (count_leading_zeros 128 x) t.1 t.2 t.3))
