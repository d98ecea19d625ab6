-- `float::sqrt::lift` meets its contract: the count of leading zeros makes 64 with the place
-- j of the highest digit and one (`leading_top`), and j is 52 at most.
use Rattle.std.proofs.Common.{◌≡◌, ℕ, suc, ◌+◌, ◌-◌, ◌*◌, ◌^◌, ◌<◌, ◌≤◌, sym, ap, ◌∙◌, le_trans, le_of_eq, lt_of_lt_of_le, mul-le-mul_right}
use Rattle.std.proofs.Common.{mul-lt-mul_of_pos_right, lt_of_not-le, not-le_of_lt, arith, pow_pos, pow_mono, pow-add}
use Rattle.std.proofs.lemmas.Nat.{leading_top}
use Rattle.float.proofs.sqrt.lift.Goals as goal

-- 2 ^ j is at most q, which is below 2 ^ 53
place : (q j : ℕ) → 2 ^ j ≤ q → q < 2 ^ 53 → j < 53
place q j a b = lt_of_not-le (λ (g : 53 ≤ j). not-le_of_lt b (le_trans (pow_mono g) a))

lifted : (q j z : ℕ) → z + suc j ≡ 64 → 2 ^ j ≤ q → q < 2 ^ suc j → j < 53 → (z - 11 ≤ 52) × (2 ^ 52 ≤ q * 2 ^ (z - 11)) × (q * 2 ^ (z - 11) < 2 ^ 53)
lifted q j z e a b h = (
  few j z e,
  le_trans (le_of_eq (ap (λ (x : ℕ). 2 ^ x) (below j z e h) ∙ pow-add 2 j (z - 11))) (mul-le-mul_right (2 ^ (z - 11)) a),
  lt_of_lt_of_le (mul-lt-mul_of_pos_right b (pow_pos (z - 11))) (le_of_eq (sym (pow-add 2 (suc j) (z - 11)) ∙ ap (λ (x : ℕ). 2 ^ x) (above j z e h))),
)
  where
    few : (j z : ℕ) → z + suc j ≡ 64 → z - 11 ≤ 52
    few j z e = omega arith

    below : (j z : ℕ) → z + suc j ≡ 64 → j < 53 → 52 ≡ j + (z - 11)
    below j z e h = omega arith

    above : (j z : ℕ) → z + suc j ≡ 64 → j < 53 → suc j + (z - 11) ≡ 53
    above j z e h = omega arith

wide : (q : ℕ) → q < 2 ^ 53 → q < 2 ^ 64
wide q h = omega arith

pub overflow_sub-result : goal.overflow_sub-result
overflow_sub-result c =
    let t = leading_top 64 c.args.q c.requires.0 (wide c.args.q c.requires.1) in
    omega (arith, c.from.ensures, t.1, place c.args.q t.0 t.2 c.requires.1)

pub returns : goal.returns
returns c =
    let q = c.args.q in
    let t = leading_top 64 q c.requires.0 (wide q c.requires.1) in
    lifted q t.0 c.from.result (ap (λ (z : ℕ). z + suc t.0) c.from.ensures ∙ t.1) t.2 t.3 (place q t.0 t.2 c.requires.1)
