-- `float::mul_add::split` meets its contract: the masks take the fields of the pattern, and `Read` has what the fields say.
use Rattle.std.proofs.Common.{◌≡◌, ℕ, suc, ◌+◌, ◌-◌, ◌/◌, ◌%◌, ◌^◌, T, leb, sym, refl, ◌∙◌, subst, arith}
use lib.Bits.{bit_and, and_mask, mask_lt}
use lib.Ieee.{binary64, fits, to_bits}
use Rattle.float.specs.Promises.Parts.{Splits}
use Rattle.float.specs.Laws.Tests.{finite_number}
use Rattle.float.proofs.Read.{split_low, split_high}
use Rattle.float.proofs.mul_add.split.Goals as goal
use Rattle.float.proofs.mul_add.split.Goals.{Then-field-eq0}

-- what owning an `f64` tells: the format holds it
held : (c : goal.Start) → T (fits binary64 c.args.x)
held c = subst T (sym c.well_formed.0.1) tt

abbrev bits : goal.Start → ℕ
bits c = to_bits binary64 c.args.x

-- the field that the program tests, and the one that `Read` speaks of
field : (b : ℕ) → bit_and (b / 2 ^ 52) 2047 ≡ b / 2 ^ 52 % 2 ^ 11
field b = and_mask (b / 2 ^ 52) 11

one_less : (n : ℕ) → (n ≡ 0 → ⊥) → n ≡ suc (n - 1)
one_less n h = omega arith

pub float_to_bits-bits : goal.float_to_bits-bits
float_to_bits-bits c = finite_number c.args.x c.requires

pub overflow_add-result : goal.overflow_add-result
overflow_add-result c = omega (arith, mask_lt (bits c.before) 52)

low : (c : Then-field-eq0) → Splits c.before.args.x (leb (2 ^ 63) (bits c.before)) (bit_and (bits c.before) (2 ^ 52 - 1)) 0
low c = let s = c.before in let b = bits s in
    subst (λ (q : ℕ). Splits s.args.x (leb (2 ^ 63) b) q 0) (sym (and_mask b 52))
    (split_low s.args.x b (held s) s.requires refl (sym (field b) ∙ c.if-field-eq0.true))

high : (c : goal.Else-field-eq0)
    → Splits c.before.args.x (leb (2 ^ 63) (bits c.before)) (bit_and (bits c.before) (2 ^ 52 - 1) + 2 ^ 52) (bit_and (bits c.before / 2 ^ 52) 2047 - 1)
high c = let s = c.before in let b = bits s in
    let y = bit_and (b / 2 ^ 52) 2047 in
    subst (λ (q : ℕ). Splits s.args.x (leb (2 ^ 63) b) (q + 2 ^ 52) (y - 1)) (sym (and_mask b 52))
    (split_high s.args.x b (held s) s.requires refl (y - 1) (sym (field b) ∙ one_less y c.if-field-eq0.false))

pub returns-then-field-eq0 : goal.returns-then-field-eq0
returns-then-field-eq0 c = low c.before

pub invariant_of-result-2 : goal.invariant_of-result-2
invariant_of-result-2 c = let h = high c in record { short = omega (arith, h.short); place = h.place; full = h.full }

pub returns : goal.returns
returns c = high c.before
