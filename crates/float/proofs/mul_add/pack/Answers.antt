-- `float::mul_add::pack` meets its contract: from the place 2046 on the value is beyond the largest, and below it what is kept is what `closest` gives.
use Rattle.std.proofs.Common.{◌≡◌, ℕ, ◌+◌, ◌*◌, ◌/◌, ◌%◌, ◌^◌, ◌<◌, ◌≤◌, Bool, sym, ap, ◌∙◌, subst, arith}
use lib.Bits.{bit_and, and_mask}
use lib.Ieee.{binary64, units, of_bits}
use lib.Ieee.Nearest.{closest}
use Rattle.float.proofs.Pattern.{sign, overflows, closest_is, closest_le, closest_ge}
use Rattle.float.proofs.mul_add.pack.Goals as goal

-- the kept digits, and what they are moved up by, as the program has them
kept_is : (w : ℕ) → w / 2 ^ 11 + (bit_and w 2047 + bit_and (w / 2 ^ 11) 1 + 1023) / 2 ^ 11 ≡ closest w (2 ^ 11)
kept_is w =
    ap (λ (x : ℕ). w / 2 ^ 11 + (x + bit_and (w / 2 ^ 11) 1 + 1023) / 2 ^ 11) (and_mask w 11)
    ∙ ap (λ (x : ℕ). w / 2 ^ 11 + (w % 2 ^ 11 + x + 1023) / 2 ^ 11) (and_mask (w / 2 ^ 11) 1)
    ∙ sym (closest_is w)

infinite : (s : Bool) (w k : ℕ) → w < 2 ^ 64 → (0 < k → 2 ^ 63 ≤ w) → 2046 ≤ k
    → of_bits binary64 (sign s + 2047 * 2 ^ 52) ≡ units binary64 s (closest w (2 ^ 11)) k
infinite s w k W full h = overflows s (closest w (2 ^ 11)) k (closest_le w W) (closest_ge w (full (omega arith))) h

pub returns-then-neg : goal.returns-then-neg
returns-then-neg c =
    let a = c.args in
    subst (λ (s : Bool). of_bits binary64 (sign s + 2047 * 2 ^ 52) ≡ units binary64 a.neg (closest a.w (2 ^ 11)) a.k) c.if-neg.true
    (infinite a.neg a.w a.k c.ranges.w.fits c.requires c.if-k-ge2046.true)

pub returns-else-neg : goal.returns-else-neg
returns-else-neg c =
    let a = c.args in
    subst (λ (s : Bool). of_bits binary64 (sign s + 2047 * 2 ^ 52) ≡ units binary64 a.neg (closest a.w (2 ^ 11)) a.k) c.if-neg.false
    (infinite a.neg a.w a.k c.ranges.w.fits c.requires c.if-k-ge2046.true)

pub returns : goal.returns
returns c = c.float.ensures ∙ ap (λ (q : ℕ). units binary64 c.args.neg q c.args.k) (kept_is c.args.w)
