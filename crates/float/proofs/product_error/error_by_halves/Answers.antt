-- `float::product_error::error_by_halves` meets its contract, by `dekker-is-fused`: the code's constant is 2 ^ -200.
use Rattle.std.proofs.Common.{◌≡◌, true, T, sym, ap₂, ◌∙◌, lit≤, rules}
use lib.Ieee.{Float, binary64, fits, of_bits}
use Rattle.float.specs.Number.{◌⊕◌, ◌⊖◌, ◌⊗◌}
use Rattle.float.specs.ProductError.{product_error}
use Rattle.float.specs.Promises.Halves.{least, in_range, high_half, low_half, Halved}
use Rattle.float.proofs.product_error.Bitwise.{dekker_is_fused}
use Rattle.float.proofs.product_error.Range.{ranged}
use Rattle.float.proofs.product_error.error_by_halves.Goals as goal

-- Dekker's sum, with the halves of both operands as variables
summed : Float → Float → Float → Float → Float → Float → Float
summed a g k b h l = (g ⊗ h ⊖ a ⊗ b) ⊕ g ⊗ l ⊕ k ⊗ h ⊕ k ⊗ l

by_halves : (a g k b h l : Float) → g ≡ high_half a → k ≡ low_half a → Halved b h l → T (fits binary64 a) → T (fits binary64 b) → in_range least a ≡ true
    → summed a g k b h l ≡ product_error a b
unfolding summed
by_halves a g k b h l y z e s t p =
    ap₂ (λ i j. summed a i j b h l) y z ∙ ap₂ (summed a (high_half a) (low_half a) b) e.high_is e.low_is
    ∙ dekker_is_fused a b (lit≤ tt) (ranged 199 (lit≤ tt) a s p) (ranged 767 (lit≤ tt) b t e.serve)

pub returns-then-not-in_range-clause-served : goal.returns-then-not-in_range-clause-served
unfolding of_bits
returns-then-not-in_range-clause-served c = sym c.if-not-in_range.true ∙ c.in_range.ensures

pub returns-clause-served : goal.returns-clause-served
unfolding of_bits
returns-clause-served c = sym c.if-not-in_range.false ∙ c.in_range.ensures

pub returns-clause-value : goal.returns-clause-value
unfolding of_bits summed
returns-clause-value c =
    let d = c.dekker_split-high.ensures in
    by_halves c.args.a _ _ c.args.b.whole c.args.b.high c.args.b.low d.0 d.1 c.args.b.halved (search rules) (search rules)
    (sym c.in_range.ensures ∙ c.if-not-in_range.false)
