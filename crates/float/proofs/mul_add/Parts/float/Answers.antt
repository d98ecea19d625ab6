-- `float::mul_add::Parts::float` meets its contract, by the pattern that `Pattern` has of `units`.
use Rattle.std.proofs.Common.{◌≡◌, ℕ, ◌+◌, ◌*◌, ◌^◌, not, T, sym, ap, ◌∙◌, subst, arith}
use lib.Ieee.{binary64, nan_bits, of_bits}
use Rattle.float.proofs.Pattern.{sign, written, no_nan}
use Rattle.float.proofs.mul_add.Parts.float.Goals as goal
use Rattle.float.proofs.mul_add.Parts.float.Goals.{Joined-self, else-self, then-self}

-- the sign's weight, where the branches meet
sign_is : (c : Joined-self) → c.if-self.sign ≡ sign c.args.self.neg
sign_is c =
    elim c.if-self.branch [ then-self w ↦ w.sign-is ∙ ap sign (sym w.if-self.true) | else-self w ↦ w.sign-is ∙ ap sign (sym w.if-self.false) ]

pub float_from_bits-result : goal.float_from_bits-result
float_from_bits-result c =
    let n = c.args.self.k * 2 ^ 52 + c.args.self.q in
    subst (λ (x : ℕ). T (not (nan_bits binary64 (x + n)))) (sym (sign_is c.before.before.before))
    (no_nan c.args.self.neg n (omega (arith, c.args.self.short, c.args.self.place)))

pub returns : goal.returns
returns c =
    let p = c.args.self in
    ap (λ (x : ℕ). of_bits binary64 (x + (p.k * 2 ^ 52 + p.q))) (sign_is c.before.before.before) ∙ written p.neg p.q p.k p.short p.place p.full
