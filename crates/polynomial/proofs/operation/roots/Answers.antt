-- `polynomial::operation::roots` meets its contract: what the tests say, then that the finder's list has room.
use Rattle.std.proofs.Common.{rules, refl, sym, ◌∙◌}
use Rattle.polynomial.specs.Laws.Bounds.{bounds_span}
use Rattle.polynomial.proofs.operation.Parts.{parts_hold_is}
use Rattle.polynomial.proofs.operation.Answers.{odd_length, too_long, bad_bounds, bad_part, fitting}
use Rattle.polynomial.proofs.operation.roots.Goals as goal

pub returns-then-len-eq1-clause-value : goal.returns-then-len-eq1-clause-value
returns-then-len-eq1-clause-value c = odd_length _ _ _ _ _ c.if-len-eq1.true

pub returns-then-len-gt18-clause-value : goal.returns-then-len-gt18-clause-value
returns-then-len-gt18-clause-value c = too_long _ _ _ _ _ c.if-len-eq1.false c.if-len-gt18.true

pub returns-then-not-bounds_hold-clause-value : goal.returns-then-not-bounds_hold-clause-value
returns-then-not-bounds_hold-clause-value c =
    bad_bounds _ _ _ _ _ c.if-len-eq1.false c.if-len-gt18.false (sym c.bounds_hold.ensures ∙ c.if-not-bounds_hold.true)

pub returns-then-not-parts_hold-clause-value : goal.returns-then-not-parts_hold-clause-value
returns-then-not-parts_hold-clause-value c =
    bad_part _ _ _ _ _ c.if-len-eq1.false c.if-len-gt18.false (sym c.bounds_hold.ensures ∙ c.if-not-bounds_hold.false)
    (sym (parts_hold_is c.args.coefficients.now) ∙ sym c.parts_hold.ensures ∙ c.if-not-parts_hold.true)

pub invariant_of-roots_of : goal.invariant_of-roots_of
invariant_of-roots_of c = record {
  span = bounds_span c.args.lower c.args.upper (search rules) (search rules) (sym c.bounds_hold.ensures ∙ c.if-not-bounds_hold.false);
}

pub returns-clause-value : goal.returns-clause-value
returns-clause-value c =
    let a = c.args in
    let b = sym c.bounds_hold.ensures ∙ c.if-not-bounds_hold.false in
    let h = sym (parts_hold_is a.coefficients.now) ∙ sym c.parts_hold.ensures ∙ c.if-not-parts_hold.false in
    c.roots_of.ensures.value ∙ fitting a.coefficients.now a.lower a.upper _ _ c.if-len-eq1.false c.if-len-gt18.false b h _ refl
