-- `polynomial::plain::Tested::roughly` meets its contract. The invariant: the interval can be bisected,
-- and its result is that of the first. The measure is the units between its ends.
use Rattle.std.proofs.Common.{sym, subst, ◌∙◌}
use Rattle.polynomial.specs.Polynomial.{evaluate}
use Rattle.polynomial.specs.Promises.Inside.{Leaves, Rest}
use Rattle.polynomial.proofs.bisection.Steps.{one_by_sign}
use Rattle.polynomial.proofs.plain.Tested.roughly.Goals as goal

pub returns-in_err-lo : goal.returns-in_err-lo
returns-in_err-lo c =
    let t = c.in-Some.ensures in
    let s = c.loop-sign.invariant.span in
    let r = subst (Leaves _ _ _ _) c.in_err-lo.was
    (one_by_sign _ _ _ _ s _ c.middle-m.ensures _ t.0 t.1 _ c.narrowed_once.ensures) in
    subst (Rest _ _ _ _) (sym c.from_residual.ensures) (r ∙ c.loop-sign.invariant.same)

pub loop-sign-smaller : goal.loop-sign-smaller
loop-sign-smaller c =
    let t = c.in-Some.ensures in
    (subst (Leaves (evaluate c.args.self.p.terms.now) c.args.positive _ _) c.in_ok-lo.was
    (one_by_sign _ _ _ _ c.loop-sign.invariant.span _ c.middle-m.ensures _ t.0 t.1 _ c.narrowed_once.ensures)).0

pub loop-sign-preserved : goal.loop-sign-preserved
loop-sign-preserved c =
    let t = c.in-Some.ensures in
    let r = subst (Leaves _ _ _ _) c.in_ok-lo.was
    (one_by_sign _ _ _ _ c.loop-sign.invariant.span _ c.middle-m.ensures _ t.0 t.1 _ c.narrowed_once.ensures) in
    record { span = r.1; same = r.2 ∙ c.loop-sign.invariant.same }
