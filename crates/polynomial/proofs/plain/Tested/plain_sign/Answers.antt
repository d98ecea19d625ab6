-- `polynomial::plain::Tested::plain_sign` meets its contract. The loop's invariant: value and scale are those of the coefficients seen so far.
use Rattle.std.proofs.Common.{rules}
use Rattle.polynomial.proofs.Down.{down_end}
use Rattle.polynomial.proofs.plain.Sure.{tells}
use Rattle.polynomial.proofs.plain.Tested.plain_sign.Goals as goal

pub returns : goal.returns
returns c =
    let d = down_end c.loop-c.invariant c.in-None.ensures.steps.0 in
    let s = c.args.self in
    tells s.p.terms.now c.args.x s.p.few (s.told c.if-not-self.false) (search rules) _ _ _ c.abs-size.ensures d.0 d.1 _ c.sign_of.ensures
