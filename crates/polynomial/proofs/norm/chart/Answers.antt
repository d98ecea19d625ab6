-- `polynomial::norm::chart` meets its contract. The invariant is `Charted`.
use Rattle.float.specs.Laws.Literals.{two_bits}
use Rattle.polynomial.proofs.norm.Charted.{charted_first, charted_room, charted_more, charted_last}
use Rattle.polynomial.proofs.norm.chart.Goals as goal

pub loop-u-init : goal.loop-u-init
loop-u-init c = let a = c.args in charted_first a.origin a.found.now a.out.now a.k c.requires

pub keep-n-requires : goal.keep-n-requires
keep-n-requires c = charted_room c.args.origin c.args.found.now _ _ _ _ _ _ c.loop-u.invariant c.loop-u-test.true

pub loop-u-preserved : goal.loop-u-preserved
loop-u-preserved c =
    charted_more c.args.origin c.args.found.now _ _ _ _ _ _ c.loop-u.invariant _ c.loop-u-test.true _ c.atan.result
    c.wrapped_angle.result _ _ two_bits c.atan.ensures c.wrapped_angle.ensures c.keep-n.ensures.value c.keep-n.ensures.out_after c.keep-n.auto.out

pub returns : goal.returns
returns c = charted_last c.args.origin c.args.found.now _ _ _ _ _ _ c.loop-u.invariant c.loop-u-test.false
