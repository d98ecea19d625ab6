-- `polynomial::curve::norm_target` meets its contract. The invariant: what is multiplied so far, and then what is left, multiplied.
use Rattle.std.proofs.Common.{ap, ◌∙◌, length}
use Rattle.polynomial.proofs.curve.Squares.{target_start}
use Rattle.polynomial.proofs.curve.norm_target.Goals as goal

pub loop-c-init : goal.loop-c-init
loop-c-init c = record {
  long = ap length c.new-r.ensures;
  whole = target_start c.args.norm _ _ _ _ _ _ c.from-n.ensures c.mul-squared.ensures c.from-one.ensures c.from.ensures
      (c.as_slice-c-items.ensures.value ∙ c.multiply.ensures) c.new-r.ensures;
}
