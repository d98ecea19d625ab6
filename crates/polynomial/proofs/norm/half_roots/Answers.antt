-- `polynomial::norm::half_roots` meets its contract.
use Rattle.std.proofs.Common.{◌≡◌, lit≤, length, arith, ◌∙◌, ap, sym, subst, take, length-take}
use lib.Ieee.{neg}
use Rattle.float.specs.Promises.Order.{Span}
use Rattle.float.specs.Laws.Literals.{one_bits}
use Rattle.polynomial.specs.Promises.Norm.{put_all}
use Rattle.polynomial.specs.Laws.Nine.{length_norm}
use Rattle.polynomial.specs.Laws.InnerCalls.{one_span}
use Rattle.polynomial.proofs.roots.Kept.{front_same}
use Rattle.polynomial.proofs.norm.Sides.{half_angles, half_count}
use Rattle.polynomial.proofs.norm.half_roots.Goals as goal

pub invariant_of-bounds : goal.invariant_of-bounds
invariant_of-bounds c = record { span = subst (λ one. Span 2 (neg one) one) (sym one_bits) one_span }

pub chart-requires : goal.chart-requires
chart-requires c =
    let a = c.args in
    let f = half_count a.x a.y a.norm a.half.start a.half.end c.middle-origin.result _ _ _ _ _ c.middle-origin.ensures
    (c.as_slice.ensures.value ∙ c.norm_polynomial-list.ensures) one_bits c.roots-n.ensures in
    let t = length-take c.roots-n.result c.roots-n.new.out in
    omega arith

pub returns : goal.returns
returns c =
    let a = c.args in
    let e = half_angles a.x a.y a.norm a.half.start a.half.end c.middle-origin.result _ _ _ _ _ c.middle-origin.ensures
    (c.as_slice.ensures.value ∙ c.norm_polynomial-list.ensures) one_bits c.roots-n.ensures in
    front_same _ _ _ _ c.chart.ensures _ (ap (λ l. put_all l (take a.k a.out.now)) (sym e))

pub roots-n-requires : goal.roots-n-requires
roots-n-requires c =
    let a = c.args in
    let e : length c.as_slice.result.now ≡ 5 =
    ap length (c.as_slice.ensures.value ∙ c.norm_polynomial-list.ensures) ∙ length_norm a.x a.y a.norm c.middle-origin.result in
    rw e (lit≤ tt)
