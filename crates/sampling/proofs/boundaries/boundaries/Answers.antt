-- `sampling::boundaries::boundaries` meets its contract: one list of curves after the other.
use Rattle.std.proofs.Common.{rules, refl}
use lib.Ieee.{of_bits, neg}
use Rattle.sampling.specs.J1j2free.{curves}
use Rattle.sampling.specs.Boundaries.{boundaries, second_curve, second_curves, fourth_curve, fourth_curves, fifth_curve, fifth_curves}
use Rattle.sampling.specs.Boundaries.{sixth_curve, sixth_curves}
use Rattle.sampling.proofs.Curves.{ends, poles}
use Rattle.sampling.proofs.boundaries.boundaries.Goals as goal

pub returns : goal.returns
unfolding curves boundaries second_curves fourth_curves fifth_curves sixth_curves of_bits neg
returns c =
    let t = c.args.t.now in
    let m = t.matrix in
    let k = c.at_ends-2.ensures.items in
    let a = ends _ t.range2 (second_curve t.q3) (second_curves t.q3) refl (λ x y. refl) (λ x y e. search rules) c.at_ends.ensures.items in
    let p = poles _ _ m.z k.0 k.1 (search rules) (search rules) k.4 in
    let b = ends _ t.range4 (fourth_curve m.z) (fourth_curves m.z) refl (λ x y. refl) (λ x y e. search rules) c.at_ends-3.ensures.items in
    let d = ends _ t.range5 (fifth_curve m.z) (fifth_curves m.z) refl (λ x y. refl) (λ x y e. search rules) c.at_ends-4.ensures.items in
    let e = ends _ t.range6 (sixth_curve m) (sixth_curves m) refl (λ x y. refl) (λ x y e. search rules) c.at_ends-5.ensures.items in
    rw (c.corner_curves.ensures.items, e, d, b, p, a, c.new-out.ensures)
