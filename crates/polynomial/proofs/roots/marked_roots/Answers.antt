-- `polynomial::roots::marked_roots` meets its contract.
use Rattle.std.proofs.Common.{◌++◌, drop, length, arith, le_refl, refl, sym, ap, ◌∙◌}
use Rattle.polynomial.specs.Laws.Enclosed.{all_most}
use Rattle.polynomial.proofs.kinds.Marks.{marked_as}
use Rattle.polynomial.proofs.roots.Kept.{front_take}
use Rattle.polynomial.proofs.roots.Ways.{fits, none_front, no_kinds, line_front, line_kinds, more_front, more_kinds}
use Rattle.polynomial.proofs.roots.marked_roots.Goals as goal

pub returns-in-0 : goal.returns-in-0
returns-in-0 c =
    let p = c.args.p.terms.now in
    let b = c.args.bounds in
    let e = c.counting-left.ensures in
    record {
      value = none_front p _ b.lower b.upper e (omega arith) c.args.out.now;
      kinds_after = sym (ap (λ l. l ++ c.args.kinds.now) (no_kinds p _ b.lower b.upper e (omega arith)));
    }

pub mark-requires : goal.mark-requires
mark-requires c =
    let p = c.args.p.terms.now in
    let b = c.args.bounds in
    let f = line_front p _ b.lower b.upper c.counting-left.ensures (omega arith) c.in-2.is _ _ _ _ c.line_root-count.ensures in
    let m = all_most b.lower b.upper (length p) p (le_refl (length p)) in
    let e = ap length (front_take _ _ _ _ f) in
    omega arith

pub returns-in-2 : goal.returns-in-2
returns-in-2 c =
    let p = c.args.p.terms.now in
    let b = c.args.bounds in
    let f = line_front p _ b.lower b.upper c.counting-left.ensures (omega arith) c.in-2.is _ _ _ _ c.line_root-count.ensures in
    record {
      value = f;
      kinds_after = marked_as _ _ _ _ _ c.args.kinds.now _ refl (front_take _ _ _ _ f) f.0 c.mark.ensures
          ∙ ap (λ l. l ++ drop c.line_root-count.result c.args.kinds.now)
          (sym (line_kinds p _ b.lower b.upper c.counting-left.ensures (omega arith) c.in-2.is));
    }

pub marked_by_degree-requires : goal.marked_by_degree-requires
marked_by_degree-requires c =
    let p = c.args.p.terms.now in
    let q = c.counting-left.result.terms.now in
    let b = c.args.bounds in
    let e = c.counting-left.ensures in
    (omega arith, fits p q b.lower b.upper e _ c.requires.0, fits p q b.lower b.upper e _ c.requires.1)

pub returns-in_default : goal.returns-in_default
returns-in_default c =
    let p = c.args.p.terms.now in
    let b = c.args.bounds in
    let e = c.counting-left.ensures in
    record {
      value = more_front p _ b.lower b.upper e (omega arith) (omega arith) _ _ _ c.marked_by_degree.ensures.value;
      kinds_after = c.marked_by_degree.ensures.kinds_after
          ∙ ap (λ l. l ++ drop c.marked_by_degree.result c.args.kinds.now) (sym (more_kinds p _ b.lower b.upper e (omega arith) (omega arith)));
    }
