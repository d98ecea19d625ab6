-- `polynomial::roots`' `curve_roots` and `roots`, which call each other, meet their contracts.
use Rattle.std.proofs.Common.{◌^◌, ◌≤◌, length, arith, ◌∙◌}
use lib.Pow.{pow_mono}
use Rattle.polynomial.proofs.roots.Cycle.{shorter, inner_room, of_derivative, bound_room, second_room, bounded, scannable, some, twice}
use Rattle.polynomial.proofs.roots.Cycle.{near_front, found_front}
use Rattle.polynomial.proofs.roots.Ways.{no_longer, fits, none_front, line_front, more_front}
use Rattle.polynomial.proofs.roots.+derivatives.Goals as goal

-- ---- curve_roots

pub curve_roots-roots-k-requires : goal.curve_roots-roots-k-requires
curve_roots-roots-k-requires t c =
    let p = c.args.p.terms.now in
    let b = c.args.bounds in
    let e = c.as_slice.ensures.value ∙ c.derivative-derivative.ensures in (
      shorter p b.lower b.upper c.requires.0 _ e t c.decreases,
      inner_room p b.lower b.upper c.requires.0 _ e _ c.requires.1,
    )

pub curve_roots-keep-with_lower-requires : goal.curve_roots-keep-with_lower-requires
curve_roots-keep-with_lower-requires t c =
    let p = c.args.p.terms.now in
    let b = c.args.bounds in
    let e = c.as_slice.ensures.value ∙ c.derivative-derivative.ensures in
    let f = of_derivative p b.lower b.upper c.requires.0 _ e _ _ _ c.roots-k.ensures in
    let r = bound_room p b.lower b.upper c.requires.0 _ _ c.requires.1 f.0 in
    let l = c.roots-k.auto.out in
    omega arith

pub curve_roots-keep-count-requires : goal.curve_roots-keep-count-requires
curve_roots-keep-count-requires t c =
    let p = c.args.p.terms.now in
    let b = c.args.bounds in
    let e = c.as_slice.ensures.value ∙ c.derivative-derivative.ensures in
    second_room p b.lower b.upper c.requires.0 b.span c.args.points.now _ _ c.keep-with_lower.new.out _ _ 0
    (of_derivative p b.lower b.upper c.requires.0 _ e _ _ _ c.roots-k.ensures)
    (c.keep-with_lower.ensures.value, c.keep-with_lower.ensures.out_after) c.requires.1 c.roots-k.auto.out c.keep-with_lower.auto.out

pub curve_roots-scan-requires : goal.curve_roots-scan-requires
curve_roots-scan-requires t c =
    let p = c.args.p.terms.now in
    let b = c.args.bounds in
    let N = c.requires.0 in
    let e = c.as_slice.ensures.value ∙ c.derivative-derivative.ensures in
    let f = bounded p b.lower b.upper N b.span c.args.points.now _ _ c.keep-count.new.out _ _ _
    (of_derivative p b.lower b.upper N _ e _ _ _ c.roots-k.ensures)
    (c.keep-with_lower.ensures.value, c.keep-with_lower.ensures.out_after) c.requires.1 c.roots-k.auto.out c.keep-with_lower.auto.out
    (c.keep-count.ensures.value, c.keep-count.ensures.out_after) c.keep-count.auto.out in (
      some p b.lower b.upper N b.span _ _ _ f,
      twice p b.lower b.upper N b.span _ _ _ f _ c.requires.2,
      scannable p b.lower b.upper N b.span _ _ _ f,
    )

pub curve_roots-returns : goal.curve_roots-returns
curve_roots-returns t c =
    let p = c.args.p.terms.now in
    let b = c.args.bounds in
    let N = c.requires.0 in
    let e = c.as_slice.ensures.value ∙ c.derivative-derivative.ensures in
    let f = bounded p b.lower b.upper N b.span c.args.points.now _ _ c.keep-count.new.out _ _ _
    (of_derivative p b.lower b.upper N _ e _ _ _ c.roots-k.ensures)
    (c.keep-with_lower.ensures.value, c.keep-with_lower.ensures.out_after) c.requires.1 c.roots-k.auto.out c.keep-with_lower.auto.out
    (c.keep-count.ensures.value, c.keep-count.ensures.out_after) c.keep-count.auto.out in
    record {
      near = near_front p b.lower b.upper N b.span _ _ _ f _ _ c.scan.ensures.near.0 c.scan.ensures.near.1 c.scan.auto.points c.requires.1;
      roots = found_front p b.lower b.upper N b.span _ _ _ f _ _ _ c.scan.ensures.roots;
    }

-- ---- roots

pub roots-returns-in-0 : goal.roots-returns-in-0
roots-returns-in-0 t c =
    let b = c.args.bounds in
    none_front c.args.p.terms.now _ b.lower b.upper c.counting-left.ensures (omega arith) c.args.out.now

pub roots-returns-in-2 : goal.roots-returns-in-2
roots-returns-in-2 t c =
    let b = c.args.bounds in
    line_front c.args.p.terms.now _ b.lower b.upper c.counting-left.ensures (omega arith) c.in-2.is _ _ _ _ c.line_root.ensures

pub roots-curve_roots-requires : goal.roots-curve_roots-requires
roots-curve_roots-requires t c =
    let p = c.args.p.terms.now in
    let q = c.counting-left.result.terms.now in
    let b = c.args.bounds in
    let l = no_longer p q b.lower b.upper c.counting-left.ensures in
    let w : 2 ^ length q ≤ 2 ^ 5 = pow_mono {i = length q} {j = 5} (omega arith) in
    (omega arith, (omega arith, omega arith, fits p q b.lower b.upper c.counting-left.ensures _ c.requires))

pub roots-returns-in-3-to-5 : goal.roots-returns-in-3-to-5
roots-returns-in-3-to-5 t c =
    let b = c.args.bounds in
    more_front c.args.p.terms.now _ b.lower b.upper c.counting-left.ensures (omega arith) (omega arith) _ _ _ c.curve_roots.ensures.roots

pub roots-curve_roots-requires-in_default : goal.roots-curve_roots-requires-in_default
roots-curve_roots-requires-in_default t c =
    let p = c.args.p.terms.now in
    let q = c.counting-left.result.terms.now in
    let b = c.args.bounds in
    let l = no_longer p q b.lower b.upper c.counting-left.ensures in
    let w : 2 ^ length q ≤ 2 ^ 9 = pow_mono {i = length q} {j = 9} (omega arith) in
    (omega arith, (omega arith, omega arith, fits p q b.lower b.upper c.counting-left.ensures _ c.requires))

pub roots-returns-in_default : goal.roots-returns-in_default
roots-returns-in_default t c =
    let b = c.args.bounds in
    more_front c.args.p.terms.now _ b.lower b.upper c.counting-left.ensures (omega arith) (omega arith) _ _ _ c.curve_roots-in_default.ensures.roots
