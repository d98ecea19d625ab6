-- `float::mul_add::mul_add` meets its contract: an operand that is not finite, or is a zero factor, by `Special`, and the two ways of the rest by `Fuse`.
use Rattle.std.proofs.Common.{rules}
use Rattle.float.proofs.mul_add.Special.{at_first, at_second, at_third, some_digits, first_zero, second_zero}
use Rattle.float.proofs.mul_add.Fuse.{high_orders, low_orders}
use Rattle.float.proofs.mul_add.mul_add.Goals as goal

pub returns-then-not-is_finite : goal.returns-then-not-is_finite
returns-then-not-is_finite c = at_first c.args.a c.args.b c.args.c (search rules)

pub returns-then-not-is_finite-2 : goal.returns-then-not-is_finite-2
returns-then-not-is_finite-2 c = at_second c.args.a c.args.b c.args.c (search rules) (search rules)

pub returns-then-not-is_finite-3 : goal.returns-then-not-is_finite-3
returns-then-not-is_finite-3 c = at_third c.args.a c.args.b c.args.c (search rules) (search rules) (search rules)

pub returns-then-a : goal.returns-then-a
returns-then-a c = first_zero c.args.a c.args.b c.args.c (search rules) (search rules) (search rules) c.if-a.true

pub returns-then-b : goal.returns-then-b
returns-then-b c = second_zero c.args.a c.args.b c.args.c (search rules) (search rules) (search rules) c.if-b.true

pub combine-requires : goal.combine-requires
combine-requires c =
    let g = high_orders c.args.a c.args.b c.args.c _ _ _ _ _ _ _ _ _ c.split-pa.ensures c.split-pb.ensures c.split-pc.ensures
    (some_digits _ _ _ _ c.split-pa.ensures c.if-a.false) (some_digits _ _ _ _ c.split-pb.ensures c.if-b.false)
    c.from.result c.from-2.result c.from-h.result c.from.ensures c.from-2.ensures c.from-h.ensures c.jam.result c.if-fc-fp.true c.jam.ensures in
    (g.some, g.room)

pub returns-then-fc-fp : goal.returns-then-fc-fp
returns-then-fc-fp c =
    let g = high_orders c.args.a c.args.b c.args.c _ _ _ _ _ _ _ _ _ c.split-pa.ensures c.split-pb.ensures c.split-pc.ensures
    (some_digits _ _ _ _ c.split-pa.ensures c.if-a.false) (some_digits _ _ _ _ c.split-pb.ensures c.if-b.false)
    c.from.result c.from-2.result c.from-h.result c.from.ensures c.from-2.ensures c.from-h.ensures c.jam.result c.if-fc-fp.true c.jam.ensures in
    g.ends c.combine.result c.combine.ensures

pub combine-requires-else-fc-fp : goal.combine-requires-else-fc-fp
combine-requires-else-fc-fp c =
    let g = low_orders c.args.a c.args.b c.args.c _ _ _ _ _ _ _ _ _ c.split-pa.ensures c.split-pb.ensures c.split-pc.ensures
    (some_digits _ _ _ _ c.split-pa.ensures c.if-a.false) (some_digits _ _ _ _ c.split-pb.ensures c.if-b.false)
    c.from.result c.from-2.result c.from-h.result c.from.ensures c.from-2.ensures c.from-h.ensures c.jam-else-fc-fp.result
    c.if-fc-fp.false c.jam-else-fc-fp.ensures in
    (g.some, g.room)

pub returns-else-fc-fp : goal.returns-else-fc-fp
returns-else-fc-fp c =
    let g = low_orders c.args.a c.args.b c.args.c _ _ _ _ _ _ _ _ _ c.split-pa.ensures c.split-pb.ensures c.split-pc.ensures
    (some_digits _ _ _ _ c.split-pa.ensures c.if-a.false) (some_digits _ _ _ _ c.split-pb.ensures c.if-b.false)
    c.from.result c.from-2.result c.from-h.result c.from.ensures c.from-2.ensures c.from-h.ensures c.jam-else-fc-fp.result
    c.if-fc-fp.false c.jam-else-fc-fp.ensures in
    g.ends c.combine-else-fc-fp.result c.combine-else-fc-fp.ensures
