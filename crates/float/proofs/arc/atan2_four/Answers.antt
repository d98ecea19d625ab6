-- `float::arc::atan2_four` meets its contract, number by number.
use Rattle.std.proofs.Common.{◌≡◌, ◌<◌, get_or, length, sym, ap, ◌∙◌, rules, arith}
use lib.Ieee.{nan}
use Rattle.float.specs.Number.{◌⊘◌}
use Rattle.float.specs.Trig.{atan, atan2}
use Rattle.float.specs.Promises.Beside.{placed}
use Rattle.float.proofs.arc.Sides.{beside_is, placed_is, get_map, made}
use Rattle.float.proofs.arc.atan2_four.Goals as goal

pub returns : goal.returns
returns c =
    let y = c.args.y in
    let x = c.args.x in
    let z = c.from_fn-slopes.result in
    let y_four : length y ≡ 4 = search rules in
    let x_four : length x ≡ 4 = search rules in
    let long = c.from_fn.ensures.items.long in
    beside_is nan atan2 y x c.from_fn.result (y_four ∙ sym long) (x_four ∙ sym long) (λ i l.
    let h : i < 4 = omega (arith, long) in
    let a : get_or z i nan ≡ get_or y i nan ⊘ get_or x i nan =
    made _ (λ j. get_or y j nan ⊘ get_or x j nan) _ (λ j y q k. search rules) _ nan 4 0 c.from_fn-slopes.ensures.items.each i (omega arith) h in
    let b : get_or c.from_fn.result i nan ≡ placed (get_or y i nan) (get_or x i nan) (get_or c.atan_four-v.result i nan) =
    made _ (λ j. placed (get_or y j nan) (get_or x j nan) (get_or c.atan_four-v.result j nan)) _ (λ j y q k. search rules) _ nan 4 0
    c.from_fn.ensures.items.each i (omega arith) h in
    b
    ∙ ap (λ v. placed (get_or y i nan) (get_or x i nan) (get_or v i nan)) c.atan_four-v.ensures
    ∙ ap (λ v. placed (get_or y i nan) (get_or x i nan) v) (get_map nan atan z i (omega (arith, c.from_fn-slopes.ensures.items.long)) ∙ ap atan a)
    ∙ placed_is (get_or y i nan) (get_or x i nan))
