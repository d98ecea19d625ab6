-- `float::arc::atan_four` meets its contract, number by number.
use Rattle.std.proofs.Common.{◌≡◌, ◌<◌, get_or, length, ap, ◌∙◌, rules, arith}
use lib.Ieee.{nan}
use Rattle.float.specs.Trig.{atan, atan_start, atan_value, half_angle}
use Rattle.float.specs.Promises.Beside.{restored}
use Rattle.float.proofs.arc.Sides.{each_is, made}
use Rattle.float.proofs.arc.atan_four.Goals as goal

pub returns : goal.returns
unfolding atan restored
returns c =
    let x = c.args.x in
    let four : length x ≡ 4 = search rules in
    each_is nan atan x c.from_fn.result (c.from_fn.ensures.items.long ∙ search rules) (λ i l.
    let h : i < 4 = omega (arith, four) in
    let a : get_or c.from_fn-a.result i nan ≡ atan_start (get_or x i nan) =
    made _ (λ j. atan_start (get_or x j nan)) _ (λ j y q k. search rules) _ nan 4 0 c.from_fn-a.ensures.items.each i (omega arith) h in
    let b : get_or c.from_fn-b.result i nan ≡ half_angle (get_or c.from_fn-a.result i nan) =
    made _ (λ j. half_angle (get_or c.from_fn-a.result j nan)) _ (λ j y q k. search rules) _ nan 4 0 c.from_fn-b.ensures.items.each i (omega arith) h in
    let d : get_or c.from_fn-c.result i nan ≡ half_angle (get_or c.from_fn-b.result i nan) =
    made _ (λ j. half_angle (get_or c.from_fn-b.result j nan)) _ (λ j y q k. search rules) _ nan 4 0 c.from_fn-c.ensures.items.each i (omega arith) h in
    let e : get_or c.from_fn.result i nan ≡ restored (get_or x i nan) (atan_value (get_or c.from_fn-c.result i nan)) =
    made _ (λ j. restored (get_or x j nan) (atan_value (get_or c.from_fn-c.result j nan))) _ (λ j y q k. search rules) _ nan 4 0
    c.from_fn.ensures.items.each i (omega arith) h in
    e ∙ ap (λ v. restored (get_or x i nan) (atan_value v)) (d ∙ ap half_angle (b ∙ ap half_angle a)))
