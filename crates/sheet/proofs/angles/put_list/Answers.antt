-- `sheet::angles::put_list` meets its contract. The invariant: the floats that are left, stored now, give what is asked.
use Rattle.std.proofs.Common.{◌+◌, ◌*◌, ◌≡◌, arith, ap, ◌∙◌, length, get_or, drop, drop_of_length-le}
use lib.Ieee.{nan}
use Rattle.sheet.specs.Promises.Floats.{floats_bytes}
use Rattle.sheet.specs.Laws.Bytes.{sets_all, length_floats_bytes}
use Rattle.sheet.specs.Laws.Sampling.{floats_end}
use Rattle.sheet.proofs.bytes.Same.{put_next}
use Rattle.sheet.proofs.angles.Runs.{length_float, floats_left}
use Rattle.sheet.proofs.angles.put_list.Goals as goal

pub loop-i-preserved : goal.loop-i-preserved
loop-i-preserved c = let l = c.loop-i in
    let list = c.args.list.now in
    let to : 8 * (l.i + 1) ≡ 8 * l.i + 8 = omega arith in
    let x = get_or list l.i nan in
    let q = c.copy_from_slice.ensures.after ∙ c.float_bytes.ensures in
    let h = put_next l.output c.copy_from_slice.new.self (floats_bytes (drop (l.i + 1) list)) (floats_bytes (drop l.i list)) (8 * l.i) (8 * l.i + 8)
    (omega (arith, ap length q, length_float x)) (omega (arith, l.invariant.1, c.requires, c.loop-i-test.true))
    (rw q (floats_left list l.i c.loop-i-test.true)) in
    (omega arith, h.0 ∙ l.invariant.1, rw to h.1 ∙ l.invariant.2)

pub returns : goal.returns
returns c = let a = c.args in
    floats_end c.loop-i.output (8 * c.loop-i.i) (drop c.loop-i.i a.list.now) (drop_of_length-le a.list.now c.loop-i-test.false)
    ∙ c.loop-i.invariant.2 ∙ sets_all a.output.now (floats_bytes a.list.now) (omega (arith, length_floats_bytes a.list.now, c.requires))
