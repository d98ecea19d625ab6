-- `sheet::angles::put_between` meets its contract. The invariant: the samples that are left, stored now, give what is asked.
use Rattle.std.proofs.Common.{◌+◌, ◌*◌, ◌<◌, ◌≡◌, arith, ap, ◌∙◌, inl, length, get_or, drop, length-drop, drop-drop}
use lib.Ieee.{nan}
use Rattle.std.specs.Slice.Iter.{windows_rest}
use Rattle.sampling.specs.Samples.{between, all_between}
use Rattle.sheet.specs.Promises.Floats.{floats_bytes}
use Rattle.sheet.specs.Laws.Bytes.{sets_all, length_floats_bytes}
use Rattle.sheet.specs.Laws.Sampling.{floats_end}
use Rattle.sheet.proofs.bytes.Same.{put_next}
use Rattle.sheet.proofs.angles.Runs.{length_all_between, length_between, pair_left, no_pair}
use Rattle.sheet.proofs.angles.put_between.Goals as goal

pub loop-i-preserved : goal.loop-i-preserved
loop-i-preserved c = let l = c.loop-i in
    let list = c.args.list.now in
    let s = c.in-Some.ensures.steps in
    let w = s.0 in
    let n = l.i-iterator.count in
    let known = l.invariant.3 in
    let to : 24 * c.next.new.self.count ≡ 24 * n + 24 = omega (arith, s.2) in
    let more : n + 1 < length list = omega (arith, w.1.0, l.invariant.1, ap length known, length-drop n list) in
    let p = c.in-Some.pair.now in
    let e = c.put_list.ensures ∙ ap floats_bytes c.between-three.ensures in
    let h = put_next l.output c.put_list.new.output (floats_bytes (all_between (drop (n + 1) list)))
    (floats_bytes (all_between (drop n list))) (24 * n) (24 * n + 24)
    (omega (arith, ap length e, length_floats_bytes (between (get_or p 0 nan) (get_or p 1 nan)), length_between (get_or p 0 nan) (get_or p 1 nan)))
    (omega (arith, l.invariant.4, c.requires, more))
    (rw e (pair_left list p n more (rw (l.invariant.1, known) at w.1.1))) in
    let others : windows_rest c.next.new.self.iter ≡ drop (n + 1) list = w.1.2 ∙ rw known (drop-drop 1 n list) in (
      (omega (arith, w.0, l.invariant.1), tt, inl (omega (arith, s.2, more, ap length others, length-drop (n + 1) list, c.well_formed))),
      w.0 ∙ l.invariant.1,
      omega (arith, s.2, more),
      rw s.2 others,
      rw s.1 (h.0 ∙ l.invariant.4),
      rw (s.1, to, s.2) (h.1 ∙ l.invariant.5),
    )

pub returns : goal.returns
returns c = let a = c.args in
    let l = c.loop-i in
    let n = l.i-iterator.count in
    floats_end l.output (24 * n) (all_between (drop n a.list.now))
    (no_pair (drop n a.list.now) (omega (arith, c.in-None.ensures.steps.0.1.0, l.invariant.1, ap length l.invariant.3)))
    ∙ l.invariant.5
    ∙ sets_all a.output.now (floats_bytes (all_between a.list.now))
    (omega (arith, length_floats_bytes (all_between a.list.now), length_all_between a.list.now, c.requires))
