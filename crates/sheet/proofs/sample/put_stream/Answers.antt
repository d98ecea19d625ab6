-- `sheet::sample::put_stream` meets its contract. The invariant: what is still to come, stored now, gives what is asked.
use Rattle.std.proofs.Common.{◌+◌, ◌*◌, ◌≡◌, ap, ◌∙◌, arith, inl, length}
use Rattle.sampling.specs.Promises.Stream.{start}
use Rattle.sampling.specs.Promises.Plan.{to_come}
use Rattle.sheet.specs.Promises.Floats.{floats_bytes}
use Rattle.sheet.specs.Laws.Bytes.{sets_all, length_floats_bytes, floats_bytes_cons}
use Rattle.sheet.specs.Laws.Sampling.{floats_end}
use Rattle.sheet.proofs.bytes.Same.{put_next}
use Rattle.sheet.proofs.angles.Runs.{length_float}
use Rattle.sheet.proofs.sample.put_stream.Goals as goal

pub loop-i-preserved : goal.loop-i-preserved
loop-i-preserved c = let l = c.loop-i in
    let s = c.in-Some.ensures.steps in
    let came = s.0 in
    let n = l.i-iterator.count in
    let k = ap length came in
    let left = l.invariant.3 in
    let at : 8 * c.next.new.self.count ≡ 8 * n + 8 = omega (arith, s.2) in
    let before = l.i-iterator.iter in
    let after = c.next.new.self.iter in
    let others = to_come after.planned.plan after.planned.work.now after.cursor in
    let q = c.copy_from_slice.ensures.after ∙ c.float_bytes.ensures in
    let h = put_next l.output c.copy_from_slice.new.self (floats_bytes others)
    (floats_bytes (to_come before.planned.plan before.planned.work.now before.cursor)) (8 * n) (8 * n + 8)
    (omega (arith, ap length q, length_float c.in-Some.y)) (omega (arith, left, k))
    (rw q (ap floats_bytes came ∙ floats_bytes_cons c.in-Some.y others)) in (
      (tt, tt, inl (omega (arith, s.2, k, left, c.well_formed))),
      tt,
      rw s.1 (h.0 ∙ l.invariant.2),
      rw s.1 (omega (arith, s.2, k, left, h.0)),
      rw (s.1, at) (h.1 ∙ l.invariant.4),
    )

pub returns : goal.returns
returns c = let l = c.loop-i in
    let p = c.args.planned.now in
    floats_end l.output (8 * l.i-iterator.count) _ c.in-None.ensures.steps.0.0 ∙ l.invariant.4
    ∙ sets_all c.args.output.now (floats_bytes (to_come p.plan p.work.now start))
    (omega (arith, length_floats_bytes (to_come p.plan p.work.now start), c.requires))
