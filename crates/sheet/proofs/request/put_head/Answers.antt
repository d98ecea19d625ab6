-- `sheet::request::put_head` meets its contract. The invariant: what is still to be stored, stored now, gives what is asked.
use Rattle.std.proofs.Common.{◌<◌, ◌≡◌, arith, sym, ◌∙◌, cond, length, length-set, get_or}
use Rattle.sheet.specs.Request.{byte_read}
use Rattle.sheet.proofs.request.Steps.{put_step}
use Rattle.sheet.proofs.request.put_head.Goals as goal
use Rattle.sheet.proofs.request.put_head.Goals.{then-byte_read, else-byte_read}

pub loop-i-preserved : goal.loop-i-preserved
loop-i-preserved c = let r = c.args.view.request.now in
    let s = c.shape-s.result in
    let i = c.loop-i.i in
    let k : i < length r = omega arith in
    let v : c.if-byte_read.b ≡ cond (byte_read s i) (get_or r i 0) 0 =
    elim c.if-byte_read.branch [
      | then-byte_read w ↦ rw (w.b-is, sym c.byte_read.ensures ∙ w.if-byte_read.true)
      | else-byte_read w ↦ rw (w.b-is, sym c.byte_read.ensures ∙ w.if-byte_read.false)
    ] in (
      omega arith,
      simp length-set c.loop-i.invariant.1,
      put_step c.loop-i.out r i c.if-byte_read.b s k v ∙ c.loop-i.invariant.2,
    )

pub returns : goal.returns
returns c = let i : c.loop-i.i ≡ 16 = omega arith in
    rw (i, c.shape-s.ensures) at c.loop-i.invariant.2
