-- `sheet::request::put_fields` meets its contract. The invariant: what is still to be stored, stored now, gives what is asked.
use Rattle.std.proofs.Common.{◌+◌, ◌≤◌, ◌≡◌, arith, refl, ap, ◌∙◌, sym, cond, length, drop}
use Rattle.sheet.specs.Bytes.{bytes, part}
use Rattle.sheet.specs.Request.{blank_from, byte_read}
use Rattle.sheet.proofs.bytes.Same.{put_next}
use Rattle.sheet.proofs.request.Steps.{field_left}
use Rattle.sheet.proofs.request.put_fields.Goals as goal
use Rattle.sheet.proofs.request.put_fields.Goals.{then-byte_read, else-byte_read}

pub loop-i-preserved : goal.loop-i-preserved
unfolding bytes
loop-i-preserved c = let r = c.args.view.request.now in
    let s = c.shape-s.result in
    let i = c.loop-i.i in
    let room : i + 8 ≤ length r = omega (arith, c.args.view.whole) in
    let v : c.if-byte_read.field ≡ cond (byte_read s i) (part i 8 r) (bytes 8 0) =
    elim c.if-byte_read.branch [
      | then-byte_read w ↦ rw (w.field-is, sym c.byte_read.ensures ∙ w.if-byte_read.true) w.bytes_at-field.ensures
      | else-byte_read w ↦ rw (w.field-is, sym c.byte_read.ensures ∙ w.if-byte_read.false)
    ] in
    let q = c.copy_from_slice.ensures.after ∙ v in
    let left = field_left s r i c.loop-i.invariant.0 c.loop-i.invariant.2 room (byte_read s i) refl in
    let h = put_next c.loop-i.out c.copy_from_slice.new.self (blank_from s (i + 8) (drop (i + 8) r)) (blank_from s i (drop i r)) i (i + 8)
    (omega (arith, ap length q, left.1)) (omega (arith, room)) (rw q left.0) in
    (omega arith, omega arith, omega arith, h.0 ∙ c.loop-i.invariant.3, h.1 ∙ c.loop-i.invariant.4)

pub returns : goal.returns
returns c = let i : c.loop-i.i ≡ 264 = omega arith in
    rw (i, c.shape-s.ensures) at c.loop-i.invariant.4
