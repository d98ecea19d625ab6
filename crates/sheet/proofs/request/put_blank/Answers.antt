-- The head, the fields and the name are the whole request.
use Rattle.std.proofs.Common.{◌≡◌, arith, sym, ap, ◌∙◌, length, take, take_all, drop, length-drop}
use Rattle.std.proofs.lemmas.List.Edits.{sets}
use Rattle.sheet.specs.Request.{blank_from, shape_of}
use Rattle.sheet.specs.Laws.Bytes.{sets_all}
use Rattle.sheet.specs.Laws.Blank.{length_blank}
use Rattle.sheet.proofs.bytes.Same.{put_range}
use Rattle.sheet.proofs.request.Steps.{name_kept}
use Rattle.sheet.proofs.request.put_blank.Goals as goal

pub returns : goal.returns
returns c = let v = c.args.view in
    let r = v.request.now in
    let s = shape_of r in
    let out = c.put_fields.new.out in
    let n : length out ≡ length r = omega (arith, c.put_fields.auto.out, c.put_head.auto.out, c.requires.0) in
    let whole : take 32 (drop 264 r) ≡ drop 264 r = take_all 32 (drop 264 r) (omega (arith, length-drop 264 r, c.requires.1)) in
    let q : c.copy_from_slice.new.self ≡ drop 264 r = c.copy_from_slice.ensures.after ∙ c.bytes_at-name.ensures ∙ whole in
    let kept = name_kept s r (drop 264 r) 264 (omega arith) in
    put_range out 264 (length out) c.copy_from_slice.new.self (omega (arith, ap length q, length-drop 264 r, n, v.whole)) (omega arith)
    ∙ ap (sets out 264) (q ∙ sym kept)
    ∙ c.put_fields.ensures ∙ c.put_head.ensures
    ∙ sets_all c.args.out.now (blank_from s 0 r) (omega (arith, length_blank s 0 r, c.requires.0))
