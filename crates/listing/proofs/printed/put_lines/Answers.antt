-- What `chunks_exact` gives is the first item that is left.
use Rattle.std.proofs.Common.{◌≡◌, ◌+◌, ◌≤◌, ◌*◌, arith, ap, length, length-append, ◌∙◌, take}
use Rattle.sheet.specs.Bytes.{little_endian}
use Rattle.listing.proofs.Lines.{line, lines_turn, lines_done}
use Rattle.listing.proofs.printed.put_lines.Goals as goal

pub loop-i-preserved : goal.loop-i-preserved
loop-i-preserved c =
    let was = c.loop-i.i-iterator in
    let inv = c.loop-i.invariant in
    let s = c.in-Some.ensures.steps in
    let this = c.in-Some.item.now in
    let rest = c.next.new.self.iter.rest.now in
    let eight : length this ≡ 8 = s.0.1.1 ∙ inv.size in
    let more = simp length-append at (ap length s.0.1.0) in
    let w : c.put_line.new.line ≡ line (little_endian (take 8 this)) = rw c.word.ensures at c.put_line.ensures in
    let room : 17 * (was.count + 1) ≤ length c.loop-i.text = omega (arith, c.loop-i.auto.text) in
    record {
      size = s.0.0 ∙ inv.size;
      left = omega arith;
      stands = rw (s.2, s.1) (lines_turn c.loop-i.text was.iter.rest.now this rest c.put_line.new.line was.count room s.0.1.0 eight w ∙ inv.stands);
    }

pub returns : goal.returns
returns c =
    let was = c.loop-i.i-iterator in
    let inv = c.loop-i.invariant in
    lines_done c.loop-i.text was.iter.rest.now _ was.count _ (c.loop-i.auto.text ∙ c.requires) inv.left (omega (arith, c.in-None.ensures.steps)) inv.stands
