-- What `chunks_exact` gives is the first angle that is left.
use Rattle.std.proofs.Common.{◌≡◌, ◌+◌, ◌≤◌, ◌*◌, arith, ap, length, length-append, ◌∙◌, take}
use Rattle.sheet.specs.Bytes.{little_endian}
use Rattle.page.specs.Page.{line}
use Rattle.page.proofs.Stores.{lines_turn, lines_done}
use Rattle.page.proofs.lines.put_lines.Goals as goal

pub loop-i-preserved : goal.loop-i-preserved
loop-i-preserved c =
    let was = c.loop-i.i-iterator in
    let inv = c.loop-i.invariant in
    let s = c.in-Some.ensures.steps in
    let angle = c.in-Some.angle.now in
    let rest = c.next.new.self.iter.rest.now in
    let eight : length angle ≡ 8 = s.0.1.1 ∙ inv.size in
    let more = simp length-append at (ap length s.0.1.0) in
    let w : c.put_line.new.line ≡ line (c.args.place + was.count) (little_endian (take 8 angle)) =
    c.put_line.ensures ∙ rw (s.1, c.word.ensures) in
    let room : 65 * (was.count + 1) ≤ length c.loop-i.out = omega (arith, c.loop-i.auto.out) in
    record {
      size = s.0.0 ∙ inv.size;
      left = omega arith;
      stands = rw (s.2, s.1) (lines_turn c.loop-i.out was.iter.rest.now angle rest c.put_line.new.line c.args.place was.count
          room s.0.1.0 eight w ∙ inv.stands);
    }

pub returns : goal.returns
returns c =
    let was = c.loop-i.i-iterator in
    let inv = c.loop-i.invariant in
    lines_done c.loop-i.out was.iter.rest.now _ c.args.place was.count _
    (c.loop-i.auto.out ∙ c.requires.0) inv.left (omega (arith, c.in-None.ensures.steps)) inv.stands
