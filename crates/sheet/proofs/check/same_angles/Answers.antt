-- `sheet::check::same_angles` meets its contract. The invariant: the bytes and the angles that are left decide.
use Rattle.std.proofs.Common.{◌≤◌, sym, ◌∙◌, arith, length}
use Rattle.sheet.proofs.bytes.Same.{number_part}
use Rattle.sheet.proofs.check.Floats.{float_short, float_step, float_stop, float_end, drop_bytes}
use Rattle.sheet.proofs.check.same_angles.Goals as goal

pub returns-in_default : goal.returns-in_default
returns-in_default c = let l = c.loop-y in
    float_short l.left.now c.in-Some.y _ _ c.in-Some.ensures.steps c.in_default.ensures.cases ∙ l.invariant.3

pub returns-then-from_le_bytes-bits : goal.returns-then-from_le_bytes-bits
returns-then-from_le_bytes-bits c = let l = c.loop-y in
    let p = c.in-Some-split_first_chunk in
    let h : 8 ≤ length l.left.now = omega (arith, p.ensures.cases.2) in
    let n = c.from_le_bytes.ensures ∙ number_part 7 l.left.now 0 p.bytes.now h p.ensures.cases.0 in
    float_stop l.left.now c.in-Some.y _ _ c.in-Some.ensures.steps h l.invariant.2
    (omega (arith, c.bits.ensures, c.bits.type_inv)) _ n (λ q. c.if-from_le_bytes-bits.true (q ∙ sym c.bits.ensures))
    ∙ l.invariant.3

pub loop-y-preserved : goal.loop-y-preserved
loop-y-preserved c = let l = c.loop-y in
    let p = c.in-Some-split_first_chunk in
    let h : 8 ≤ length l.left.now = omega (arith, p.ensures.cases.2) in
    let n = c.from_le_bytes.ensures ∙ number_part 7 l.left.now 0 p.bytes.now h p.ensures.cases.0 in (
      tt,
      tt,
      rw p.ensures.cases.1 (drop_bytes l.left.now l.invariant.2),
      rw p.ensures.cases.1
          (float_step l.left.now c.in-Some.y _ _ c.in-Some.ensures.steps h l.invariant.2
          (omega (arith, c.bits.ensures, c.bits.type_inv)) _ n (c.if-from_le_bytes-bits.false ∙ c.bits.ensures)
          ∙ l.invariant.3),
    )

pub returns : goal.returns
returns c = let l = c.loop-y in
    c.is_empty.ensures ∙ float_end l.left.now _ c.in-None.ensures.steps.0 ∙ l.invariant.3
