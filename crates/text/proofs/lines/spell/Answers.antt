use Rattle.std.proofs.Common.{ℕ, suc, ◌≡◌, ◌<◌, ◌+◌, ◌*◌, ◌-◌, ◌/◌, ◌%◌, List, ap, arith, length, set, sym, ◌∙◌}
use Rattle.std.proofs.lemmas.List.Edits.{sets}
use Rattle.digits.specs.Hex.{value}
use Rattle.text.specs.Lines.{bytes}
use Rattle.text.proofs.lines.spell.Goals as goal

-- a turn stores the first byte of those that are left
step : (out s : List ℕ) (at n i v : ℕ) → i < n → v ≡ value s (at + 17 * (i / 8) + 2 * (i % 8)) 2
    → sets (set out i v) (i + 1) (bytes s at (i + 1) (n - (i + 1))) ≡ sets out i (bytes s at i (n - i))
unfolding bytes
step out s at n i v h w =
    let e : n - i ≡ suc (n - (i + 1)) = omega arith in
    let f : i + 1 ≡ suc i = omega arith in
    rw (e, f, w)

pub loop-i-preserved : goal.loop-i-preserved
loop-i-preserved c =
    let a = c.args in
    step c.loop-i.out a.line.now a.at (length a.out.now) c.loop-i.i c.byte.result c.loop-i-test.true c.byte.ensures ∙ c.loop-i.invariant

-- at the end none is left
pub returns : goal.returns
unfolding bytes
returns c =
    let a = c.args in
    let none : length a.out.now - c.loop-i.i ≡ 0 = omega arith in
    ap (λ (k : ℕ). sets c.loop-i.out c.loop-i.i (bytes a.line.now a.at c.loop-i.i k)) (sym none) ∙ c.loop-i.invariant
