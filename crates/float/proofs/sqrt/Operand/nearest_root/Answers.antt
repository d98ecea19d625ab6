-- `float::sqrt::Operand::nearest_root` meets its contract: the guess is its own digits at its place, and is returned where these are the nearest whole number.
use Rattle.std.proofs.Common.{◌≡◌, ℕ, ◌+◌, ◌%◌, ◌^◌, ◌≤◌, false, sym, ap, ◌∙◌, arith, rules}
use lib.Ieee.{binary64, units, to_bits}
use Rattle.float.proofs.sqrt.Guessed.{by_digits}
use Rattle.float.proofs.sqrt.Middles.{same, nearest_root}
use Rattle.float.proofs.sqrt.Operand.nearest_root.Goals as goal

full : (b q : ℕ) → q ≡ b % 2 ^ 52 + 2 ^ 52 → 2 ^ 52 ≤ q
full b q e = omega arith

pub returns-then-d-q-gt13510798882111488 : goal.returns-then-d-q-gt13510798882111488
returns-then-d-q-gt13510798882111488 c =
    let g = c.args.g in
    let q = c.digits-q.result in
    let d = c.in-Some.ensures in
    by_digits g c.args.k (search rules) c.requires c.if-g-k.true
    ∙ ap (λ (n : ℕ). units binary64 false n c.args.k) (sym c.digits-q.ensures)
    ∙ nearest_root c.args.self.m q c.args.self.least c.args.self.most
    (same c.args.self.m c.in-Some.d q (full (to_bits binary64 g) q c.digits-q.ensures) d.2 c.if-d-q.true c.if-d-q-gt13510798882111488.true) c.args.k

pub returns-in-Some : goal.returns-in-Some
returns-in-Some c = c.float.ensures ∙ nearest_root c.args.self.m c.beside-q.result c.args.self.least c.args.self.most c.beside-q.ensures c.args.k

pub returns : goal.returns
returns c = c.float-2.ensures ∙ nearest_root c.args.self.m c.root-q.result c.args.self.least c.args.self.most c.root-q.ensures c.args.k
