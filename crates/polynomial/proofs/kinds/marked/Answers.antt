-- `polynomial::kinds::marked` meets its contract.
use Rattle.std.proofs.Common.{sym, ap, ◌∙◌, cond}
use Rattle.polynomial.specs.declared.kinds.Root.TheVariants.{Touch, Crossing}
use Rattle.polynomial.proofs.kinds.Marks.{among_is}
use Rattle.polynomial.proofs.kinds.marked.Goals as goal

pub returns-then-contains : goal.returns-then-contains
returns-then-contains c = let x = c.args.x in
    ap (λ b. cond b (Touch x) (Crossing x)) (sym c.if-contains.true ∙ c.contains.ensures.value ∙ among_is x c.args.near.now)

pub returns-else-contains : goal.returns-else-contains
returns-else-contains c = let x = c.args.x in
    ap (λ b. cond b (Touch x) (Crossing x)) (sym c.if-contains.false ∙ c.contains.ensures.value ∙ among_is x c.args.near.now)
