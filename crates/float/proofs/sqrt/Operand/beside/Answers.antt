-- `float::sqrt::Operand::beside` meets its contract, by `Middles`.
use Rattle.std.proofs.Common.{◌+◌, ◌-◌, sym, ap₂, subst, ◌*◌, ◌^◌}
use Rattle.float.specs.Promises.Parts.{Roots}
use Rattle.float.proofs.sqrt.Middles as Middles
use Rattle.float.proofs.sqrt.Operand.beside.Goals as goal

pub returns : goal.returns
returns c =
    let a = c.args in
    let p = c.requires in
    subst (Roots (a.self.m * 2 ^ 52)) (ap₂ (λ u v. a.q + u - v) (sym c.from-up.ensures) (sym c.from-down.ensures))
    (Middles.beside a.self.m a.d a.q p.0 p.4 a.self.least p.2 p.3)
