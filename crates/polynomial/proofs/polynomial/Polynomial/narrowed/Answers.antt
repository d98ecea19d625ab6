-- `polynomial::polynomial::Polynomial::narrowed` meets its contract.
use Rattle.std.proofs.Common.{ap, sym, subst}
use Rattle.polynomial.specs.Promises.Inside.{Leaves}
use Rattle.polynomial.proofs.bisection.Steps.{done}
use Rattle.polynomial.proofs.polynomial.Polynomial.narrowed.Goals as goal

pub returns-in_err-step_at : goal.returns-in_err-step_at
returns-in_err-step_at c =
    subst (Leaves _ _ _ _) (sym c.from_residual.ensures)
    (done _ _ _ _ c.requires _ c.middle-m.ensures _ (ap (λ t. t.1) c.in-Some.ensures) _ c.step_at.ensures _ c.in_err-step_at.was)
