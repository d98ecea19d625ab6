-- `polynomial::operation::roots_fitted` meets its contract: where the tests pass, the finder's list has room.
use Rattle.std.proofs.Common.{ap, ◌∙◌, length}
use Rattle.polynomial.specs.Operation.{fitted}
use Rattle.polynomial.proofs.operation.Answers.{enough_room, counted}
use Rattle.polynomial.proofs.operation.roots_fitted.Goals as goal

pub returns-then-n-kinds-clause-value : goal.returns-then-n-kinds-clause-value
returns-then-n-kinds-clause-value g c =
    let a = c.args in
    let f = c.marked_roots.ensures.value in
    counted c.marked_roots.result (length a.res.now) (length a.kinds.now) (enough_room _ _ _ _ _ a.p.few c.if-n-res.true f.0)
    (enough_room _ _ _ _ _ a.p.few c.if-n-kinds.true f.0)
    ∙ ap (λ m. fitted m (length a.res.now) (length a.kinds.now)) f.0
