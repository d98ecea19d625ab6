-- `sheet::validate::fields_right` meets its contract: the test holds at each field.
use Rattle.std.proofs.Common.{◌≡◌, ◌+◌, arith, refl, rules, true, false}
use Rattle.std.proofs.lemmas.Iterator.{cases_from_all, YieldsList-from_range}
use Rattle.sheet.specs.Validate.{field_right}
use Rattle.sheet.proofs.validate.Steps.{all_decided}
use Rattle.sheet.proofs.validate.fields_right.Goals as goal

pub returns : goal.returns
unfolding field_right
returns c =
    let r = c.args.view.request.now in
    let n = c.args.n in
    let p = field_right c.shape-s.result c.args.f r in
    let d = cases_from_all _ _ c.all.result (λ j. p j ≡ true) (λ j. p j ≡ false) c.all.ensures.ran
    (YieldsList-from_range 1 (n + 1) n refl (omega arith)) (λ x q h. search rules) (λ x q h. search rules) in
    rw c.shape-s.ensures at (all_decided p n 1 c.all.result d)
