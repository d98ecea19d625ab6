-- `sheet::validate::signs_right` meets its contract: the test holds at each joint.
use Rattle.std.proofs.Common.{◌≡◌, refl, rules, true, false}
use Rattle.std.proofs.lemmas.Iterator.{cases_from_all, YieldsList-from_range}
use Rattle.sheet.specs.Validate.{sign_right, signs_right}
use Rattle.sheet.proofs.validate.Steps.{all_decided}
use Rattle.sheet.proofs.validate.signs_right.Goals as goal

pub returns : goal.returns
unfolding signs_right sign_right
returns c =
    let r = c.args.view.request.now in
    let p = sign_right c.shape-s.result r in
    let d = cases_from_all _ _ c.all.result (λ j. p j ≡ true) (λ j. p j ≡ false) c.all.ensures.ran
    (YieldsList-from_range 1 7 6 refl refl) (λ x q h. search rules) (λ x q h. search rules) in
    rw c.shape-s.ensures at (all_decided p 6 1 c.all.result d)
