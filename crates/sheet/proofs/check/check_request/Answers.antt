-- `sheet::check::check_request` meets its contract: at each return, what the calls and the tests on the way to it say.
use native.Mathlib.Omega.{arith}
use Rattle.std.specs.Prelude.{Some, None}
use Rattle.std.proofs.lemmas.Result.{err_from_is_err_and}
use borrow.Author.Tests.{not-true, not-false}
use mathlib.Core.Path.{◌≡◌, refl, sym, ◌∙◌}
use Rattle.sheet.specs.Refusals.{need}
use Rattle.sheet.specs.Promises.Plan.{checked, compared}
use Rattle.sheet.specs.Laws.Plan.{passed_drawable, fits_no, plan_asked, planned_for, fits_yes, found_items, refused_meets}
use Rattle.sheet.specs.declared.refusals.Fault.TheVariants.{Work}
use Rattle.sheet.specs.Laws.Accepted.{passed_meets}
use Rattle.sheet.specs.Laws.Places.{core_least}
use Rattle.sheet.specs.Laws.Tested.{tested_passed, tested_unit}
use Rattle.sheet.proofs.check.check_request.Goals as goal

pub invariant_of-view : goal.invariant_of-view
invariant_of-view c = let g = tested_passed c.args.e _ _ (sym c.validate.ensures ∙ c.in-Ok.is) in
    record { whole = omega (arith, g.whole, core_least c.args.e) }

pub plan_request-plan-requires : goal.plan_request-plan-requires
plan_request-plan-requires c = let e = sym c.validate.ensures ∙ c.in-Ok.is in
    let a = c.args in
    let g = tested_passed a.e _ _ e in
    record { request_value = tested_unit a.e _ _ e; drawable = passed_drawable _ g }

pub returns-in_default-clause-result_value : goal.returns-in_default-clause-result_value
unfolding checked need
returns-in_default-clause-result_value c = let a = c.args in
    rw (refused_meets a.e a.request.now _ (sym c.validate.ensures ∙ c.in_default.is)) refl

pub returns-then-not-unread_zero-clause-result_value : goal.returns-then-not-unread_zero-clause-result_value
unfolding checked compared need
returns-then-not-unread_zero-clause-result_value c =
    let g = tested_passed _ _ _ (sym c.validate.ensures ∙ c.in-Ok.is) in
    let u = sym c.unread_zero.ensures ∙ not-true _ c.if-not-unread_zero.true-raw in
    rw (passed_meets _ _ g, u) refl

pub returns-in_err-plan-clause-result_value : goal.returns-in_err-plan-clause-result_value
unfolding checked compared need
returns-in_err-plan-clause-result_value c = let a = c.args in
    let g = tested_passed _ _ _ (sym c.validate.ensures ∙ c.in-Ok.is) in
    let p = c.plan_request-plan in
    let u = sym c.unread_zero.ensures ∙ not-false _ c.if-not-unread_zero.false-raw in
    let n : p.result ≡ None = grind arith in
    let h = fits_no _ g p.result a.work.now p.new.work p.ensures.value p.ensures.work_after p.auto.work n in
    let k = err_from_is_err_and c.from_residual.result c.from_residual.ensures.1 in
    let r : c.in_err-plan.field-0.0 ≡ Work = grind arith in
    rw (k.1, k.2, r, passed_meets _ _ g, u, ← p.auto.work, h) refl

pub invariant_of-same_angles : goal.invariant_of-same_angles
invariant_of-same_angles c = let a = c.args in
    let g = tested_passed _ _ _ (sym c.validate.ensures ∙ c.in-Ok.is) in
    let p = c.plan_request-plan in
    let s : p.result ≡ Some c.in_ok-plan.plan = grind arith in
    record { ready = ∣ plan_asked _ g p.result a.work.now p.new.work p.ensures.value p.ensures.work_after p.auto.work _ s ∣₁ }

pub returns-then-not-same_angles-clause-result_value : goal.returns-then-not-same_angles-clause-result_value
unfolding checked compared need
returns-then-not-same_angles-clause-result_value c = let a = c.args in
    let g = tested_passed _ _ _ (sym c.validate.ensures ∙ c.in-Ok.is) in
    let p = c.plan_request-plan in
    let s : p.result ≡ Some c.in_ok-plan.plan = grind arith in
    let f = planned_for _ g p.result a.work.now p.new.work p.ensures.value p.ensures.work_after p.auto.work _ s in
    let u = sym c.unread_zero.ensures ∙ not-false _ c.if-not-unread_zero.false-raw in
    let q = sym c.same_angles.ensures ∙ not-true _ c.if-not-same_angles.true-raw in
    rw (passed_meets _ _ g, u, ← p.auto.work, fits_yes _ _ _ f, ← found_items _ _ _ f, q) refl

pub returns-clause-result_value : goal.returns-clause-result_value
unfolding checked compared need
returns-clause-result_value c = let a = c.args in
    let g = tested_passed _ _ _ (sym c.validate.ensures ∙ c.in-Ok.is) in
    let p = c.plan_request-plan in
    let s : p.result ≡ Some c.in_ok-plan.plan = grind arith in
    let f = planned_for _ g p.result a.work.now p.new.work p.ensures.value p.ensures.work_after p.auto.work _ s in
    let u = sym c.unread_zero.ensures ∙ not-false _ c.if-not-unread_zero.false-raw in
    let q = sym c.same_angles.ensures ∙ not-false _ c.if-not-same_angles.false-raw in
    rw (passed_meets _ _ g, u, ← p.auto.work, fits_yes _ _ _ f, ← found_items _ _ _ f, q) refl
