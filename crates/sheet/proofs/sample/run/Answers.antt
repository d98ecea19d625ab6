-- `sheet::sample::run` meets its contract: at each return, what the calls and the tests on the way to it say.
use Rattle.std.specs.Prelude.{Some, None}
use native.Mathlib.Omega.{arith}
use mathlib.Core.Path.{◌≡◌, sym, ◌∙◌}
use lib.ListN.{length}
use Rattle.std.proofs.lemmas.Result.{err_from_is_err_and}
use Rattle.sheet.specs.Edition.{newest}
use Rattle.sheet.specs.declared.refusals.Refusal.TheVariants.{Work}
use Rattle.sheet.specs.Promises.Plan.{planned_answer}
use Rattle.sheet.specs.Refusals.{need}
use Rattle.sheet.specs.Sampling.{cut_count}
use lib.Dec.{leb}
use mathlib.Core.Bool.{false}
use Rattle.sheet.specs.Laws.Plan.{passed_drawable, fits_no, plan_asked, planned_for, passed_answer, refused_answer}
use Rattle.sheet.specs.Laws.Tested.{tested_passed, tested_unit}
use Rattle.sheet.proofs.sample.run.Goals as goal

pub returns-in_err-q-clause-result_value : goal.returns-in_err-q-clause-result_value
returns-in_err-q-clause-result_value c = let a = c.args in
    let p = err_from_is_err_and c.from_residual.result c.from_residual.ensures.1 in
    rw (p.1, p.2) (refused_answer a.request.now _ (length a.work.now) (length a.output.now) (sym c.validate.ensures ∙ c.in_err-q.was))

pub invariant_of-view : goal.invariant_of-view
invariant_of-view c = let g = tested_passed newest _ _ (sym c.validate.ensures ∙ c.in_ok-q.was) in
    record { whole = omega (arith, g.whole) }

pub plan_request-requires : goal.plan_request-requires
plan_request-requires c = let e = sym c.validate.ensures ∙ c.in_ok-q.was in
    record { request_value = tested_unit newest _ _ e; drawable = passed_drawable _ (tested_passed newest _ _ e) }

pub returns-in_err-plan-clause-result_value : goal.returns-in_err-plan-clause-result_value
unfolding planned_answer need
returns-in_err-plan-clause-result_value c = let a = c.args in
    let g = tested_passed newest _ _ (sym c.validate.ensures ∙ c.in_ok-q.was) in
    let p = c.plan_request in
    let n : p.result ≡ None = grind arith in
    let h = fits_no _ g p.result a.work.now p.new.work p.ensures.value p.ensures.work_after p.auto.work n in
    let k = err_from_is_err_and c.from_residual-in_err-plan.result c.from_residual-in_err-plan.ensures.1 in
    let r : c.in_err-plan.field-0.0 ≡ Work = grind arith in
    let places : leb (cut_count a.request.now) (length a.work.now) ≡ false = rw p.auto.work at h in
    rw (k.1, k.2, r) (rw places at (passed_answer a.request.now (length a.work.now) (length a.output.now) g))

pub invariant_of-planned : goal.invariant_of-planned
invariant_of-planned c = let a = c.args in
    let g = tested_passed newest _ _ (sym c.validate.ensures ∙ c.in_ok-q.was) in
    let p = c.plan_request in
    let s : p.result ≡ Some c.in_ok-plan.plan = grind arith in
    record { ready = ∣ plan_asked _ g p.result a.work.now p.new.work p.ensures.value p.ensures.work_after p.auto.work _ s ∣₁ }

pub invariant_of-finish : goal.invariant_of-finish
invariant_of-finish c = let a = c.args in
    let g = tested_passed newest _ _ (sym c.validate.ensures ∙ c.in_ok-q.was) in
    let p = c.plan_request in
    let s : p.result ≡ Some c.in_ok-plan.plan = grind arith in
    record { newest = g.whole; own = planned_for _ g p.result a.work.now p.new.work p.ensures.value p.ensures.work_after p.auto.work _ s }

pub returns-clause-result_value : goal.returns-clause-result_value
returns-clause-result_value c = let a = c.args in
    let e = sym c.validate.ensures ∙ c.in_ok-q.was in
    c.finish.ensures.result_value
    ∙ rw c.plan_request.auto.work (passed_answer a.request.now (length a.work.now) (length a.output.now) (tested_passed newest _ _ e))
