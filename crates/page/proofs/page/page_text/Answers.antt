use Rattle.std.proofs.Common.{sym, ap, ◌∙◌, length}
use Rattle.sheet.specs.Check.{answer_of}
use Rattle.page.specs.Laws.Sheets.{paged}
use Rattle.page.proofs.page.page_text.Goals as goal

pub invariant_of-lay : goal.invariant_of-lay
invariant_of-lay c =
    let e = sym c.check.ensures.result_value ∙ ap answer_of c.in_ok-n.was in
    record { paged = paged c.args.sheet.now (length c.args.work.now) c.in_ok-n.n e }
