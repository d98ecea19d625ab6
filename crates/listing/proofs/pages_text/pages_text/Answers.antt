use Rattle.std.proofs.Common.{sym, ap, ◌∙◌}
use Rattle.sheet.specs.Check.{answer_of}
use Rattle.page.specs.Laws.Sheets.{paged}
use Rattle.listing.specs.Listing.{places}
use Rattle.listing.proofs.pages_text.pages_text.Goals as goal

pub invariant_of-print_pages : goal.invariant_of-print_pages
invariant_of-print_pages c = record { paged = paged c.args.input.now places c.in-Ok.n (sym c.in-Some.ensures.1 ∙ ap answer_of c.in-Ok.is) }
