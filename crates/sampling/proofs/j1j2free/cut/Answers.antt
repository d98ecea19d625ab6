-- `sampling::j1j2free::cut` meets its contract: at each return, what its definitions say of it.
use borrow.Author.Rules.{rules}
use Rattle.sampling.specs.J1j2free.{cut_count}
use Rattle.sampling.specs.Promises.Plan.{folded_plan, folded_cuts}
use Rattle.sampling.proofs.Laid.{all_three}
use Rattle.sampling.proofs.j1j2free.cut.Goals as goal

pub returns-in-None : goal.returns-in-None
unfolding cut_count folded_plan folded_cuts
returns-in-None c = search (all_three, rules)

pub returns-in-Some : goal.returns-in-Some
unfolding cut_count folded_plan folded_cuts
returns-in-Some c = search rules
