-- `sampling::plan::cut` meets its contract: by the job's kind, what the definitions say of it.
use borrow.Author.Rules.{rules}
use Rattle.sampling.specs.Angles.{cut_count}
use Rattle.sampling.specs.J1j2free.{folded}
use Rattle.sampling.specs.Promises.Plan.{plan, laid, all_cuts}
use Rattle.sampling.proofs.plan.cut.Goals as goal

pub cut-requires-in-J1j2free : goal.cut-requires-in-J1j2free
unfolding folded
cut-requires-in-J1j2free c = search rules

pub returns-in-J1free : goal.returns-in-J1free
unfolding plan laid all_cuts cut_count
returns-in-J1free c = search rules

pub returns-in-J2free : goal.returns-in-J2free
unfolding plan laid all_cuts cut_count
returns-in-J2free c = search rules

pub returns-in-J1j2free : goal.returns-in-J1j2free
unfolding plan laid all_cuts cut_count
returns-in-J1j2free c = search rules
