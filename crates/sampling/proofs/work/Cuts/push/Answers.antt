-- `sampling::work::Cuts::push` meets its contract: at each return, what the calls and the tests on the way to it say.
use mathlib.Core.Path.{refl}
use borrow.Author.Rules.{rules}
use Rattle.sampling.proofs.Grown.{one}
use Rattle.sampling.proofs.work.Cuts.push.Goals as goal

pub returns-in_default : goal.returns-in_default
returns-in_default c = one _ _ c.args.v (search rules) refl refl (rw c.in_default.is) (rw c.in_default.is)

pub returns : goal.returns
returns c = one _ _ c.args.v (search rules) refl c.insert-self.auto.room (rw c.in-Some.is c.insert-self.ensures.value)
    (rw c.in-Some.is c.insert-self.ensures.room_after)
