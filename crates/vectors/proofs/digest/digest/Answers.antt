use Rattle.std.proofs.Common.{sym, ◌∙◌}
use Rattle.std.proofs.lemmas.List.{at_drop_more, at_drop_all}
use Rattle.vectors.specs.Digest.{digest_from}
use Rattle.vectors.proofs.digest.digest.Goals as goal

-- a turn takes the first byte of those that are left
pub loop-b-preserved : goal.loop-b-preserved
unfolding digest_from
loop-b-preserved c =
    let turn = at_drop_more (digest_from c.loop-b.h) c.args.s.now c.loop-b.b-index 0 c.loop-b-test.true in
    rw c.from.ensures (sym turn ∙ c.loop-b.invariant)

-- at the end none is left
pub returns : goal.returns
unfolding digest_from
returns c = sym (at_drop_all (digest_from c.loop-b.h) c.args.s.now c.loop-b.b-index c.loop-b-test.false) ∙ c.loop-b.invariant
