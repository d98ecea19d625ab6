use Rattle.std.proofs.Common.{◌≡◌, arith, refl, rules, true, false}
use Rattle.std.proofs.lemmas.Iterator.{cases_from_all, YieldsList-from_range}
use Rattle.text.proofs.Words.{word, decided}
use Rattle.text.proofs.lines.are_words.Goals as goal

pub returns : goal.returns
returns c =
    let s = c.args.s.now in
    let d = cases_from_all _ _ c.all.result (λ j. word s j ≡ true) (λ j. word s j ≡ false) c.all.ensures.ran
    (YieldsList-from_range 0 c.args.k c.args.k refl (omega arith)) (λ x q h. search rules) (λ x q h. search rules) in
    decided s c.args.k c.all.result d
