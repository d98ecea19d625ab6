-- `sampling::j1j2free::cut_halves` meets its contract: the two lists, by what `half_cuts` says of each.
use mathlib.Core.Path.{sym, subst, ◌∙◌}
use lib.Ieee.{Float}
use borrow.Author.Rules.{rules}
use Rattle.sampling.specs.CriticalSlices.{chart}
use Rattle.sampling.specs.J1j2free.{curves, bends}
use Rattle.sampling.specs.Promises.Charts.{Bounded}
use Rattle.sampling.proofs.j1j2free.Both.{starts, laid_halves}
use Rattle.sampling.proofs.j1j2free.cut_halves.Goals as goal

pub half_cuts-first-requires : goal.half_cuts-first-requires
half_cuts-first-requires c = (search rules, subst (λ (m : Float). Bounded (chart c.args.whole.lower m)) (sym c.middle-m.ensures) c.requires.0)

pub offset_bounds-work-start : goal.offset_bounds-work-start
offset_bounds-work-start c = let h = starts _ _ _ c.half_cuts-first.result _ c.start_of-start.ensures
    c.half_cuts-first.ensures in search (rules, h)

pub slice_bounds-half_cuts-count : goal.slice_bounds-half_cuts-count
slice_bounds-half_cuts-count c = starts _ _ _ c.half_cuts-first.result _ c.start_of-start.ensures c.half_cuts-first.ensures

pub half_cuts-second-requires : goal.half_cuts-second-requires
half_cuts-second-requires c = (search rules, subst (λ (m : Float). Bounded (chart m c.args.whole.upper)) (sym c.middle-m.ensures) c.requires.1)

pub returns : goal.returns
unfolding curves bends
returns c =
    let a = c.args in
    let all = laid_halves a.t.now a.whole.lower a.whole.upper _ (search rules) (search rules)
    c.middle-m.ensures
    _ (c.as_slice-curves.ensures.value ∙ c.boundaries-curves.ensures) _ (c.as_slice-bends.ensures.value ∙ c.bend_slices-bends.ensures)
    _ _ _ c.half_cuts-first.result c.half_cuts-second.result _ c.start_of-start.ensures
    c.half_cuts-first.ensures c.half_cuts-second.ensures c.halves_of.result c.halves_of.ensures in record { value = all.0; work_after = all.1 }
