-- What is asked of joint 1's interval, so that the root finder takes the bounds of both halves' charts. Definitions only; `Laws.Charts` has it of a joint's
-- limits.
use Rattle.std.specs.Prelude.{None, Some}
use Rattle.float.specs.Number.{middle}
use Rattle.float.specs.Promises.Order.{Span}
use Rattle.sampling.specs.CriticalSlices.{Chart, chart}
use Rattle.sampling.specs.declared.critical_slices.Chart.{Chart as Checked}
use Rattle.sampling.specs.Intervals.{Range}

abbrev pub Bounded : Chart → Type 0
Bounded c = Span 2 c.lower c.upper

abbrev pub Charted : Range → Type 0
Charted None = Unit {0}
Charted (Some (lower, upper)) = Bounded (chart lower (middle lower upper)) × Bounded (chart (middle lower upper) upper)

-- a chart whose bounds the root finder takes, by its numbers
abbrev pub plain : Checked → Chart
plain c = record { origin = c.origin; lower = c.bounds.lower; upper = c.bounds.upper }
