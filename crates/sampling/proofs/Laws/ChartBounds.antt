-- The root finder takes the bounds of the chart of a narrow interval: they lie within ±4, the lower at or below zero, the upper at or above.
use Rattle.std.specs.Prelude.{false, pos, T, Float}
use Rattle.std.proofs.Common.{lit<}
use Rattle.std.specs.Float.{fin, binary64}
use Rattle.std.specs.Float.Ieee.{fits}
use Rattle.std.specs.Float.Ieee.Fits.{div-fits}
use Rattle.float.specs.Number.{◌⊖◌, ◌⊘◌, middle, two_float}
use Rattle.float.specs.Trig.{four_float, sin, cos, tan}
use Rattle.float.specs.Laws.Within.{weaken, sub_within}
use Rattle.float.specs.Laws.Interval.{Le-trans}
use Rattle.float.specs.Laws.Middle.{middle_in, middle_within}
use Rattle.float.specs.Laws.Trigonometry.{tan_within}
use Rattle.float.specs.Laws.Narrow.{Narrow, angles_within}
use Rattle.float.specs.Laws.TanSign.{tan_plus, tan_minus, half_plus, half_minus}
use Rattle.sampling.specs.CriticalSlices.{chart}
use Rattle.sampling.specs.Promises.Charts.{Bounded}

tan_fits : (x : Float) → T (fits binary64 (tan x))
unfolding tan
tan_fits x = div-fits binary64 (sin x) (cos x)

pub chart_bounds : {lo hi : Float} → Narrow lo hi → Bounded (chart lo hi)
unfolding chart
chart_bounds {lo} {hi} n =
    let s = n.span in
    let o = middle lo hi in
    let x = (lo ⊖ o) ⊘ two_float in
    let y = (hi ⊖ o) ⊘ two_float in
    let w = angles_within n in
    let m = middle_within s in
    let i = middle_in s in
    let lo-real = (sub_within binary64 (fin false 16 (pos 0)) tt s.lo_within m).real in
    let hi-real = (sub_within binary64 (fin false 16 (pos 0)) tt s.hi_within m).real in
    record {
      room = lit< tt;
      lo_fits = tan_fits x;
      hi_fits = tan_fits y;
      lo_within = weaken four_float tt (tan_within x w.0);
      hi_within = weaken four_float tt (tan_within y w.1);
      order =
          Le-trans (tan_minus x w.0 (half_minus lo o lo-real w.0.real i.lower)) (tan_plus y w.1 (half_plus hi o hi-real w.1.real i.upper));
    }
