use lib.ListN.{take}
use Rattle.polynomial.specs.Curve.{chart_angles}
use Rattle.polynomial.specs.Promises.Norm.{put_all}
use Rattle.polynomial.proofs.norm.Charted.{Charted}
use Rattle.polynomial.proofs.norm.chart.Given as goal

abbrev pub invariant-loop-u : goal.invariant-loop-u
invariant-loop-u l =
    Charted l.origin l.found (put_all (chart_angles l.origin l.found) (take l.k l.initial.out)) l.initial.out l.k l.out l.n l.u-index
