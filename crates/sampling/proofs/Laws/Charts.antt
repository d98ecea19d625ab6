-- The root finder takes the bounds of both charts of a joint's interval.
use Rattle.std.specs.Prelude.{None, Some, ◌≡◌, refl, ◌⊎◌, Bool, T, Float}
use Rattle.std.specs.Float.{binary64}
use Rattle.std.specs.Float.Ieee.{neg, fits}
use Rattle.float.specs.Number.{one_float}
use Rattle.float.specs.Promises.Order.{Within}
use Rattle.float.specs.Laws.Narrow.{halves_narrow}
use Rattle.polynomial.specs.Angle.{two_pi}
use Rattle.sampling.specs.Limits.{limits}
use Rattle.sampling.specs.Promises.Charts.{Charted}
use Rattle.sampling.specs.Promises.Plan.{Moderate, Drawable}
use Rattle.sampling.proofs.Laws.ChartBounds.{chart_bounds}
use Rattle.sampling.proofs.Laws.Limits.{half_within, Around, ends_span, around_ends, limits_around}
use Rattle.sampling.proofs.Laws.Limits.Around.{around}
use Rattle.sampling.specs.declared.job.Job.{Job}
use Rattle.sampling.specs.declared.job.Joint.{Joint}
use Rattle.sampling.specs.declared.job.Kind.TheVariants.{J1j2free}
use Rattle.sampling.specs.Intervals.{Range}

-- ---- the halves of a joint's interval
around_charted : {lo hi : Float} → Around lo hi → Charted (Some (lo, hi))
around_charted (around c h f g w k) =
    let n = halves_narrow c h f g w k (half_within k) (ends_span (around_ends (around c h f g w k))) in
    (chart_bounds n.0, chart_bounds n.1)

-- THE LAW: what `limits` gives has charts whose bounds the root finder takes
pub limits_charted : (limited : Bool) (j : Joint) → T (fits binary64 j.reference) → (j.sign ≡ one_float) ⊎ (j.sign ≡ neg one_float)
    → Within two_pi j.offset → Charted (limits limited j)
limits_charted limited j t s o = go (limits limited j) refl
  where
    go : (g : Range) → limits limited j ≡ g → Charted g
    go None e = tt
    go (Some (lo, hi)) e = around_charted (limits_around limited j lo hi t s o e)

-- what `plan_of` asks, of a job as 01 allows it
pub moderate_drawable : (job : Job) → T (fits binary64 job.j1.reference) → (job.kind ≡ J1j2free → Moderate job.j1) → Drawable job
moderate_drawable job fit m k = limits_charted job.limited job.j1 fit (m k).sign (m k).offset
