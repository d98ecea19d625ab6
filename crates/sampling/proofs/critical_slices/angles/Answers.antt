-- `sampling::critical_slices::angles` meets its contract. The invariant: where the angles of the roots that are left come to a slice, all come to it.
use Rattle.std.proofs.Common.{◌∙◌}
use lib.Ieee.{of_bits}
use Rattle.sampling.proofs.Grown.{leads_next, leads_end}
use Rattle.sampling.proofs.CriticalSlices.{angles_next, angles_end}
use Rattle.sampling.proofs.critical_slices.angles.Goals as goal

pub loop-u-preserved : goal.loop-u-preserved
unfolding of_bits
loop-u-preserved c = leads_next c.loop-u.invariant (angles_next c.args.origin c.args.roots.now c.loop-u.u-index c.loop-u-test.true
    ∙ rw (← c.atan.ensures)) c.push.ensures

pub returns : goal.returns
returns c = leads_end c.loop-u.invariant (angles_end c.args.origin c.args.roots.now c.loop-u.u-index c.loop-u-test.false)
