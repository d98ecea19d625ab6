-- `polynomial::roots::marked_by_degree` meets its contract: up to five coefficients have 2 ^ 5 partition points at most, all have 2 ^ 9.
use Rattle.std.proofs.Common.{◌^◌, ◌≤◌, length, arith}
use lib.Pow.{pow_mono}
use Rattle.polynomial.proofs.roots.marked_by_degree.Goals as goal

pub marked_curve-requires : goal.marked_curve-requires
marked_curve-requires c =
    let q = c.args.p.terms.now in
    let w : 2 ^ length q ≤ 2 ^ 5 = pow_mono {i = length q} {j = 5} (omega arith) in
    (omega arith, omega arith, omega arith, omega arith)

pub marked_curve-requires-in_default : goal.marked_curve-requires-in_default
marked_curve-requires-in_default c =
    let q = c.args.p.terms.now in
    let w : 2 ^ length q ≤ 2 ^ 9 = pow_mono {i = length q} {j = 9} c.args.p.few in
    (omega arith, omega arith, omega arith, omega arith)
