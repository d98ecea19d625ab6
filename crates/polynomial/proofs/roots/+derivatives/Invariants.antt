use Rattle.polynomial.proofs.roots.+derivatives.Given as goal
use Rattle.std.proofs.Common.{◌+◌, length}

-- twice the number of coefficients, and one more for `roots`
abbrev pub decreases-curve_roots : goal.decreases-curve_roots
decreases-curve_roots l = length l.p.terms.now + length l.p.terms.now

abbrev pub decreases-roots : goal.decreases-roots
decreases-roots l = length l.p.terms.now + length l.p.terms.now + 1
