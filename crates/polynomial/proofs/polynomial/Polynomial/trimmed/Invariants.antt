use Rattle.std.proofs.Common.{◌≡◌, ◌≤◌, length}
use Rattle.polynomial.specs.Polynomial.{trim}
use Rattle.polynomial.proofs.polynomial.Polynomial.trimmed.Given as goal

abbrev pub invariant-loop-last : goal.invariant-loop-last
invariant-loop-last l = (trim l.left ≡ trim l.self.terms.now) × (length l.left ≤ length l.self.terms.now)

abbrev pub decreases-loop-last : goal.decreases-loop-last
decreases-loop-last l = length l.left
