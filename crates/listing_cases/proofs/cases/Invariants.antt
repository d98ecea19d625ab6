-- Each line takes bytes of what is left.
use Rattle.std.proofs.Common.{length}
use Rattle.listing_cases.proofs.cases.Given as goal

abbrev pub decreases-loop-line : goal.decreases-loop-line
decreases-loop-line l = length l.rest
