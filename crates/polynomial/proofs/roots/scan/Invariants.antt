use Rattle.polynomial.proofs.roots.Gathered.{Gathered}
use Rattle.polynomial.proofs.roots.Scanned.{Scanned}
use Rattle.polynomial.proofs.roots.scan.Given as goal
use Rattle.std.proofs.Common.{length}

abbrev pub invariant-loop-i : goal.invariant-loop-i
invariant-loop-i l = record {
  scanned : Scanned l.p.terms.now l.initial.points (length l.initial.points) l.initial.out l.initial.k l.out l.lo l.u l.k l.i;
  gathered : Gathered l.p.terms.now l.initial.points l.points l.near l.i;
}
