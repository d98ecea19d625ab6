use Rattle.std.proofs.Common.{◌≡◌, ◌++◌, length, drop}
use Rattle.polynomial.specs.Curve.{times_each, target}
use Rattle.polynomial.proofs.curve.norm_target.Given as goal

abbrev pub invariant-loop-c : goal.invariant-loop-c
invariant-loop-c l = record {
  long : length l.r.items ≡ l.c-index;
  whole : l.r.items ++ times_each (drop l.c-index l.c-items) l.squared ≡ target l.norm;
}
