-- What the coefficients that are left make of p is what all make of the start.
use Rattle.std.proofs.Common.{◌≡◌, drop}
use Rattle.float.specs.Trig.{series}
use Rattle.float.proofs.trig.horner.Given as goal

abbrev pub invariant-loop-c : goal.invariant-loop-c
invariant-loop-c l = series l.z l.p (drop l.c-index l.rest) ≡ series l.z l.start l.rest
