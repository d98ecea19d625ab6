-- The digest from here on of the bytes that are left is the digest of all.
use Rattle.std.proofs.Common.{◌≡◌, drop}
use Rattle.vectors.specs.Digest as Digest
use Rattle.vectors.proofs.digest.digest.Given as goal

abbrev pub invariant-loop-b : goal.invariant-loop-b
invariant-loop-b l = Digest.digest_from l.h (drop l.b-index l.s) ≡ Digest.digest l.s
