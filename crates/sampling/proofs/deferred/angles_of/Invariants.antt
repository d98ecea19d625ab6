use Rattle.std.proofs.Common.{◌≡◌, ◌++◌, ◌+◌, ◌*◌, length}
use Rattle.std.specs.List.{flat_map}
use Rattle.arrayvec.specs.ArrayVec.{array_vec_len}
use Rattle.sampling.specs.Promises.Deferred.{angles_of}
use Rattle.sampling.proofs.deferred.angles_of.Given as goal

abbrev pub invariant-loop-left : goal.invariant-loop-left
invariant-loop-left l = record {
  items : l.out.items ++ flat_map angles_of l.left ≡ l.initial.out.items ++ flat_map angles_of l.deferred;
  len : array_vec_len l.out + 2 * length l.left ≡ array_vec_len l.initial.out + 2 * length l.deferred;
}

abbrev pub decreases-loop-left : goal.decreases-loop-left
decreases-loop-left l = length l.left
