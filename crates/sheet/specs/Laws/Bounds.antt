-- The angles of a request that passes its tests lie within ±32, by sampling's law.
use Rattle.std.specs.Prelude.{ℕ, List}
use Rattle.polynomial.specs.Promises.Lists.{All}
use Rattle.sampling.proofs.Laws.AngleBounds.{angles_small}
use Rattle.sampling.proofs.Laws.Woven.{Small}
use Rattle.sheet.specs.declared.edition.Edition.{Edition}
use Rattle.sheet.specs.Fields.{job_of}
use Rattle.sheet.specs.Sampling.{angles}
use Rattle.sheet.specs.Promises.Tested.{Passed}
use Rattle.sheet.specs.Laws.Plan.{reference_fits, passed_moderate}

-- THEOREM: Every angle of a request that passes the tests lies within ±32.
pub passed_small : (e : Edition) (r : List ℕ) → Passed e r → All Small (angles r)
unfolding angles
passed_small e r g = angles_small (job_of r) (reference_fits r g) (passed_moderate r g)
