-- Cuts that grow in a lent slice. Definition only; the proofs' `Grown` puts one after the other.
use Rattle.std.specs.Prelude.{◌≡◌, List, ◌++◌, length, Float}
use Rattle.polynomial.specs.Promises.Lists.{Fit}
use Rattle.polynomial.specs.Promises.Held.{Kept}
use Rattle.sampling.specs.declared.work.Cuts.{Cuts}

-- The slice is still the one that was lent. Where it held the cuts of some values, and the number was theirs or that there are too few places, both say
-- the same of those values and then l.
pub record Grown (l : List Float) (a b : Cuts) : Type 0 where
  pub same_reference : b.work.ghost_name ≡ a.work.ghost_name
  pub fit : Fit l
  pub same : length b.work.now ≡ length a.work.now
  pub kept : (before w : List Float) → Fit before → Kept before w a.work.now a.count → Kept (before ++ l) w b.work.now b.count
