-- The values at which joint 1 is tried where the arm is folded: `search` of j1j2free.rs, up to its last `dedup` (01, module 6). Definitions only.
use Rattle.std.specs.Prelude.{List, [], ◌∷◌, ◌++◌, Float}
use Rattle.float.specs.Number.{middle}
use Rattle.polynomial.specs.Cuts.{cuts}

-- the middles of neighbours: `cuts.windows(2).map(|pair| pair[0] + (pair[1] - pair[0]) / 2.0)`
unfoldable pub mids : List Float → List Float
mids [] = []
mids (x ∷ []) = []
mids (x ∷ (y ∷ l)) = middle x y ∷ mids (y ∷ l)

-- The list after the last `dedup`: the reference, the limits, and of each half its cuts a or b
-- and the middles of their neighbours, sorted and with no value twice.
unfoldable pub slices : Float → Float → Float → List Float → List Float → List Float
slices reference lower upper a b = cuts (reference ∷ lower ∷ upper ∷ ((a ++ mids a) ++ (b ++ mids b)))
