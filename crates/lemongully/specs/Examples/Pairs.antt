-- The order in which three curves are taken (02, change 3) and the Rust's order, each computed by antt, and how many calls 18 curves make.
use Rattle.std.specs.Prelude.{◌≡◌, refl, [], ◌∷◌, length}
use Rattle.sampling.specs.Pairs.{earlier, order}
use Rattle.sampling.specs.RustOrder as RustOrder

by_the_later : order 3 ≡ (0, 0) ∷ (1, 1) ∷ (0, 1) ∷ (2, 2) ∷ (0, 2) ∷ (1, 2) ∷ []
unfolding order earlier
by_the_later = refl

by_the_earlier : RustOrder.order 3 ≡ (0, 0) ∷ (0, 1) ∷ (0, 2) ∷ (1, 1) ∷ (1, 2) ∷ (2, 2) ∷ []
unfolding RustOrder.order RustOrder.from RustOrder.later
by_the_earlier = refl

-- each alone and 153 pairs
of_eighteen : length (order 18) ≡ 171
unfolding order earlier
of_eighteen = refl
