-- `parts_hold` as a test of each part.
use Rattle.std.proofs.Common.{◌≡◌, List, [], ◌∷◌, ◌&&◌, refl, ap}
use Rattle.std.specs.List.{list_all}
use lib.Ieee.{Float}
use Rattle.polynomial.specs.Operation.{part_holds, parts_hold}

pub parts_hold_is : (s : List Float) → list_all part_holds s ≡ parts_hold s
unfolding parts_hold
parts_hold_is [] = refl
parts_hold_is (x ∷ s) = ap (λ b. part_holds x && b) (parts_hold_is s)
