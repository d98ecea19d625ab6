-- `all_finite` as a test of each coefficient.
use Rattle.std.proofs.Common.{◌≡◌, List, [], ◌∷◌, ◌&&◌, refl, ap}
use Rattle.std.specs.List.{list_all}
use Rattle.polynomial.specs.Polynomial.{all_finite}
use Rattle.polynomial.specs.Promises.Inside.{finite_parts}
use Rattle.polynomial.specs.declared.compensated.Compensated.{Compensated}

pub all_finite_is : (p : List Compensated) → list_all finite_parts p ≡ all_finite p
unfolding all_finite
all_finite_is [] = refl
all_finite_is (c ∷ cs) = ap (λ b. finite_parts c && b) (all_finite_is cs)
