-- A list of angles, sorted and with no value twice: Rust's `v.sort_by(f64::total_cmp); v.dedup();`. Definitions only.
use Rattle.std.specs.Prelude.{cond, List, [], ◌∷◌, Float}
use Rattle.std.specs.Float.Ieee.{eq}
use Rattle.float.specs.Number.{total_le}

-- `sort_by(f64::total_cmp)`: each before the first element that does not come earlier
unfoldable pub ins : Float → List Float → List Float
ins v [] = v ∷ []
ins v (y ∷ l) = cond (total_le v y) (v ∷ y ∷ l) (y ∷ ins v l)

unfoldable pub sort : List Float → List Float
unfolding ins
sort [] = []
sort (x ∷ l) = ins x (sort l)

-- `dedup`: what is left of l behind p, the last element that is kept. An element that equals it goes
unfoldable pub rest : Float → List Float → List Float
rest p [] = []
rest p (y ∷ l) = cond (eq y p) (rest p l) (y ∷ rest y l)

unfoldable pub dedup : List Float → List Float
unfolding rest
dedup [] = []
dedup (x ∷ l) = x ∷ rest x l

unfoldable pub cuts : List Float → List Float
unfolding sort dedup
cuts l = dedup (sort l)

-- One more value in such a list (`cuts-cons` of Laws). Of two that are equal the one that `total_cmp` puts first stays.
unfoldable pub put : Float → List Float → List Float
put v [] = v ∷ []
put v (y ∷ l) = cond (total_le v y) (cond (eq y v) (v ∷ l) (v ∷ y ∷ l)) (cond (eq v y) (y ∷ l) (y ∷ put v l))
