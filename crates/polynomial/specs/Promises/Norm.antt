-- How the roots of a squared norm are put into the lent slice.
use Rattle.std.specs.Prelude.{List, [], ◌∷◌, Float}
use Rattle.polynomial.specs.Cuts.{put}

-- the values put one after the other into the cuts l
unfoldable pub put_all : List Float → List Float → List Float
put_all [] l = l
put_all (v ∷ vs) l = put_all vs (put v l)
