-- The curves of both ends of a range, where those of an angle are known.
use Rattle.std.specs.Prelude.{None, Some, Float}
use Rattle.std.specs.Float.Ieee.{neg}
use mathlib.Core.Path.{◌≡◌, sym, ◌∙◌}
use mathlib.Core.List.{List, [], ◌∷◌, ◌++◌, append-nil}
use Rattle.polynomial.specs.declared.curve.Curve.{Curve}
use Rattle.float.specs.Number.{one_float}
use Rattle.sampling.specs.Boundaries.{bend_curve, pole_curves}
use Rattle.sampling.specs.Intervals.{Range}
use Rattle.sampling.specs.Promises.Curves.{AtEnds}
use Rattle.sampling.specs.declared.pose.Vector.{Vector}

-- `one` is the curve of an angle, `all` are those of both ends
pub ends : {Is : Float → Curve → Type 0} {new : List Curve} (old : List Curve) (range : Range) (one : Float → Curve) (all : Range → List Curve)
    → all None ≡ [] → ((a b : Float) → all (Some (a, b)) ≡ one a ∷ [] ++ one b ∷ []) → ((a : Float) (c : Curve) → Is a c → c ≡ one a)
    → AtEnds Is range old new → new ≡ old ++ all range
ends old None one all none some is e = e ∙ sym (append-nil old) ∙ (λ i. old ++ sym none i)
ends old (Some (a, b)) one all none some is (c, d, x, y, e) =
    e ∙ (λ i. old ++ (is a c x i ∷ (is b d y i ∷ []))) ∙ (λ i. old ++ sym (some a b) i)

pub poles : (old new : List Curve) (z : Vector) (a b : Curve) → a ≡ bend_curve z (neg one_float) → b ≡ bend_curve z one_float
    → new ≡ old ++ (a ∷ [] ++ b ∷ []) → new ≡ old ++ pole_curves z
unfolding pole_curves
poles old new z a b x y e = e ∙ (λ i. old ++ (x i ∷ (y i ∷ [])))
