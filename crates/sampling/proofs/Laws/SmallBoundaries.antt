-- The boundary curves of two free joints and the harmonics whose norm joint 5's bend fixes: with matrix entries within 17, joint 3's angle within ±8 and ends
-- of limits within a turn, their coefficients are at most 2 ^ 7. So every squared norm that is asked for is fair.
use Rattle.std.specs.Prelude.{None, Some, ℕ, ◌≤◌, false, List, ◌++◌, pos, Float}
use Rattle.std.proofs.Common.{lit≤}
use Rattle.std.specs.Float.{fin, binary64}
use Rattle.std.specs.Float.Ieee.{neg, add, le}
use Rattle.float.specs.Number.{◌⊕◌, ◌⊗◌, abs, zero_float, one_float}
use Rattle.float.specs.Trig.{widest, sin_cos}
use Rattle.float.specs.Promises.Order.{Within}
use Rattle.float.specs.Laws.Within.{weaken, numeral, neg_within, add_within, mul_within, within→Le}
use Rattle.float.specs.Laws.Interval.{In, in_wider, in_within, add_in}
use Rattle.float.specs.Laws.Range.{within_abs}
use Rattle.float.specs.Laws.Grow.{square_plus}
use Rattle.float.specs.Laws.Root.{sqrt_within}
use Rattle.float.specs.Laws.Trigonometry.{sin_within, cos_within}
use Rattle.float.specs.Laws.Under.{Under, two_to, under_le, under_zero}
use Rattle.polynomial.specs.Angle.{two_pi}
use Rattle.polynomial.specs.InnerCalls.{Call, Fair}
use Rattle.polynomial.specs.Promises.Lists.{All}
use Rattle.polynomial.specs.declared.curve.Harmonic.{Harmonic}
use Rattle.polynomial.specs.declared.curve.Curve.{Curve}
use Rattle.polynomial.specs.Laws.Lists.{all_append}
use Rattle.polynomial.specs.Laws.Size.{one_small, minus_small}
use Rattle.polynomial.specs.Laws.SmallNorm.{Harmonic-under, norm_fair}
use Rattle.polynomial.specs.Curve.{plus, times}
use Rattle.sampling.specs.Boundaries.{level, along, across, curve, second_curve, bend_curve, fourth_curve, fifth_curve, sixth_curve}
use Rattle.sampling.specs.Boundaries.{corner_curve, second_curves, pole_curves, fourth_curves, fifth_curves}
use Rattle.sampling.specs.Boundaries.{sixth_curves, signed_corners, corner_curves, boundaries}
use Rattle.sampling.specs.BendSlices.{fold}
use Rattle.sampling.specs.InnerCalls.{at_ends, fold_calls, slice_calls}
use Rattle.sampling.specs.declared.j1j2free.Folded.{Folded}
use Rattle.sampling.specs.declared.pose.Vector.{Vector}
use Rattle.sampling.specs.declared.pose.Matrix.{Matrix}
use Rattle.sampling.proofs.Laws.Pose.{seventeen, Vector-within, Matrix-within}
use Rattle.sampling.proofs.Laws.SliceBounds.{eight}
use Rattle.sampling.proofs.Laws.SmallCurves.{Curve-under}
use Rattle.sampling.specs.Pose as Pose
use Rattle.sampling.specs.Intervals.{Range}

-- ---- numbers

pub sine_under : {x : Float} → Within widest x → Under 1 (sin_cos x).sine
sine_under {x} w = weaken (two_to 1) tt (sin_within x w)

pub cosine_under : {x : Float} → Within widest x → Under 1 (sin_cos x).cosine
cosine_under {x} w = weaken (two_to 1) tt (cos_within x w)

wide : {x : Float} → Within two_pi x → Within widest x
wide h = weaken widest tt h

-- an angle of joint 2 with that of joint 3
folded_wide : {angle q3 : Float} → Within two_pi angle → Within eight q3 → Within widest (angle ⊕ q3)
folded_wide h k = add_within binary64 widest tt h k

-- an entry of the matrix times a sine: k is 6 or 7
product : (k : ℕ) {x y : Float} → 6 ≤ k → Within seventeen x → Under 1 y → Under k (x ⊗ y)
product k l x y = under_le 6 k l (mul_within binary64 (two_to 6) tt x y)

sum : {x y : Float} → Under 6 x → Under 6 y → Under 7 (x ⊕ y)
sum x y = add_within binary64 (two_to 7) tt x y

-- a column's length
length_under : (v : Vector) → Vector-within seventeen v → Under 5 (Pose.vector_length v)
unfolding Pose.vector_length Pose.dot add le neg
length_under v h =
    let s = add_in binary64 tt (add_in binary64 tt (square h.x) (square h.y)) (square h.z) in
    sqrt_within (two_to 5) tt s.lower (in_within {B = two_to 10} tt (in_wider (neg (two_to 10)) (two_to 10) tt s))
  where
    square : {x : Float} → Within seventeen x → In zero_float (fin false 289 (pos 0)) (x ⊗ x)
    square {x} w =
        let p : Within (fin false 289 (pos 0)) (x ⊗ x) = mul_within binary64 (fin false 289 (pos 0)) tt w w in
        record { lower = square_plus x w.real p.real; upper = (within→Le tt tt p).0 }

-- ---- harmonics

level_under : (k : ℕ) {x : Float} → k ≤ 7 → Under k x → Harmonic-under 7 (level x)
unfolding level
level_under k l h = record { constant = under_le k 7 l h; cosine = under_zero 7; sine = under_zero 7 }

zero_level : Harmonic-under 7 (level zero_float)
zero_level = level_under 0 (lit≤ tt) (under_zero 0)

plus_under : {a b : Harmonic} → Harmonic-under 6 a → Harmonic-under 6 b → Harmonic-under 7 (plus a b)
unfolding plus
plus_under h k = record { constant = sum h.constant k.constant; cosine = sum h.cosine k.cosine; sine = sum h.sine k.sine }

-- those of a column, and times a sine
module _ {v : Vector} (h : Vector-within seventeen v) where
  along_under : Harmonic-under 7 (along v)
  unfolding along
  along_under = record { constant = under_zero 7; cosine = weaken (two_to 7) tt h.x; sine = weaken (two_to 7) tt h.y }

  across_under : Harmonic-under 6 (across v)
  unfolding across
  across_under = record { constant = under_zero 6; cosine = weaken (two_to 6) tt h.y; sine = neg_within (weaken (two_to 6) tt h.x) }

  module _ (k : ℕ) (l : 6 ≤ k) {factor : Float} (f : Under 1 factor) where
    none_times : Under k (zero_float ⊗ factor)
    none_times = product k l (numeral seventeen zero_float tt) f

    along_times : Harmonic-under k (times (along v) factor)
    unfolding along times
    along_times = record { constant = none_times; cosine = product k l h.x f; sine = product k l h.y f }

    across_times : Harmonic-under k (times (across v) factor)
    unfolding across times
    across_times = record { constant = none_times; cosine = product k l h.y f; sine = product k l (neg_within h.x) f }

-- ---- curves

abbrev Small : Curve → Type 0
Small c = Curve-under 7 c

curve_under : {a b c : Harmonic} → Harmonic-under 7 a → Harmonic-under 7 b → Harmonic-under 7 c → Small (curve a b c)
unfolding curve
curve_under x y z = record { a = x; b = y; c = z }

second_small : {q3 angle : Float} → Within eight q3 → Within two_pi angle → Small (second_curve q3 angle)
unfolding second_curve
second_small q a =
    let w = folded_wide a q in
    curve_under (level_under 1 (lit≤ tt) (neg_within (sine_under w))) (level_under 1 (lit≤ tt) (cosine_under w)) zero_level

bend_small : {z : Vector} {cosine : Float} → Vector-within seventeen z → Under 1 cosine → Small (bend_curve z cosine)
unfolding bend_curve
bend_small h c = curve_under (level_under 5 (lit≤ tt) (weaken (two_to 5) tt h.z)) (along_under h) (level_under 1 (lit≤ tt) (neg_within c))

fourth_small : {z : Vector} {angle : Float} → Vector-within seventeen z → Within two_pi angle → Small (fourth_curve z angle)
unfolding fourth_curve
fourth_small h a =
    let s = sine_under (wide a) in
    curve_under (along_times h 7 (lit≤ tt) (neg_within s)) (level_under 6 (lit≤ tt) (product 6 (lit≤ tt) h.z s))
    (across_times h 7 (lit≤ tt) (cosine_under (wide a)))

fifth_small : {z : Vector} {angle : Float} → Vector-within seventeen z → Within two_pi angle → Small (fifth_curve z angle)
unfolding fifth_curve
fifth_small h a = bend_small h (cosine_under (wide a))

-- two products' sum
both_under : {x y s c : Float} → Within seventeen x → Within seventeen y → Under 1 c → Under 1 s → Harmonic-under 7 (level (x ⊗ c ⊕ y ⊗ s))
both_under x y c s = level_under 7 (lit≤ tt) (sum (product 6 (lit≤ tt) x c) (product 6 (lit≤ tt) y s))

sixth_small : {m : Matrix} {angle : Float} → Matrix-within seventeen m → Within two_pi angle → Small (sixth_curve m angle)
unfolding sixth_curve
sixth_small h a =
    let s = sine_under (wide a) in
    let c = cosine_under (wide a) in
    curve_under (both_under h.y.z h.x.z c s) (plus_under (along_times h.y 6 (lit≤ tt) c) (along_times h.x 6 (lit≤ tt) s)) zero_level

corner_small : {m : Matrix} {sign q4 q6 : Float} → Matrix-within seventeen m → Within one_float sign → Within two_pi q4 → Within two_pi q6
    → Small (corner_curve m sign q4 q6)
unfolding corner_curve
corner_small {m} {sign} {q4} {q6} h g a b =
    let w : Within widest (q4 ⊕ sign ⊗ q6) = add_within binary64 widest tt a (mul_within binary64 two_pi tt g b) in
    let s = sine_under w in
    let c = cosine_under w in
    curve_under
    (plus_under (along_times h.y 6 (lit≤ tt) (neg_within c)) (along_times h.x 6 (lit≤ tt) (mul_within binary64 (two_to 1) tt (neg_within g) s)))
    (both_under h.y.z (mul_within binary64 seventeen tt g h.x.z) c s)
    (plus_under (across_times h.x 6 (lit≤ tt) (mul_within binary64 (two_to 1) tt g c)) (across_times h.y 6 (lit≤ tt) (neg_within s)))

-- ---- all curves

-- none, or both ends within a turn
pub data Ranged : Range → Type 0 where
  none : Ranged None
  some : {lower upper : Float} → Within two_pi lower → Within two_pi upper → Ranged (Some (lower, upper))

second_all : {q3 : Float} {r : Range} → Within eight q3 → Ranged r → All Small (second_curves q3 r)
unfolding second_curves
second_all q none = tt
second_all q (some a b) = (second_small q a, (second_small q b, tt))

pole_all : {z : Vector} → Vector-within seventeen z → All Small (pole_curves z)
unfolding pole_curves
pole_all h = (bend_small h (under_le 0 1 (lit≤ tt) minus_small), (bend_small h (under_le 0 1 (lit≤ tt) one_small), tt))

fourth_all : {z : Vector} {r : Range} → Vector-within seventeen z → Ranged r → All Small (fourth_curves z r)
unfolding fourth_curves
fourth_all h none = tt
fourth_all h (some a b) = (fourth_small h a, (fourth_small h b, tt))

fifth_all : {z : Vector} {r : Range} → Vector-within seventeen z → Ranged r → All Small (fifth_curves z r)
unfolding fifth_curves
fifth_all h none = tt
fifth_all h (some a b) = (fifth_small h a, (fifth_small h b, tt))

sixth_all : {m : Matrix} {r : Range} → Matrix-within seventeen m → Ranged r → All Small (sixth_curves m r)
unfolding sixth_curves
sixth_all h none = tt
sixth_all h (some a b) = (sixth_small h a, (sixth_small h b, tt))

signed_all : {m : Matrix} {sign a b c d : Float} → Matrix-within seventeen m → Within one_float sign → Within two_pi a → Within two_pi b
    → Within two_pi c → Within two_pi d → All Small (signed_corners m sign a b c d)
unfolding signed_corners
signed_all h g a b c d = (corner_small h g a c, (corner_small h g a d, (corner_small h g b c, (corner_small h g b d, tt))))

corner_all : {m : Matrix} {r s : Range} → Matrix-within seventeen m → Ranged r → Ranged s → All Small (corner_curves m r s)
unfolding corner_curves
corner_all h none s = tt
corner_all h (some a b) none = tt
corner_all {m} h (some {lower = p} {upper = q} a b) (some {lower = r} {upper = s} c d) =
    all_append Small (signed_corners m (neg one_float) p q r s) (signed_corners m one_float p q r s)
    (signed_all h minus_small a b c d) (signed_all h one_small a b c d)

pub boundaries_small : (m : Matrix) (q3 : Float) (range2 range4 range5 range6 : Range) → Matrix-within seventeen m → Within eight q3
    → Ranged range2 → Ranged range4 → Ranged range5 → Ranged range6
    → All (Curve-under 7) (boundaries m q3 range2 range4 range5 range6)
unfolding boundaries
boundaries_small m q3 range2 range4 range5 range6 h q a b c d =
    let to-poles = second_curves q3 range2 ++ pole_curves m.z in
    let to-fourth = to-poles ++ fourth_curves m.z range4 in
    let to-fifth = to-fourth ++ fifth_curves m.z range5 in
    all_append Small (to-fifth ++ sixth_curves m range6) (corner_curves m range4 range6)
    (all_append Small to-fifth (sixth_curves m range6)
    (all_append Small to-fourth (fifth_curves m.z range5)
    (all_append Small to-poles (fourth_curves m.z range4)
    (all_append Small (second_curves q3 range2) (pole_curves m.z) (second_all q a) (pole_all h.z)) (fourth_all h.z b))
    (fifth_all h.z c))
    (sixth_all h d))
    (corner_all h b d)

-- ---- joint 2 at an end of its limits, joint 5 at an end of its own

fold_under : {z : Vector} {angle : Float} → Vector-within seventeen z → Within widest angle → Harmonic-under 6 (fold z angle)
unfolding fold
fold_under h w = record {
  constant = product 6 (lit≤ tt) (neg_within h.z) (sine_under w);
  cosine = product 6 (lit≤ tt) h.x (cosine_under w);
  sine = product 6 (lit≤ tt) h.y (cosine_under w);
}

fold_fair : {z : Vector} {q3 angle5 angle2 : Float} → Vector-within seventeen z → Within eight q3 → Within two_pi angle5 → Within two_pi angle2
    → All Fair (fold_calls z q3 angle5 angle2)
unfolding fold_calls
fold_fair {z} {q3} {angle5} {angle2} h q a b =
    norm_fair 6 (fold z (angle2 ⊕ q3)) (across z) (Pose.vector_length z ⊗ abs (sin_cos angle5).sine) (lit≤ tt) (fold_under h (folded_wide b q))
    (across_under h) (mul_within binary64 (two_to 6) tt (length_under z h) (within_abs (sine_under (wide a))))

ends_fair : (f : Float → List Call) {r : Range} → Ranged r → ((x : Float) → Within two_pi x → All Fair (f x)) → All Fair (at_ends f r)
ends_fair f none h = tt
ends_fair f (some {lower} {upper} a b) h = all_append Fair (f lower) (f upper) (h lower a) (h upper b)

pub slices_fair : (t : Folded) → Matrix-within seventeen t.matrix → Within eight t.q3 → Ranged t.range2 → Ranged t.range5
    → All Fair (slice_calls t)
unfolding slice_calls
slices_fair t h q a b =
    let f = fold_calls t.matrix.z t.q3 in
    ends_fair (λ x. at_ends (f x) t.range2) b (λ x u. ends_fair (f x) a (λ y v. fold_fair h.z q u v))
