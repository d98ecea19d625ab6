-- Where the ends of a half are in order and lie within ±8, as those of a joint's interval do, and the root finder takes the bounds of its chart, all its
-- values lie within ±32, so that its cuts can be streamed.
use Rattle.std.specs.Prelude.{Some, Bool, ◌&&◌, cond, pos}
use Rattle.std.proofs.Math.Bool.{true, false}
use mathlib.Core.List.{List, [], ◌∷◌, ◌++◌, flat_map}
use Rattle.std.proofs.Math.Dec.{T}
use Rattle.std.specs.Float.Ieee.{Float, neg, le}
use Rattle.std.specs.Float.{fin, binary64}
use Rattle.std.specs.Float.Ieee.Scale.{finite}
use Rattle.std.specs.Float.Ieee.Fits.{and_i}
use Rattle.float.specs.Number.{◌⊕◌, ◌⊗◌, middle, zero_float, one_float, two_float}
use Rattle.float.specs.Trig.{widest}
use Rattle.float.specs.Promises.Order.{Within, Span}
use Rattle.float.specs.Laws.Within.{weaken, numeral, add_within, mul_within, within→Le, Le→within}
use Rattle.float.specs.Laws.Interval.{in_of, Le-trans}
use Rattle.float.specs.Laws.Middle.{middle_within, left_half, right_half}
use Rattle.float.specs.Laws.Arctangent.{atan_within}
use Rattle.polynomial.specs.Angle.{two_pi}
use Rattle.polynomial.specs.Roots.{roots}
use Rattle.polynomial.specs.Laws.Bisection as Bisection
use Rattle.polynomial.specs.Laws.Enclosed.{all_in, between_number}
use Rattle.polynomial.specs.declared.compensated.Compensated.{Compensated}
use Rattle.polynomial.specs.declared.curve.Curve.{Curve}
use Rattle.polynomial.specs.Promises.Lists.{All}
use Rattle.polynomial.specs.Laws.Lists.{all_append}
use Rattle.sampling.specs.Samples.{inside, copies, all_copies}
use Rattle.sampling.specs.CriticalSlices.{Chart, chart, angles, chart_roots, all_polynomials, calls, critical}
use Rattle.sampling.specs.Promises.Charts.{Bounded, Charted}
use Rattle.sampling.specs.Promises.Halves.{half_values}
use Rattle.sampling.specs.J1j2free.{curves, bends, half_cuts, first_half, second_half}
use Rattle.sampling.specs.Promises.Stream.{Woven}
use Rattle.sampling.proofs.Laws.J1j2free.{half_fit, half_cuts_are}
use Rattle.sampling.proofs.Laws.Limits.{Ends, ends_span}
use Rattle.sampling.proofs.Laws.Woven.{Small, cuts_woven}
use Rattle.sampling.specs.declared.j1j2free.Folded.{Folded}

abbrev pub eight : Float
eight = fin false 1 (pos 3)

-- what lies within ±8 lies within ±32
pub all_small : (l : List Float) → All (Within eight) l → All Small l
all_small [] h = tt
all_small (x ∷ l) h = (weaken widest tt h.0, all_small l h.1)

-- ---- what the curves give

angles_small : (origin lower upper : Float) → Within eight origin → (l : List Float) → All (Bisection.Between lower upper) l → All Small (angles origin l)
unfolding angles
angles_small origin lower upper o [] h = tt
angles_small origin lower upper o (u ∷ l) h =
    let a = mul_within binary64 eight tt (numeral two_float two_float tt) (atan_within u (between_number h.0)) in
    (add_within binary64 widest tt o a, angles_small origin lower upper o l h.1)

-- a chart whose origin lies within ±8
module _ (c : Chart) (o : Within eight c.origin) (b : Bounded c) where
  chart_roots_small : (p : List Compensated) → All Small (chart_roots c p)
  unfolding chart_roots
  chart_roots_small p = angles_small c.origin c.lower c.upper o (roots p c.lower c.upper) (all_in c.lower c.upper b p)

  calls_small : (ps : List (List Compensated)) → All Small (flat_map (chart_roots c) ps)
  unfolding flat_map
  calls_small [] = tt
  calls_small (p ∷ ps) = all_append Small (chart_roots c p) (flat_map (chart_roots c) ps) (chart_roots_small p) (calls_small ps)

  critical_small : (l : List Curve) → All Small (critical c l)
  unfolding critical
  critical_small l = calls_small (calls (all_polynomials c.origin l))

-- ---- copies

module _ (lower upper : Float) (s : Span 3 lower upper) where
  between_within : (x : Float) → T (le lower x) → T (le x upper) → Within eight x
  between_within x a b =
      let i = in_of lower upper x (and_i (finite lower) (finite upper) s.lo_within.real s.hi_within.real) a b in
      Le→within tt (Le-trans i.upper (within→Le tt tt s.hi_within).0) (Le-trans (within→Le tt tt s.lo_within).1 i.lower)

  inside_within : (x : Float) → All (Within eight) (inside lower upper x)
  unfolding inside
  inside_within x = go (le lower x) (le x upper) (between_within x)
    where
      go : (a b : Bool) → (T a → T b → Within eight x) → All (Within eight) (cond (a && b) (x ∷ []) [])
      go true true f = (f tt tt, tt)
      go true false f = tt
      go false b f = tt

  pub copies_within : (angle : Float) → All (Within eight) (copies lower upper angle)
  unfolding copies
  copies_within angle =
      let at : Float → List Float = λ w. inside lower upper (angle ⊕ w ⊗ two_pi) in
      let within : (w : Float) → All (Within eight) (at w) = λ w. inside_within (angle ⊕ w ⊗ two_pi) in
      all_append (Within eight) (at (neg one_float) ++ at zero_float) (at one_float)
      (all_append (Within eight) (at (neg one_float)) (at zero_float) (within (neg one_float)) (within zero_float)) (within one_float)

  all_copies_small : (l : List Float) → All Small (all_copies lower upper l)
  unfolding all_copies
  all_copies_small [] = tt
  all_copies_small (a ∷ l) =
      all_append Small (copies lower upper a) (all_copies lower upper l) (all_small (copies lower upper a) (copies_within a)) (all_copies_small l)

  -- ---- a half

  origin_within : Within eight (chart lower upper).origin
  unfolding chart
  origin_within = middle_within s

  module _ (t : Folded) (b : Bounded (chart lower upper)) where
    pub half_small : All Small (half_values (curves t) (bends t) lower upper)
    half_small =
        let ends = lower ∷ [] ++ upper ∷ [] in
        let c = critical (chart lower upper) (curves t) in
        let small = all_small ends (s.lo_within, (s.hi_within, tt)) in
        all_append Small (ends ++ c) (all_copies lower upper (bends t))
        (all_append Small ends c small (critical_small (chart lower upper) origin_within b (curves t))) (all_copies_small (bends t))

    pub half_woven : Woven (half_cuts t lower upper)
    half_woven = rw (half_cuts_are t lower upper s.lo_fits s.hi_fits)
        (cuts_woven (half_values (curves t) (bends t) lower upper) (half_fit t lower upper s.lo_fits s.hi_fits) half_small)

-- The cuts of both halves of a joint's interval can be streamed.
pub halves_woven : (t : Folded) {lower upper : Float} → Ends lower upper → Charted (Some (lower, upper))
    → Woven (first_half t lower upper) × Woven (second_half t lower upper)
unfolding first_half second_half
halves_woven t {lower} {upper} e c =
    let s = ends_span e in
    (half_woven lower (middle lower upper) (left_half s) t c.0, half_woven (middle lower upper) upper (right_half s) t c.1)
