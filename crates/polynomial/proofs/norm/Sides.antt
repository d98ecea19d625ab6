-- The two halves of `squared_norm_roots`: the angles of each inner call, that there is room for those of both, and that these, put one after the other, are
-- the list of cuts, with what stood there behind it.
use Prim.Native.Nat.{ℕ, ◌+◌, ◌≤◌}
use native.Mathlib.Nat.{le_refl, le_trans}
use native.Mathlib.Omega.{arith}
use mathlib.Core.Path.{◌≡◌, sym, ap, ap₂, ◌∙◌}
use mathlib.Core.List.{List, [], ◌∷◌, ◌++◌, append-nil, append_assoc}
use lib.ListN.{length, take, drop}
use lib.Ieee.{Float, neg}
use Rattle.float.specs.Number.{middle, zero_float, one_float}
use Rattle.float.specs.Trig.{P}
use Rattle.polynomial.specs.Cuts.{cuts, put}
use Rattle.polynomial.specs.Curve.{norm_polynomial, chart_angles, half_roots, squared_norm_roots}
use Rattle.polynomial.specs.Promises.Norm.{put_all}
use Rattle.polynomial.specs.Roots.{roots}
use Rattle.polynomial.specs.declared.compensated.Compensated.{Compensated}
use Rattle.polynomial.specs.declared.curve.Harmonic.{Harmonic}
use Rattle.polynomial.specs.Promises.Lists.{Fit}
use Rattle.polynomial.specs.Laws.Cuts.{cuts_snoc, put_most, put_longer, fit_append}
use Rattle.polynomial.specs.Laws.Norm.{inner_few, half_roots_few}
use Rattle.polynomial.specs.Laws.Wrapped.{wrapped_fits}
use Rattle.polynomial.specs.Promises.Front.{Front}
use Rattle.polynomial.proofs.roots.Kept.{front_take, front_rest}

-- ---- values put one after the other

put_all_cuts : (vs l : List Float) → Fit l → Fit vs → put_all vs (cuts l) ≡ cuts (l ++ vs)
unfolding put_all
put_all_cuts [] l f g = ap cuts (sym (append-nil l))
put_all_cuts (v ∷ vs) l f g =
    ap (put_all vs) (sym (cuts_snoc l v f g.0))
    ∙ put_all_cuts vs (l ++ v ∷ []) (fit_append l (v ∷ []) f (g.0, tt)) g.1
    ∙ ap cuts (append_assoc l (v ∷ []) vs)

put_all_most : (vs l : List Float) → length (put_all vs l) ≤ length vs + length l
unfolding put_all
put_all_most [] l = omega arith
put_all_most (v ∷ vs) l = let a = put_all_most vs (put v l) in let b = put_most v l in omega arith

put_all_least : (vs l : List Float) → length l ≤ length (put_all vs l)
unfolding put_all
put_all_least [] l = le_refl (length l)
put_all_least (v ∷ vs) l = le_trans (put_longer v l) (put_all_least vs (put v l))

fit_angles : (o : Float) (us : List Float) → Fit (chart_angles o us)
unfolding chart_angles
fit_angles o [] = tt
fit_angles o (u ∷ us) = (wrapped_fits _, fit_angles o us)

-- ---- one half

module _ (x y : Harmonic) (norm lower upper : Float) where
  -- the inner call's count and list, by the origin, the polynomial and the code's 1.0
  module _ (o one : Float) (p : List Compensated) (n : ℕ) (before last : List Float) (e : o ≡ middle lower upper) (q : p ≡ norm_polynomial x y norm o)
      (i : one ≡ one_float) (f : Front (roots p (neg one) one) before n last) where
    pub half_angles : chart_angles o (take n last) ≡ half_roots x y norm lower upper
    unfolding half_roots
    half_angles =
        let l = ap₂ (λ (s : List Compensated) (u : Float). roots s (neg u) u) (q ∙ ap (norm_polynomial x y norm) e) i in
        ap₂ chart_angles e (front_take (roots p (neg one) one) before last n f ∙ l)

    pub half_count : n ≤ 29
    half_count = let a = inner_few x y norm o (neg one) one in let b = ap (λ (s : List Compensated). length (roots s (neg one) one)) q in omega (arith, f.0)

  fit_half : Fit (half_roots x y norm lower upper)
  unfolding half_roots
  fit_half = fit_angles (middle lower upper) _

-- ---- both

module _ (x y : Harmonic) (norm : Float) where
  abbrev left : List Float
  left = half_roots x y norm (neg P) zero_float

  abbrev right : List Float
  right = half_roots x y norm zero_float P

  all : put_all right (put_all left []) ≡ squared_norm_roots x y norm
  unfolding cuts squared_norm_roots
  all =
      let f = fit_half x y norm (neg P) zero_float in
      ap (put_all right) (put_all_cuts left [] tt f) ∙ put_all_cuts right left f (fit_half x y norm zero_float P)

  -- room for the second half's angles
  pub left_room : (k : ℕ) → k ≡ length (put_all left []) → k ≤ 29
  left_room k e = let a = put_all_most left [] in let b = half_roots_few x y norm (neg P) zero_float in omega arith

  pub both_halves : (before out last : List Float) (k m : ℕ) → Front (put_all left []) before k out → Front (put_all right (take k out)) out m last
      → Front (squared_norm_roots x y norm) before m last
  both_halves before out last k m g h =
      let s = front_take (put_all left []) before out k g in
      let c : put_all right (take k out) ≡ squared_norm_roots x y norm = ap (put_all right) s ∙ all in
      let l = put_all_least right (take k out) in
      let r : drop m out ≡ drop m before = front_rest (put_all left []) before out k g m (omega (arith, g.0, h.0, ap length s)) in
      (h.0 ∙ ap length c, h.1 ∙ ap₂ ◌++◌ c r)
