-- What the loop of `chart` keeps: the angles that are left, put into the first n places, give all of them
-- put into what stood at the front at first; behind them stands what stood there.
use Prim.Native.Nat.{ℕ, suc, ◌+◌, ◌≤◌, ◌<◌}
use native.Mathlib.Nat.{le_refl}
use native.Mathlib.Numerals.{add-one}
use native.Mathlib.Omega.{arith}
use mathlib.Core.Path.{◌≡◌, refl, sym, ap, ap₂, ◌∙◌}
use mathlib.Core.List.{List, [], ◌∷◌, ◌++◌}
use lib.ListN.{length, get_or, take, drop, length-take}
use lib.Seq.{drop-cons, drop-length}
use lib.Ieee.{Float}
use Rattle.float.specs.Number.{◌⊕◌, ◌⊗◌, two_float}
use Rattle.float.specs.Trig.{atan}
use Rattle.polynomial.specs.Angle.{wrapped_angle}
use Rattle.polynomial.specs.Cuts.{put}
use Rattle.polynomial.specs.Curve.{chart_angles}
use Rattle.polynomial.specs.Promises.Norm.{put_all}
use Rattle.polynomial.proofs.roots.Cycle.{put_room}
use Rattle.polynomial.specs.Promises.Front.{Front}
use Rattle.polynomial.proofs.roots.Kept.{front_of, front_take, front_rest, put_least}

pub record Charted (origin : Float) (found : List Float) (all from : List Float) (k : ℕ) (out : List Float) (n i : ℕ) : Type 0 where
  pub within : i ≤ length found
  pub few : n ≤ k + i
  pub room : k + length found ≤ length from
  pub same : length out ≡ length from
  pub grown : k ≤ n
  pub rest : (m : ℕ) → n ≤ m → drop m out ≡ drop m from
  pub result : put_all (chart_angles origin (drop i found)) (take n out) ≡ all

module _ (origin : Float) (found : List Float) where
  pub charted_first : (out : List Float) (k : ℕ) → k + length found ≤ length out
      → Charted origin found (put_all (chart_angles origin found) (take k out)) out k out k 0
  charted_first out k r = record { within = omega arith; few = omega arith; room = r; same = refl; grown = le_refl k; rest = λ m h. refl; result = refl }

  module _ (all from : List Float) (k : ℕ) (out : List Float) (n i : ℕ) (s : Charted origin found all from k out n i) where
    pub charted_room : i < length found → n < length out
    charted_room I = let a = s.few in let r = s.room in let e = s.same in omega arith

    module _ (d : Float) (I : i < length found) where
      angles_cons : chart_angles origin (drop i found) ≡ wrapped_angle (origin ⊕ two_float ⊗ atan (get_or found i d)) ∷ chart_angles origin
          (drop (suc i) found)
      unfolding chart_angles
      angles_cons = ap (chart_angles origin) (drop-cons found i d I)

      -- the angle v is worked out from a, and put
      pub charted_more : (two a v : Float) (m : ℕ) (after : List Float) → two ≡ two_float → a ≡ atan (get_or found i d) → v ≡ wrapped_angle (origin ⊕ two ⊗ a)
          → m ≡ length (put v (take n out)) → after ≡ put v (take n out) ++ drop m out → length after ≡ length out
          → Charted origin found all from k after m (i + 1)
      unfolding put_all
      charted_more two a v m after t x y M E L =
          let p = put_room v n out m M in
          let f = s.few in
          let g = s.grown in
          let q = charted_room I in
          let o = put_least v out n m (omega arith) M in
          let w = y ∙ ap₂ (λ (b c : Float). wrapped_angle (origin ⊕ b ⊗ c)) t x in
          record {
            within = omega arith;
            few = omega arith;
            room = s.room;
            same = L ∙ s.same;
            grown = omega arith;
            rest = λ r h. front_rest (put v (take n out)) out after m (M, E) r h ∙ s.rest r (omega arith);
            result =
                ap₂ (λ (j : ℕ) (l : List Float). put_all (chart_angles origin (drop j found)) l) (add-one i)
                (front_take (put v (take n out)) out after m (M, E) ∙ ap (λ (z : Float). put z (take n out)) w)
                ∙ ap (λ (l : List Float). put_all l (take n out)) (sym angles_cons)
                ∙ s.result;
          }

    pub charted_last : length found ≤ i → Front all from n out
    unfolding put_all chart_angles
    charted_last c =
        let a = s.within in
        let b = s.few in
        let r = s.room in
        let y = s.same in
        let e : i ≡ length found = omega arith in
        let z : drop i found ≡ [] = ap (λ (j : ℕ). drop j found) e ∙ drop-length found in
        let t : take n out ≡ all = sym (ap (λ (l : List Float). put_all (chart_angles origin l) (take n out)) z) ∙ s.result in
        front_of all from out n (omega (arith, length-take n out, ap length t)) t (s.rest n (le_refl n))
