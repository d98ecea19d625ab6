-- What the loop of `scan` keeps, from its first point to its last: the first k places hold the cuts so far, behind them
-- stands what stood there at the loop's start, and a run over the points to come gives the whole.
use Prim.Native.Nat.{ℕ, suc, ◌+◌, ◌≤◌, ◌<◌}
use native.Mathlib.Nat.{le_refl}
use native.Mathlib.Numerals.{add-one}
use native.Mathlib.Omega.{arith}
use mathlib.Core.Path.{◌≡◌, refl, sym, ap, subst, ◌∙◌}
use mathlib.Core.List.{List, [], ◌∷◌}
use lib.ListN.{length, get_or, take, drop, length-take}
use lib.Seq.{slice, slice-cons, slice_empty}
use lib.Ieee.{Float}
use Rattle.float.specs.Promises.Order.{Span}
use Rattle.polynomial.specs.Polynomial.{evaluate}
use Rattle.polynomial.specs.Promises.Inside.{Ready, Stands, touched, crossed, found}
use Rattle.polynomial.specs.declared.compensated.Compensated.{Compensated}
use Rattle.polynomial.specs.Promises.Front.{Front}
use Rattle.polynomial.proofs.roots.Kept.{front_of, front_take, front_rest, front_length}
use Rattle.polynomial.proofs.roots.Events.{between, run, scanned, touched_most, touched_least, crossed_most, crossed_least}

-- a crossing sees the signs of the values alone, and whether one is zero
across : (f : Float → Float) (lo hi u v u' v' : Float) (l : List Float) → Stands u u' → Stands v v'
    → crossed f lo hi u v l ≡ crossed f lo hi u' v' l
across f lo hi u v u' v' l a b = simp (a.0, a.1, b.0, b.1)

run_on : (p : List Compensated) (l : List Float) (a b : Float) (r : List Float)
    → run p (between p a b (touched p b l)) b r ≡ run p l a (b ∷ r)
unfolding run
run_on p l a b r = refl

-- ---- the loop

pub record Scanned (p : List Compensated) (points : List Float) (count : ℕ) (from : List Float) (first : ℕ) (out : List Float) (lo u : Float)
    (k i : ℕ) : Type 0 where
  pub within : i ≤ count
  pub few : k < i + i
  pub same : length out ≡ length from
  pub room : count + count ≤ length from
  pub grown : first ≤ k
  pub rest : (m : ℕ) → k ≤ m → drop m out ≡ drop m from
  pub ready : Ready (lo ∷ slice i count points)
  pub value : Stands u (evaluate p lo)
  pub result : run p (take k out) lo (slice i count points) ≡ found p (take count points)

module _ (p : List Compensated) (points : List Float) (count : ℕ) (h : count ≤ length points) where
  pub scan_first : (room : List Float) (d u : Float) (k : ℕ) (out : List Float) → count + count ≤ length room → 0 < count → Ready (take count points)
      → Stands u (evaluate p (get_or points 0 d))
      → Front (touched p (get_or points 0 d) (take 0 room)) room k out → Scanned p points count out k out (get_or points 0 d) u k 1
  scan_first room d u k out w z ready e f =
      let x = get_or points 0 d in
      let s : take count points ≡ x ∷ slice 1 count points = slice-cons 0 count points d z h in
      let y : Ready (x ∷ slice 1 count points) = subst Ready s ready in
      let m = touched_most p x [] in
      let j : k ≤ 1 = omega (arith, f.0) in
      record {
        within = omega arith;
        few = omega arith;
        same = refl;
        room = let l = front_length (touched p x []) room out k f (omega arith) in omega arith;
        grown = le_refl k;
        rest = λ m h. refl;
        ready = y;
        value = e;
        result =
            ap (λ (l : List Float). run p l x (slice 1 count points)) (front_take (touched p x []) room out k f)
            ∙ scanned p x (slice 1 count points) y
            ∙ ap (found p) (sym s);
      }

  module _ (from : List Float) (first : ℕ) (out : List Float) (lo u : Float) (k i : ℕ) (s : Scanned p points count from first out lo u k i)
      (c : i < count) (d x : Float) (ex : x ≡ get_or points i d) where
    at_i : slice i count points ≡ x ∷ slice (suc i) count points
    at_i = slice-cons i count points d c h ∙ ap (λ (y : Float). y ∷ slice (suc i) count points) (sym ex)

    coming : Ready (lo ∷ (x ∷ slice (suc i) count points))
    coming = subst (λ (l : List Float). Ready (lo ∷ l)) at_i s.ready

    pub span : Span 2 lo x
    span = coming.0

    module _ (v : Float) (k₁ : ℕ) (out₁ : List Float) (e : Stands v (evaluate p x))
        (f : Front (touched p x (take k out)) out k₁ out₁) where
      touched_few : k₁ ≤ suc k
      touched_few =
          let m = touched_most p x (take k out) in
          omega (arith, f.0, length-take k out)

      touched_more : k ≤ k₁
      touched_more =
          let m = touched_least p x (take k out) in
          let a = s.few in
          let b = s.room in
          let y = s.same in
          omega (arith, f.0, length-take k out)

      touched_same : length out₁ ≡ length out
      touched_same =
          let a = touched_few in
          let b = s.few in
          let r = s.room in
          let y = s.same in
          front_length (touched p x (take k out)) out out₁ k₁ f (omega arith)

      pub cross_room : k₁ < length out₁
      cross_room = let a = touched_few in let b = touched_same in let r = s.few in let q = s.room in let y = s.same in omega arith

      pub scan_more : (k₂ : ℕ) (out₂ : List Float)
          → Front (crossed (evaluate p) lo x u v (take k₁ out₁)) out₁ k₂ out₂
          → Scanned p points count from first out₂ x v k₂ (i + 1)
      scan_more k₂ out₂ g =
          let m = crossed_most (evaluate p) lo x u v (take k₁ out₁) in
          let n = crossed_least (evaluate p) lo x u v (take k₁ out₁) in
          let z = touched_more in
          let t = length-take k₁ out₁ in
          let a = touched_few in
          let b = touched_same in
          let q = s.few in
          let o = s.room in
          let y = s.same in
          let j : k₂ ≤ suc k₁ = omega (arith, g.0) in
          let w : k₁ ≤ k₂ = omega (arith, g.0) in
          let older = s.grown in
          let l : length out₂ ≡ length out₁ = front_length (crossed (evaluate p) lo x u v (take k₁ out₁)) out₁ out₂ k₂ g (omega arith) in
          record {
            within = omega arith;
            few = omega arith;
            same = l ∙ b ∙ s.same;
            room = s.room;
            grown = omega arith;
            rest = λ r h.
                front_rest (crossed (evaluate p) lo x u v (take k₁ out₁)) out₁ out₂ k₂ g r h
                ∙ front_rest (touched p x (take k out)) out out₁ k₁ f r (omega arith)
                ∙ s.rest r (omega arith);
            ready = rw add-one coming.1;
            value = e;
            result =
                ap (λ (n : ℕ). run p (take k₂ out₂) x (slice n count points)) (add-one i)
                ∙ ap (λ (y : List Float). run p y x (slice (suc i) count points))
                (front_take (crossed (evaluate p) lo x u v (take k₁ out₁)) out₁ out₂ k₂ g
                ∙ across (evaluate p) lo x u v (evaluate p lo) (evaluate p x) (take k₁ out₁) s.value e
                ∙ ap (between p lo x) (front_take (touched p x (take k out)) out out₁ k₁ f))
                ∙ run_on p (take k out) lo x (slice (suc i) count points)
                ∙ ap (λ (y : List Float). run p (take k out) lo y) (sym at_i)
                ∙ s.result;
          }

  -- `room` was lent, and the first point looked at there
  pub scan_last : (room from : List Float) (d : Float) (first : ℕ) (out : List Float) (lo u : Float) (k i : ℕ)
      → Front (touched p (get_or points 0 d) (take 0 room)) room first from → Scanned p points count from first out lo u k i → count ≤ i
      → Front (found p (take count points)) room k out
  unfolding run
  scan_last room from d first out lo u k i f s c =
      let a = s.within in
      let b = s.few in
      let r = s.room in
      let y = s.same in
      let e : i ≡ count = omega arith in
      let n : slice i count points ≡ [] = ap (λ (j : ℕ). slice j count points) e ∙ slice_empty count points in
      let t : take k out ≡ found p (take count points) = sym (ap (run p (take k out) lo) n) ∙ s.result in
      front_of _ room out k (omega (arith, length-take k out, ap length t)) t
      (s.rest k (le_refl k) ∙ front_rest (touched p (get_or points 0 d) []) room from first f k s.grown)
