-- The polynomials that the root finder is asked about, curve by curve: a curve more at the list's end asks for its own tangency and for its
-- intersection with each earlier curve, and for nothing else.
use Prim.Native.Nat.{ℕ, zero, suc, ◌+◌, ◌≤◌, ◌<◌}
use Rattle.std.proofs.Common.{arith, ◌∙◌, length-append, eq-eqb, ne_eqb}
use Rattle.std.specs.Prelude.{◌≡◌, take, Float}
use Rattle.std.proofs.Math.Path.{refl, sym, ap}
use mathlib.Core.List.{List, [], ◌∷◌, ◌++◌, map, flat_map, append_assoc, map-append}
use Rattle.std.proofs.Math.ListN.{length, get_or-append}
use Rattle.std.proofs.Math.Seq.{take-suc, take-length, take-append_seam, get_or-append_seam}
use Rattle.polynomial.specs.Promises.Lists.{All}
use Rattle.polynomial.specs.declared.compensated.Compensated.{Compensated}
use Rattle.polynomial.specs.declared.curve.Curve.{Curve}
use Rattle.sampling.specs.Pairs.{earlier, order}
use Rattle.sampling.specs.CriticalSlices.{Chart, Polynomials, polynomials, all_polynomials, tangency, intersection, chart_roots}
use Rattle.sampling.specs.CriticalSlices.{nowhere, at, asked, calls, critical}
use Rattle.sampling.specs.Promises.Numerators.{meetings}
use Rattle.sampling.proofs.Laws.Pairs.{Placed, order_placed, added, order_added}

-- ---- what is asked, place by place

-- a curve with itself, and with an earlier one
pub asked_own : (ks : List Polynomials) (j : ℕ) → asked ks (j, j) ≡ tangency (at ks j)
unfolding asked
asked_own ks j = rw (eq-eqb j j refl)

pub asked_pair : (ks : List Polynomials) (i j : ℕ) → i < j → asked ks (i, j) ≡ intersection (at ks i) (at ks j)
unfolding asked
asked_pair ks i j h = rw (ne_eqb i j (λ e. omega arith))

module _ (ks more : List Polynomials) where
  asked_before : (p : ℕ × ℕ) → Placed (length ks) p → asked (ks ++ more) p ≡ asked ks p
  unfolding asked
  asked_before p h = rw (get_or-append ks more nowhere p.0 (omega arith), get_or-append ks more nowhere p.1 h.1)

  all_before : (ps : List (ℕ × ℕ)) → All (Placed (length ks)) ps → map (asked (ks ++ more)) ps ≡ map (asked ks) ps
  all_before [] h = refl
  all_before (p ∷ ps) h = λ i. asked_before p h.0 i ∷ all_before ps h.1 i

  -- with more curves at the list's end, all that was asked is asked first, as it was
  abbrev new_calls : List (List Compensated)
  new_calls = map (asked (ks ++ more)) (added (length ks) (length more))

  calls_added : calls (ks ++ more) ≡ calls ks ++ new_calls
  unfolding calls
  calls_added =
      let n = length ks in
      let m = length more in
      let split = map-append (asked (ks ++ more)) (order n) (added n m) in
      ap (λ (s : ℕ). map (asked (ks ++ more)) (order s)) (length-append ks more) ∙ ap (map (asked (ks ++ more))) (order_added n m) ∙ split
      ∙ ap (λ (l : List (List Compensated)). l ++ new_calls) (all_before (order n) (order_placed n))

  pub calls_front : take (length (calls ks)) (calls (ks ++ more)) ≡ calls ks
  calls_front = rw calls_added (take-append_seam (calls ks) new_calls)

module _ (ks : List Polynomials) (k : Polynomials) where
  abbrev grown : List Polynomials
  grown = ks ++ (k ∷ [])

  last : at grown (length ks) ≡ k
  last = get_or-append_seam ks k [] nowhere

  earlier_asked : (i : ℕ) → i ≤ length ks → map (asked grown) (earlier i (length ks)) ≡ meetings (take i ks) k
  unfolding earlier
  earlier_asked zero h = refl
  earlier_asked (suc i) h =
      let one : asked grown (i, length ks) ≡ intersection (at ks i) k =
      asked_pair grown i (length ks) h ∙ rw (last, get_or-append ks (k ∷ []) nowhere i h) in
      let front = map-append (asked grown) (earlier i (length ks)) ((i, length ks) ∷ []) in
      let back = map-append (λ (e : Polynomials). intersection e k) (take i ks) (at ks i ∷ []) in
      front ∙ rw (earlier_asked i (omega arith), one, take-suc ks i nowhere h) (sym back)

  -- A curve more asks for its own tangency and for its intersection with each earlier one, behind all that was asked before.
  pub calls_more : calls grown ≡ calls ks ++ (tangency k ∷ meetings ks k)
  calls_more =
      let n = length ks in
      let e : n + 0 ≡ n = omega arith in
      let own : asked grown (n, n) ≡ tangency k = asked_own grown n ∙ ap tangency last in
      let new : map (asked grown) (earlier n n) ≡ meetings ks k = earlier_asked n (omega arith) ∙ rw (take-length ks) in
      calls_added ks (k ∷ []) ∙ ap (λ (m : ℕ). calls ks ++ map (asked grown) ((m, m) ∷ earlier m m)) e ∙ (λ i. calls ks ++ (own i ∷ new i))

-- ---- what the calls give

module _ (c : Chart) where
  pub roots_append : (ps qs : List (List Compensated)) → flat_map (chart_roots c) (ps ++ qs) ≡ flat_map (chart_roots c) ps ++ flat_map (chart_roots c) qs
  unfolding flat_map
  roots_append [] qs = refl
  roots_append (p ∷ ps) qs =
      ap (λ (z : List Float). chart_roots c p ++ z) (roots_append ps qs)
      ∙ sym (append_assoc (chart_roots c p) (flat_map (chart_roots c) ps) (flat_map (chart_roots c) qs))

  abbrev of : List Curve → List Polynomials
  of l = all_polynomials c.origin l

  pub critical_nil : critical c [] ≡ []
  unfolding critical calls order flat_map
  critical_nil = refl

  -- so all angles that were found are found first
  pub critical_front : (l more : List Curve) → take (length (critical c l)) (critical c (l ++ more)) ≡ critical c l
  unfolding critical
  critical_front l more =
      let new = new_calls (of l) (of more) in
      let e : critical c (l ++ more) ≡ critical c l ++ flat_map (chart_roots c) new =
      ap (λ (ks : List Polynomials). flat_map (chart_roots c) (calls ks)) (map-append (λ (d : Curve). polynomials d c.origin) l more)
      ∙ ap (flat_map (chart_roots c)) (calls_added (of l) (of more)) ∙ roots_append (calls (of l)) new in
      rw e (take-append_seam (critical c l) (flat_map (chart_roots c) new))

  module _ (l : List Curve) (q : Curve) where
    abbrev k : Polynomials
    k = polynomials q c.origin

    calls_curve : calls (of (l ++ (q ∷ []))) ≡ calls (of l) ++ (tangency k ∷ meetings (of l) k)
    calls_curve = ap calls (map-append (λ (d : Curve). polynomials d c.origin) l (q ∷ [])) ∙ calls_more (of l) k

    pub critical_more : critical c (l ++ (q ∷ [])) ≡ critical c l ++ (chart_roots c (tangency k) ++ flat_map (chart_roots c) (meetings (of l) k))
    unfolding critical flat_map
    critical_more = ap (flat_map (chart_roots c)) calls_curve ∙ roots_append (calls (of l)) (tangency k ∷ meetings (of l) k)
