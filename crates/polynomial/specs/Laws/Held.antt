-- A list of cuts that grows in a lent slice: what a loop around `insert` keeps, and what it has to show at its ends.
use Rattle.std.specs.Prelude.{Option, Some, None, ◌≡◌, Bool, true, false, cond, ℕ, zero, suc, ◌+◌, ◌-◌, ◌≤◌, ◌<◌, T, leb, length, get_or, take, drop, Float}
use Rattle.std.proofs.Math.Path.{refl, subst}
use Rattle.std.proofs.Common.{sym, ap, ◌∙◌, suc-le-suc, zero-lt-suc, arith, leb-true, leb-false, le-leb, length-append, length-drop, take_at, drop-drop}
use mathlib.Core.List.{List, [], ◌∷◌, ◌++◌}
use Rattle.std.proofs.lemmas.Bool.{lt-leb}
use Rattle.std.proofs.Math.Seq.{drop-append-add}
use Rattle.std.specs.Float.{nan, binary64}
use Rattle.std.specs.Float.Ieee.{fits}
use Rattle.polynomial.specs.Cuts.{put, cuts}
use Rattle.polynomial.specs.Promises.Lists.{Fit}
use Rattle.polynomial.specs.Laws.Cuts.{cuts_snoc, cuts_longer_left}
use Rattle.polynomial.specs.Promises.Insert.{grown, put_answer, put_room, push_answer, push_room, Within}
use Rattle.polynomial.specs.Promises.Held.{cut_answer, Held, Kept}

-- elements of a list that fit
pub fit_of : (l : List Float) → ((k : ℕ) → k < length l → T (fits binary64 (get_or l k nan))) → Fit l
fit_of [] h = tt
fit_of (x ∷ l) h = (h zero (zero-lt-suc (length l)), fit_of l (λ k b. h (suc k) (suc-le-suc b)))

held_none : (r : List Float) → Held [] r r 0
held_none r = record { count = unfold cuts in refl; within = omega arith; list = unfold cuts in refl }

-- behind a list at the front, what stood there
pub drop_past : (a r : List Float) (k m : ℕ) → length a ≡ k → k ≤ m → drop m (a ++ drop k r) ≡ drop m r
drop_past a r k m e h =
    let i : length a + (m - k) ≡ m = omega arith in
    let j : k + (m - k) ≡ m = omega arith in
    ap (λ (x : ℕ). drop x (a ++ drop k r)) (sym i) ∙ drop-append-add a (drop k r) (m - k) ∙ drop-drop (m - k) k r ∙ ap (λ (x : ℕ). drop x r) j

put_counted : (b : Bool) (m n : ℕ) → cond b (Some m) None ≡ Some n → (b ≡ true) × (m ≡ n)
put_counted true m n e = (refl, cc)
put_counted false m n e = let z : ◌≡◌ {A = ℕ} 0 1 = cc in absurd (omega arith)

put_full : (b : Bool) (m : ℕ) → cond b (Some m) None ≡ None → b ≡ false
put_full true m e = let z : ◌≡◌ {A = ℕ} 0 1 = cc in absurd (omega arith)
put_full false m e = refl

module _ (l r₀ r : List Float) (n : ℕ) (v : Float) (f : Fit l) (g : T (fits binary64 v)) (h : Held l r₀ r n) where
  now_cuts : grown r n v ≡ cuts (l ++ v ∷ [])
  now_cuts = ap (put v) (ap (take n) h.list ∙ take_at (cuts l) (drop n r₀) n (sym h.count)) ∙ sym (cuts_snoc l v f g)

  same_length : length r ≡ length r₀
  same_length = let a = ap length h.list in let b = length-append (cuts l) (drop n r₀) in let d = length-drop n r₀ in omega (arith, h.count, h.within)

  answer : put_answer r n v ≡ cut_answer (l ++ v ∷ []) (length r₀)
  answer = rw (now_cuts, same_length)

  held_more : (r' : List Float) (m : ℕ) → Some m ≡ put_answer r n v → r' ≡ put_room r n v → Held (l ++ v ∷ []) r₀ r' m
  held_more r' m a b =
      let p = put_counted (leb (length (cuts (l ++ v ∷ []))) (length r₀)) (length (cuts (l ++ v ∷ []))) m (sym answer ∙ sym a) in
      let w : length (cuts (l ++ v ∷ [])) ≤ length r₀ = leb-true _ _ p.0 in
      let k : n ≤ m = omega (arith, cuts_longer_left l (v ∷ []) f (g, tt), h.count, p.1) in
      let t : drop m r ≡ drop m r₀ = ap (drop m) h.list ∙ drop_past (cuts l) r₀ n m (sym h.count) k in
      record {
        count = sym p.1;
        within = omega (arith, p.1);
        list = b ∙ rw (now_cuts, same_length, p.0, p.1, t);
      }

-- ---- a list that grows, whether or not there are places

pub kept_none : (r : List Float) → Kept [] r r (Some 0)
kept_none r = record {
  answer_is = unfold cuts in rw (le-leb 0 (length r) (omega arith));
  same = refl;
  held = λ n e. let z : 0 ≡ n = cc in subst (λ (k : ℕ). Held [] r r k) z (held_none r);
}

pub kept_within : (l r₀ r : List Float) (p : Option ℕ) → Kept l r₀ r p → Within r p
kept_within l r₀ r (Some n) k = let h = k.held n refl in omega (arith, h.within, k.same)
kept_within l r₀ r None k = tt

pub kept_full : (l r₀ r : List Float) (p : Option ℕ) → Kept l r₀ r p → p ≡ None → length r₀ < length (cuts l)
kept_full l r₀ r p k e = leb-false _ _ (put_full (leb (length (cuts l)) (length r₀)) (length (cuts l)) (sym k.answer_is ∙ e))

room_length : (r : List Float) (n : ℕ) (v : Float) → length (put_room r n v) ≡ length r
room_length r n v = go (leb (length (grown r n v)) (length r)) refl
  where
    go : (b : Bool) → leb (length (grown r n v)) (length r) ≡ b → length (cond b (grown r n v ++ drop (length (grown r n v)) r) r) ≡ length r
    go true e =
        let h : length (grown r n v) ≤ length r = leb-true _ _ e in
        let a = length-append (grown r n v) (drop (length (grown r n v)) r) in
        let d = length-drop (length (grown r n v)) r in
        omega arith
    go false e = refl

pub kept_push : (l r₀ r : List Float) (p : Option ℕ) (v : Float) → Fit l → T (fits binary64 v) → Kept l r₀ r p
    → Kept (l ++ v ∷ []) r₀ (push_room r p v) (push_answer r p v)
kept_push l r₀ r (Some n) v f g k =
    let h = k.held n refl in record {
      answer_is = answer l r₀ r n v f g h;
      same = room_length r n v ∙ k.same;
      held = λ m e. held_more l r₀ r n v f g h (put_room r n v) m (sym e) refl;
    }
kept_push l r₀ r None v f g k = record {
  answer_is =
      let a = kept_full l r₀ r None k refl in
      let b = cuts_longer_left l (v ∷ []) f (g, tt) in
      rw (lt-leb (length (cuts (l ++ v ∷ []))) (length r₀) (omega arith));
  same = k.same;
  held = λ m e. let z : ◌≡◌ {A = ℕ} 0 1 = cc in absurd (omega arith);
}
