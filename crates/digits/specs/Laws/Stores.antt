-- Runs of stores one after the other are one.
use Rattle.std.specs.Prelude.{ℕ, suc, ◌+◌, ◌-◌, ◌≤◌, ◌<◌, ◌≡◌, refl, ◌≢◌, List, [], ◌∷◌, ◌++◌, length, set, take, drop}
use Rattle.std.proofs.Common.{arith, add-zero, zero-add, append_assoc, subst, sym, ap, ◌∙◌, drop_at, drop-drop, take-append-drop}
use Rattle.std.specs.List.{between}
use Rattle.std.proofs.lemmas.List.{drop-take, take_at}
use Rattle.std.proofs.lemmas.List.Edits.{length-between}
use Rattle.std.proofs.lemmas.List.Edits.{sets, sets-eq, paste_all}
use Rattle.std.proofs.lemmas.Slice.{put_mid-paste}
use borrow.Rule.Slice.PartMut.{put_mid}
use Rattle.std.proofs.lemmas.List.{set_comm}

module _ {A : Type 0} where
  sets_append : (a b l : List A) (i : ℕ) → sets l i (a ++ b) ≡ sets (sets l i a) (i + length a) b
  sets_append [] b l i = rw add-zero
  sets_append (x ∷ a) b l i =
      let e : i + suc (length a) ≡ suc i + length a = omega arith in
      rw e (sets_append a b (set l i x) (suc i))

  -- two runs that touch
  pub joined : (a b l : List A) (i j : ℕ) → j ≡ i + length a → sets (sets l i a) j b ≡ sets l i (a ++ b)
  joined a b l i j e = rw e (sym (sets_append a b l i))

  -- a run stored at the start of what is lent
  pub stored : (t lent : List A) (n : ℕ) → length t ≡ n → n ≤ length lent → sets lent 0 t ≡ t ++ drop n lent
  stored t lent n e h =
      let f : 0 + n ≡ n = zero-add n in
      sets-eq t lent 0 (rw (e, f) h) ∙ rw (e, f)

  -- a store past a run, before or after it
  sets_past : (a l : List A) (i j : ℕ) (v : A) → i + length a ≤ j → sets (set l j v) i a ≡ set (sets l i a) j v
  sets_past [] l i j v h = refl
  sets_past (x ∷ a) l i j v h =
      let d : j ≢ i = omega arith in
      rw (set_comm l j i v x d) (sets_past a (set l i x) (suc i) j v (omega arith))

  -- the last of a run, stored first
  pub sets_last : (a l : List A) (i k : ℕ) (v : A) → length a ≡ k → sets (set l (i + k) v) i a ≡ sets l i (a ++ (v ∷ []))
  sets_last a l i k v e = rw (sets_append a (v ∷ []) l i, e) (sets_past a l i (i + k) v (omega arith))

  -- the same where the last place is the one before i
  pub sets_before : (a l : List A) (at i : ℕ) (v : A) → at < i → length a ≡ i - 1 - at → sets (set l (i - 1) v) at a ≡ sets l at (a ++ (v ∷ []))
  sets_before a l at i v h e =
      let f : i - 1 ≡ at + (i - 1 - at) = omega arith in
      subst (λ (j : ℕ). sets (set l j v) at a ≡ sets l at (a ++ (v ∷ []))) (sym f) (sets_last a l at (i - 1 - at) v e)

  -- a part that is written over as a whole
  pub overwritten : (a l ys : List A) (i k : ℕ) → ys ≡ a → k ≡ length a → i + length a ≤ length l → put_mid i k l ys ≡ sets l i a
  overwritten a l ys i k e f h =
      put_mid-paste i k l ys a (length a) e (sym f) refl
      ∙ paste_all l i a (length a) refl
      ∙ sym (sets-eq a l i h ∙ append_assoc (take i l) a (drop (i + length a) l))

  -- a run stored at the start of a part
  pub stored_in : (t l : List A) (i e : ℕ) → e ≤ length l → i + length t ≤ e → put_mid i (e - i) l (sets (between i e l) 0 t) ≡ sets l i t
  stored_in t l i e h g =
      let rest = drop i l in
      let n = e - i - length t in
      let m : e - i ≡ length t + n = omega arith in
      let a : sets (between i e l) 0 t ≡ t ++ drop (length t) (between i e l) =
      stored t (between i e l) (length t) refl (rw (length-between l i e h) (omega arith)) in
      let b : drop (length t) (between i e l) ≡ take n (drop (length t) rest) =
      ap (λ (j : ℕ). drop (length t) (take j rest)) m ∙ drop-take (length t) n rest in
      let c : drop (e - i) rest ≡ drop n (drop (length t) rest) = ap (λ (j : ℕ). drop j rest) m ∙ sym (drop-drop n (length t) rest) in
      let d : drop (length t) rest ≡ drop (i + length t) l = drop-drop (length t) i l in
      rw (a, b, c, append_assoc, take-append-drop n (drop (length t) rest), d)
      (sym (sets-eq t l i (omega arith) ∙ append_assoc (take i l) t (drop (i + length t) l)))

  -- a part behind a known front, written over
  pub replaced : (p q r ys : List A) (a k : ℕ) → length p ≡ a → length q ≡ k → put_mid a k (p ++ (q ++ r)) ys ≡ p ++ (ys ++ r)
  replaced p q r ys a k e f = rw (take_at p (q ++ r) a e, drop_at p (q ++ r) a e, drop_at q r k f)
