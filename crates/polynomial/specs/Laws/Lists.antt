-- Laws of lists, beside those of `lib.Seq`: what holds of every element, and what the loops ask for.
use Rattle.std.specs.Prelude.{◌≡◌, refl, List, [], ◌∷◌, ◌++◌, ℕ, zero, suc, ◌+◌, ◌-◌, ◌<◌, length, get_or, set, take, drop}
use Rattle.std.proofs.Common.{sym, ap, ◌∙◌, append-nil, not-suc-le-zero, le_of_suc-le-suc, add-one, arith, length-drop, drop_of_length-le, drop-cons}
use Rattle.std.proofs.Common.{get_or-drop, take_all, take-suc-set}
use Rattle.std.proofs.Math.Seq.{paste, paste-suc, length_paste_head, append_snoc}
use Rattle.std.proofs.lemmas.List.{get_or_at}
use Rattle.polynomial.specs.Promises.Lists.{All}

-- ---- what holds of every element

module _ {A : Type 0} (P : A → Type 0) where
  pub all_append : (l m : List A) → All P l → All P m → All P (l ++ m)
  all_append [] m h k = k
  all_append (x ∷ l) m h k = (h.0, all_append l m h.1 k)

  pub all_right : (l m : List A) → All P (l ++ m) → All P m
  all_right [] m h = h
  all_right (x ∷ l) m h = all_right l m h.1

  pub all_drop : (k : ℕ) (l : List A) → All P l → All P (drop k l)
  all_drop zero l h = h
  all_drop (suc k) [] h = tt
  all_drop (suc k) (x ∷ l) h = all_drop k l h.1

module _ {ℓ} {A : Type ℓ} where
  -- ---- an element that is there, whatever the other value
  pub get_d_any : (l : List A) (i : ℕ) (d e : A) → i < length l → get_or l i d ≡ get_or l i e
  get_d_any [] i d e h = absurd (not-suc-le-zero h)
  get_d_any (x ∷ l) zero d e h = refl
  get_d_any (x ∷ l) (suc i) d e h = get_d_any l i d e (le_of_suc-le-suc h)

  -- ---- a loop that copies D over the front of d
  copy_suc : (n : ℕ) (D d : List A) (z : A) → n < length D → n < length d → set (take n D ++ drop n d) n (get_or D n z) ≡ take (suc n) D ++ drop (suc n) d
  copy_suc n [] d z h l = absurd (not-suc-le-zero h)
  copy_suc n (x ∷ D) [] z h l = absurd (not-suc-le-zero l)
  copy_suc zero (x ∷ D) (y ∷ d) z h l = refl
  copy_suc (suc n) (x ∷ D) (y ∷ d) z h l = ap (λ (t : List A). x ∷ t) (copy_suc n D d z (le_of_suc-le-suc h) (le_of_suc-le-suc l))

  pub copy_more : (n : ℕ) (D d : List A) (z : A) → n < length D → n < length d → set (take n D ++ drop n d) n (get_or D n z) ≡ take (n + 1) D ++ drop (n + 1) d
  copy_more n D d z h l = rw add-one (copy_suc n D d z h l)

  -- ---- a loop that stores at the end of what it has done, where `rest` is what is left to do
  pub store_more : (i : ℕ) (d rest : List A) (v : A) → i < length d → take i d ++ v ∷ rest ≡ take (i + 1) (set d i v) ++ rest
  store_more i d rest v h = rw (add-one, take-suc-set d i v h) (sym (append_snoc (take i d) v rest))

  -- ---- a loop that moves values up by one place: v stands at `at`, and k of the values from there have moved
  module _ (d : List A) (at : ℕ) (v z : A) where
    moved_fits : (k : ℕ) → at + k < length d → k < length (v ∷ drop at d)
    moved_fits k h = let l = length-drop at d in omega arith

    pub move_more : (k : ℕ) → at + k < length d → set (paste d at (v ∷ drop at d) k) (at + k) (get_or (v ∷ drop at d) k z) ≡ paste d at (v ∷ drop at d) (k + 1)
    move_more k h = rw add-one (paste-suc d at (v ∷ drop at d) k z h (moved_fits k h))

    pub move_next : (k : ℕ) → at + k < length d → get_or (paste d at (v ∷ drop at d) k) (at + k) z ≡ get_or (v ∷ drop at d) (k + 1) z
    move_next k h =
        let f = moved_fits k h in
        ap (λ (r : List A). get_or (take at d ++ take k (v ∷ drop at d) ++ r) (at + k) z) (drop-cons d (at + k) z h)
        ∙ get_or_at (take at d ++ take k (v ∷ drop at d)) (get_or d (at + k) z) (drop (suc (at + k)) d) z (at + k)
        (length_paste_head d at (v ∷ drop at d) k (omega arith) (omega arith))
        ∙ rw add-one (sym (get_or-drop at d k z))

  -- ---- what a callee is lent by `&mut w[s..]`: all of w behind s, and nothing is left behind it
  pub tail_part : (s : ℕ) (w : List A) → take (length w - s) (drop s w) ≡ drop s w
  tail_part s w = let l = length-drop s w in take_all (length w - s) (drop s w) (omega arith)

  pub tail_post : (s : ℕ) (w ys : List A) → ys ++ drop (length w - s) (drop s w) ≡ ys
  tail_post s w ys = let l = length-drop s w in rw (drop_of_length-le (drop s w) {i = length w - s} (omega arith)) (append-nil ys)
