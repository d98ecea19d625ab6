-- The least head of three lists in order is the first of all their values in order. A list's head is a NaN where it is empty, and a NaN comes last.
use Rattle.std.specs.Prelude.{ℕ, zero, suc, ◌≡◌, refl, not, List, [], ◌∷◌, ◌++◌, T, get_or, drop, Float}
use Rattle.std.proofs.Common.{add-zero, ◌∙◌, T_not, get_or-drop}
use mathlib.Core.List.Permᴰ
use Rattle.std.specs.Float.{nan, inf, fin}
use Rattle.std.specs.Float.Ieee.{is_nan, lt, eq}
use Rattle.float.specs.Number.{total_le}
use Rattle.polynomial.specs.Cuts.{sort}
use Rattle.polynomial.specs.Promises.Lists.{From, Sorted, Fit}
use Rattle.polynomial.specs.Laws.Cuts.{fit_append, from_lower, from_sorted, from_ins, ins_first, sort_perm}
use Rattle.polynomial.specs.Promises.Lists.{All}
use Rattle.polynomial.specs.Laws.Lists.{all_append, all_drop}

abbrev pub head : List Float → Float
head l = get_or l 0 nan

abbrev pub Numbers : List Float → Type 0
Numbers l = All (λ x. T (not (is_nan x))) l

-- x is before all of l
abbrev Least : Float → List Float → Type 0
Least x l = All (λ y. T (total_le x y)) l

least_from : (x : Float) (l : List Float) → From x l → Least x l
least_from x [] f = tt
least_from x (y ∷ l) f = (f.0, least_from x l (from_lower x y l f.0 f.1))

least_head : (x : Float) (l : List Float) → Sorted l → T (total_le x (head l)) → Least x l
least_head x [] s h = tt
least_head x (y ∷ l) s h = (h, least_from x l (from_lower x y l h s))

least_append : (x : Float) (a b : List Float) → Least x a → Least x b → Least x (a ++ b)
least_append x a b p q = all_append (λ y. T (total_le x y)) a b p q

from_sort : (x : Float) (l : List Float) → Least x l → From x (sort l)
unfolding sort
from_sort x [] p = tt
from_sort x (y ∷ l) p = from_ins x y (sort l) p.0 (from_sort x l p.1)

sort_least : (x : Float) (l : List Float) → Least x l → sort (x ∷ l) ≡ x ∷ sort l
unfolding sort
sort_least x l p = ins_first x (sort l) (from_sort x l p)

pub no_head : (X : Type 0) → T (not (is_nan nan)) → X
unfolding is_nan
no_head X t = absurd t

module _ (a b e : List Float) (sa : Sorted a) (sb : Sorted b) (se : Sorted e) where
  pub take_first : T (not (is_nan (head a))) → T (total_le (head a) (head b)) → T (total_le (head a) (head e))
      → sort (a ++ (b ++ e)) ≡ head a ∷ sort (drop 1 a ++ (b ++ e))
  take_first = go a sa
    where
      go : (a : List Float) → Sorted a → T (not (is_nan (head a))) → T (total_le (head a) (head b)) → T (total_le (head a) (head e))
          → sort (a ++ (b ++ e)) ≡ head a ∷ sort (drop 1 a ++ (b ++ e))
      go [] sa n p q = no_head _ n
      go (x ∷ a) sa n p q =
          sort_least x (a ++ (b ++ e)) (least_append x a (b ++ e) (least_from x a sa) (least_append x b e (least_head x b sb p) (least_head x e se q)))

  pub take_second : Fit a → Fit b → Fit e → T (not (is_nan (head b))) → T (total_le (head b) (head a)) → T (total_le (head b) (head e))
      → sort (a ++ (b ++ e)) ≡ head b ∷ sort (a ++ (drop 1 b ++ e))
  take_second fa fb fe = go b sb fb
    where
      go : (b : List Float) → Sorted b → Fit b → T (not (is_nan (head b))) → T (total_le (head b) (head a)) → T (total_le (head b) (head e))
          → sort (a ++ (b ++ e)) ≡ head b ∷ sort (a ++ (drop 1 b ++ e))
      go [] sb fb n p q = no_head _ n
      go (y ∷ b) sb fb n p q =
          sort_perm (Permᴰ.middle y a (b ++ e)) (fit_append a (y ∷ b ++ e) fa (fb.0, fit_append b e fb.1 fe))
          ∙ sort_least y (a ++ (b ++ e)) (least_append y a (b ++ e) (least_head y a sa p) (least_append y b e (least_from y b sb) (least_head y e se q)))

  pub take_third : Fit a → Fit b → Fit e → T (not (is_nan (head e))) → T (total_le (head e) (head a)) → T (total_le (head e) (head b))
      → sort (a ++ (b ++ e)) ≡ head e ∷ sort (a ++ (b ++ drop 1 e))
  take_third fa fb fe = go e se fe
    where
      go : (e : List Float) → Sorted e → Fit e → T (not (is_nan (head e))) → T (total_le (head e) (head a)) → T (total_le (head e) (head b))
          → sort (a ++ (b ++ e)) ≡ head e ∷ sort (a ++ (b ++ drop 1 e))
      go [] se fe n p q = no_head _ n
      go (z ∷ e) se fe n p q =
          sort_perm (Permᴰ.trans (Permᴰ.append_left a (Permᴰ.middle z b e)) (Permᴰ.middle z a (b ++ e)))
          (fit_append a (b ++ z ∷ e) fa (fit_append b (z ∷ e) fb fe))
          ∙ sort_least z (a ++ (b ++ e)) (least_append z a (b ++ e) (least_head z a sa p) (least_append z b e (least_head z b sb q) (least_from z e se)))

-- a NaN comes last, so where the least head is a NaN no list has a number left
nan_last : (x y : Float) → T (is_nan x) → T (total_le x y) → T (is_nan y)
unfolding total_le lt eq is_nan
nan_last nan y n h = h
nan_last (inf s) y n h = absurd n
nan_last (fin s m e) y n h = absurd n

empty : (l : List Float) → Numbers l → T (is_nan (head l)) → l ≡ []
empty [] n h = refl
empty (x ∷ l) n h = absurd (T_not (is_nan x) n.0 h)

pub all_empty : (x : Float) (a b e : List Float) → Numbers a → Numbers b → Numbers e → T (is_nan x) → T (total_le x (head a)) → T (total_le x (head b))
    → T (total_le x (head e))
    → sort (a ++ (b ++ e)) ≡ []
unfolding sort
all_empty x a b e na nb ne n p q r =
    λ i. sort (empty a na (nan_last x (head a) n p) i ++ (empty b nb (nan_last x (head b) n q) i ++ empty e ne (nan_last x (head e) n r) i))

-- ---- parts of such lists

pub sorted_drop : (k : ℕ) (l : List Float) → Sorted l → Sorted (drop k l)
sorted_drop zero l s = s
sorted_drop (suc k) [] s = tt
sorted_drop (suc k) (x ∷ l) s = sorted_drop k l (from_sorted x l s)

pub numbers_drop : (k : ℕ) (l : List Float) → Numbers l → Numbers (drop k l)
numbers_drop = all_drop (λ x. T (not (is_nan x)))

pub head_drop : (k : ℕ) (l : List Float) → head (drop k l) ≡ get_or l k nan
head_drop k l = get_or-drop k l 0 nan ∙ rw add-zero
