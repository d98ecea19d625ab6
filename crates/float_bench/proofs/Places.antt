-- The places of a list, stepped one after the other; and what the list then is.
use Rattle.std.proofs.Common.{ℕ, zero, suc, ◌+◌, ◌<◌, add-one, arith, ◌≡◌, refl, subst, List, [], ◌∷◌, length, take, drop, get_or, set, map, ap}
use Rattle.std.specs.List.{AllZip}

module _ {A : Type 0} (R : A → A → Type 0) (d v : A) where
  more : (i : ℕ) (l hs : List A) → i < length l → AllZip R (take i l) (take i hs) → drop i hs ≡ drop i l → R (get_or hs i d) v
      → AllZip R (take (suc i) l) (take (suc i) (set hs i v)) × (drop (suc i) (set hs i v) ≡ drop (suc i) l)
  more i [] hs h a e r = absurd (omega arith)
  more zero (x ∷ l) [] h a e r = cc
  more zero (x ∷ l) (y ∷ hs) h a e r = ((subst (λ z. R z v) (ap (λ m. get_or m 0 d) e) r, tt), ap (λ m. drop 1 m) e)
  more (suc i) (x ∷ l) [] h a e r = absurd a
  more (suc i) (x ∷ l) (y ∷ hs) h a e r = let m = more i l hs (omega arith) a.1 e r in ((a.0, m.0), m.1)

  pub one_more : (i : ℕ) (l hs : List A) → i < length l → AllZip R (take i l) (take i hs) → drop i hs ≡ drop i l → R (get_or hs i d) v
      → AllZip R (take (i + 1) l) (take (i + 1) (set hs i v)) × (drop (i + 1) (set hs i v) ≡ drop (i + 1) l)
  one_more i l hs h a e r = rw (add-one) (more i l hs h a e r)

pub mapped : {A : Type 0} (R : A → A → Type 0) (f : A → A) → ((x y : A) → R x y → y ≡ f x) → (xs ys : List A) → AllZip R xs ys → ys ≡ map f xs
mapped R f h [] [] a = refl
mapped R f h [] (y ∷ ys) a = absurd a
mapped R f h (x ∷ xs) [] a = absurd a
mapped R f h (x ∷ xs) (y ∷ ys) a = λ i. h x y a.0 i ∷ mapped R f h xs ys a.1 i
