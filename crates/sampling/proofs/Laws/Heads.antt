-- What a step has to show at each of its ends: x, y and z are the heads of the two lists and of the reference, a NaN where there is none.
use Rattle.std.specs.Prelude.{ℕ, ◌+◌, ◌<◌, ◌≡◌, refl, Bool, true, false, not, List, [], ◌∷◌, ◌++◌, T, length, get_or, drop, Float}
use Rattle.std.proofs.Math.Decide.{dec_lt}
use Rattle.std.proofs.Common.{arith, sym, subst, subst₂, ◌∙◌, drop-drop}
use Rattle.std.proofs.Math.ListN.{get_or-eq_default}
use Rattle.std.specs.Float.{nan, binary64}
use Rattle.std.specs.Float.Ieee.{is_nan, fits}
use Rattle.float.specs.Number.{total_le}
use Rattle.polynomial.specs.Cuts.{sort}
use Rattle.polynomial.specs.Promises.Lists.{Sorted, Fit}
use Rattle.polynomial.specs.Laws.Cuts.{fit_drop}
use Rattle.sampling.specs.Promises.Stream.{weave, pending, Woven}
use Rattle.sampling.proofs.Laws.Weave.{weave_fit}
use Rattle.sampling.proofs.Laws.Least.{head, Numbers, take_first, take_second, take_third, all_empty, sorted_drop, numbers_drop, head_drop, no_head}

-- a number at k: the list reaches there
pub number_index : (l : List Float) (k : ℕ) → T (not (is_nan (get_or l k nan))) → k < length l
number_index l k n = elim (dec_lt k (length l)) [
  | yes h ↦ h
  | no h ↦ no_head (k < length l) (subst (λ (x : Float). T (not (is_nan x))) (get_or-eq_default l nan {n = k} (omega arith)) n)
]

-- the lists a and b from i and j on, and the reference r unless it came, begin with x, y and z
pub record Heads (a b : List Float) (r : Float) (i j : ℕ) (u : Bool) (x y z : Float) : Type 0 where
  pub woven_a : Woven a
  pub woven_b : Woven b
  pub number_r : T (not (is_nan r))
  pub fit_r : T (fits binary64 r)
  pub at_x : x ≡ get_or (weave a) i nan
  pub at_y : y ≡ get_or (weave b) j nan
  pub at_z : z ≡ head (pending u r)

module _ {a b : List Float} {r : Float} {i j : ℕ} {u : Bool} {x y z : Float} (H : Heads a b r i j u x y z) where
  abbrev A : List Float
  A = drop i (weave a)

  abbrev B : List Float
  B = drop j (weave b)

  abbrev E : List Float
  E = pending u r

  hx : x ≡ head A
  hx = H.at_x ∙ sym (head_drop i (weave a))

  hy : y ≡ head B
  hy = H.at_y ∙ sym (head_drop j (weave b))

  s_a : Sorted A
  s_a = sorted_drop i (weave a) H.woven_a.order

  s_b : Sorted B
  s_b = sorted_drop j (weave b) H.woven_b.order

  s_e : Sorted E
  s_e = go u
    where
      go : (u : Bool) → Sorted (pending u r)
      go true = tt
      go false = tt

  f_a : Fit A
  f_a = fit_drop i (weave a) (weave_fit a H.woven_a.fit)

  f_b : Fit B
  f_b = fit_drop j (weave b) (weave_fit b H.woven_b.fit)

  f_e : Fit E
  f_e = go u
    where
      go : (u : Bool) → Fit (pending u r)
      go true = tt
      go false = (H.fit_r, tt)

  n_e : Numbers E
  n_e = go u
    where
      go : (u : Bool) → Numbers (pending u r)
      go true = tt
      go false = (H.number_r, tt)

  number : {v w : Float} → v ≡ w → T (not (is_nan v)) → T (not (is_nan w))
  number e n = subst (λ (q : Float). T (not (is_nan q))) e n

  order : {v v' w w' : Float} → v ≡ v' → w ≡ w' → T (total_le v w) → T (total_le v' w')
  order p q h = subst₂ (λ (s t : Float). T (total_le s t)) p q h

  pub first : T (not (is_nan x)) → T (total_le x y) → T (total_le x z) → sort (A ++ (B ++ E)) ≡ x ∷ sort (drop (i + 1) (weave a) ++ (B ++ E))
  first n p q =
      take_first A B E s_a s_b s_e (number hx n) (order hx hy p) (order hx H.at_z q)
      ∙ (λ k. sym hx k ∷ sort (drop-drop 1 i (weave a) k ++ (B ++ E)))

  pub second : T (not (is_nan y)) → T (total_le y x) → T (total_le y z) → sort (A ++ (B ++ E)) ≡ y ∷ sort (A ++ (drop (j + 1) (weave b) ++ E))
  second n p q =
      take_second A B E s_a s_b s_e f_a f_b f_e (number hy n) (order hy hx p) (order hy H.at_z q)
      ∙ (λ k. sym hy k ∷ sort (A ++ (drop-drop 1 j (weave b) k ++ E)))

  pub third : T (not (is_nan z)) → T (total_le z x) → T (total_le z y) → sort (A ++ (B ++ E)) ≡ z ∷ sort (A ++ (B ++ pending true r))
  third n p q =
      take_third A B E s_a s_b s_e f_a f_b f_e (number H.at_z n) (order H.at_z hx p) (order H.at_z hy q)
      ∙ (λ k. sym H.at_z k ∷ sort (A ++ (B ++ none u k)))
    where
      none : (u : Bool) → drop 1 (pending u r) ≡ []
      none true = refl
      none false = refl

  -- w is the least, and a NaN
  pub done : (w : Float) → T (is_nan w) → T (total_le w x) → T (total_le w y) → T (total_le w z) → sort (A ++ (B ++ E)) ≡ []
  done w n p q s = all_empty w A B E (numbers_drop i (weave a) H.woven_a.numbers) (numbers_drop j (weave b) H.woven_b.numbers) n_e n
      (order refl hx p) (order refl hy q) (order refl H.at_z s)
