-- The points near zero, which `scan` gathers in front of those that it has still to look at.
use Prim.Native.Nat.{ℕ, suc, ◌+◌, ◌≤◌, ◌<◌}
use native.Mathlib.Nat.{lt_irrefl, add-zero}
use native.Mathlib.Numerals.{add-one}
use native.Mathlib.Omega.{arith}
use mathlib.Core.Path.{◌≡◌, refl, sym, ap, ◌∙◌}
use mathlib.Core.Bool.{Bool, true, false, cond}
use mathlib.Core.List.{List, [], ◌∷◌, ◌++◌, append-nil}
use lib.ListN.{length, get_or, take, drop, set, length-set}
use lib.Seq.{take-suc, take-set-le, take-suc-set, drop-set-lt, drop-drop, get_or-drop}
use lib.Ieee.{Float}
use mir.Val.{bool_byte}
use Rattle.polynomial.specs.Polynomial.{near_zero}
use Rattle.polynomial.specs.Roots.{touches}
use Rattle.polynomial.specs.declared.compensated.Compensated.{Compensated}

-- how many of one thing there are, by a test
abbrev pub one_if : Bool → ℕ
one_if b = cond b 1 0

-- as the code's number of a test, which was said of the point
pub counts_one : (m : ℕ) (a b : Bool) → m ≡ bool_byte a → a ≡ b → m ≡ one_if b
counts_one m a b e f = e ∙ go a ∙ ap one_if f
  where
    go : (b : Bool) → bool_byte b ≡ one_if b
    go true = refl
    go false = refl

-- of the first i points `all`, those near zero stand in front of what is left
pub record Gathered (p : List Compensated) (all points : List Float) (near i : ℕ) : Type 0 where
  pub few : near ≤ i
  pub same : length points ≡ length all
  pub front : take near points ≡ touches p (take i all)
  pub rest : drop i points ≡ drop i all

pub one_most : (p : List Compensated) (x : Float) (m : ℕ) → m ≡ one_if (near_zero p x) → m ≤ 1
one_most p x m e = go (near_zero p x) e
  where
    go : (b : Bool) → m ≡ one_if b → m ≤ 1
    go true e = omega arith
    go false e = omega arith

along : (b : Bool) (y : Float) (t m : List Float) → cond b (y ∷ (t ++ m)) (t ++ m) ≡ cond b (y ∷ t) t ++ m
along true y t m = refl
along false y t m = refl

module _ (p : List Compensated) where
  touches_snoc : (l : List Float) (x : Float) → touches p (l ++ x ∷ []) ≡ touches p l ++ cond (near_zero p x) (x ∷ []) []
  unfolding touches
  touches_snoc [] x = refl
  touches_snoc (y ∷ l) x =
      ap (λ (t : List Float). cond (near_zero p y) (y ∷ t) t) (touches_snoc l x)
      ∙ along (near_zero p y) y (touches p l) (cond (near_zero p x) (x ∷ []) [])

  pub gathered_first : (points : List Float) (d : Float) (near : ℕ) → 0 < length points → near ≡ one_if (near_zero p (get_or points 0 d))
      → Gathered p points points near 1
  unfolding touches
  gathered_first [] d near h e = absurd (lt_irrefl 0 h)
  gathered_first (x ∷ l) d near h e = go (near_zero p x) refl
    where
      go : (b : Bool) → near_zero p x ≡ b → Gathered p (x ∷ l) (x ∷ l) near 1
      go true z =
          let n : near ≡ 1 = e ∙ ap one_if z in
          record { few = omega arith; same = refl; front = ap (λ (j : ℕ). take j (x ∷ l)) n ∙ sym (ap (λ (b : Bool). cond b (x ∷ []) []) z); rest = refl }
      go false z =
          let n : near ≡ 0 = e ∙ ap one_if z in
          record { few = omega arith; same = refl; front = ap (λ (j : ℕ). take j (x ∷ l)) n ∙ sym (ap (λ (b : Bool). cond b (x ∷ []) []) z); rest = refl }

  module _ (all points : List Float) (near i : ℕ) (g : Gathered p all points near i) (h : i < length all) (d : Float) where
    -- the next point stands where it stood
    pub next_point : get_or points i d ≡ get_or all i d
    next_point =
        ap (λ (j : ℕ). get_or points j d) (sym (add-zero i)) ∙ sym (get_or-drop i points 0 d) ∙ ap (λ (l : List Float). get_or l 0 d) g.rest
        ∙ get_or-drop i all 0 d ∙ ap (λ (j : ℕ). get_or all j d) (add-zero i)

    module _ (x : Float) (ex : x ≡ get_or all i d) (m : ℕ) (em : m ≡ one_if (near_zero p x)) where
      one_more : touches p (take (i + 1) all) ≡ touches p (take i all) ++ cond (near_zero p x) (x ∷ []) []
      one_more =
          ap (λ (j : ℕ). touches p (take j all)) (add-one i)
          ∙ ap (touches p) (take-suc all i d h ∙ ap (λ (y : Float). take i all ++ y ∷ []) (sym ex))
          ∙ touches_snoc (take i all) x

      gathered_front : (b : Bool) → near_zero p x ≡ b → take (near + m) (set points near x) ≡ touches p (take (i + 1) all)
      gathered_front true z =
          let k = g.few in
          let l = g.same in
          let n : near + m ≡ suc near = omega (arith, em ∙ ap one_if z) in
          ap (λ (j : ℕ). take j (set points near x)) n
          ∙ take-suc-set points near x (omega arith)
          ∙ ap (λ (t : List Float). t ++ x ∷ []) g.front
          ∙ sym (one_more ∙ ap (λ (c : Bool). touches p (take i all) ++ cond c (x ∷ []) []) z)
      gathered_front false z =
          let n : near + m ≡ near = omega (arith, em ∙ ap one_if z) in
          ap (λ (j : ℕ). take j (set points near x)) n
          ∙ take-set-le near points near x (omega arith)
          ∙ g.front
          ∙ sym (one_more ∙ ap (λ (c : Bool). touches p (take i all) ++ cond c (x ∷ []) []) z ∙ append-nil (touches p (take i all)))

      -- the point is put behind those near zero, and counts among them where it is
      pub gathered_more : Gathered p all (set points near x) (near + m) (i + 1)
      gathered_more =
          let k = g.few in
          let o = one_most p x m em in
          record {
            few = omega arith;
            same = length-set points near x ∙ g.same;
            front = gathered_front (near_zero p x) refl;
            rest =
                drop-set-lt (i + 1) points near x (omega arith)
                ∙ sym (drop-drop 1 i points)
                ∙ ap (drop 1) g.rest
                ∙ drop-drop 1 i all;
          }
