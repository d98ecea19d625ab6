-- The test of `marked`, and the loop of `mark` by the roots whose kinds are written.
use Prim.Native.Nat.{ℕ, ◌+◌, ◌≤◌, ◌<◌}
use native.Mathlib.Omega.{arith}
use mathlib.Core.Path.{◌≡◌, refl, sym, ap, ap₂, ◌∙◌}
use mathlib.Core.Bool.{◌||◌}
use mathlib.Core.List.{List, [], ◌∷◌, ◌++◌, map}
use lib.ListN.{length, get_or, take, drop, set, length-map, get_or-map}
use lib.Seq.{take-length}
use Rattle.std.specs.List.{list_any}
use Rattle.float.specs.Laws.Total.{eq_comm}
use lib.Ieee.{Float, eq, nan}
use Rattle.polynomial.specs.Kinds.{kind, among, marked}
use Rattle.polynomial.specs.Laws.Lists.{copy_more}
use Rattle.polynomial.specs.declared.kinds.Root.{Root}

-- ---- `marked`: as std's test, which has the two numbers the other way round

pub among_is : (x : Float) (l : List Float) → list_any (λ y. eq y x) l ≡ among x l
unfolding among
among_is x [] = refl
among_is x (y ∷ l) = ap₂ ◌||◌ (eq_comm y x) (among_is x l)

-- ---- `mark`: the kinds of the roots up to i

module _ (near roots : List Float) where
  abbrev pub all : List ℕ
  all = map kind (map (marked near) roots)

  long : length all ≡ length roots
  long = length-map (map (marked near) roots) kind ∙ length-map roots (marked near)

  pub written : (i : ℕ) (d : List ℕ) (x : Float) (r : Root) (k : ℕ) → i < length roots → i < length d → x ≡ get_or roots i nan → r ≡ marked near x → k ≡ kind r
      → set (take i all ++ drop i d) i k ≡ take (i + 1) all ++ drop (i + 1) d
  written i d x r k g h e f z =
      ap (set (take i all ++ drop i d) i)
      (z ∙ ap kind (f ∙ ap (marked near) e)
      ∙ sym (get_or-map kind (map (marked near) roots) i (marked near nan) ∙ ap kind (get_or-map (marked near) roots i nan)))
      ∙ copy_more i all d (kind (marked near nan)) (rw long g) h

  pub whole : (d : List ℕ) (i : ℕ) → length roots ≤ i → i ≤ length roots → take i all ++ drop i d ≡ all ++ drop (length roots) d
  whole d i a b =
      let e : i ≡ length all = omega (arith, long) in
      ap (λ (j : ℕ). take j all ++ drop j d) e ∙ ap₂ (λ l (j : ℕ). l ++ drop j d) (take-length all) long

-- the kinds of L by the points N, where both stand in front of other values
pub marked_as : (N L n l : List Float) (r : ℕ) (kinds arose : List ℕ) → n ≡ N → l ≡ L → r ≡ length L → arose ≡ all n l ++ drop (length l) kinds
    → arose ≡ all N L ++ drop r kinds
marked_as N L n l r kinds arose e f g h =
    h ∙ ap₂ (λ (x y : List Float). all x y ++ drop (length y) kinds) e f ∙ ap (λ (j : ℕ). all N L ++ drop j kinds) (sym g)
