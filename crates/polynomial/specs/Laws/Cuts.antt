-- Laws of `sort`, `dedup`, `cuts` and `put`. Those of `put` hold for every value, NaN included. Where values change places,
-- as in `cuts-perm`, they have to fit the format, so that values which `total_cmp` does not tell apart are one.
-- A list of cuts increases strictly, and a list that does is its own list of cuts.
use Prim.Native.Nat.{ℕ, suc, ◌≤◌}
use Rattle.std.proofs.Common.{le_refl, sym, ap, subst, ◌∙◌}
use native.Mathlib.Omega.{arith}
use Rattle.std.specs.Prelude.{◌≡◌, refl, Bool, not, cond, T, drop, Float}
use Rattle.std.proofs.Math.Bool.{true, false}
use mathlib.Core.List.Permᴰ
use mathlib.Core.List.{List, [], ◌∷◌, ◌++◌, Permᴰ}
use Rattle.std.proofs.Math.ListN.{length}
use Rattle.std.specs.Float.{binary64}
use Rattle.std.specs.Float.Ieee.{eq, fits, is_nan}
use Rattle.std.specs.Float.Ieee.Bits.{is_true}
use Rattle.float.specs.Number.{total_le}
use Rattle.polynomial.specs.Cuts.{ins, sort, rest, dedup, cuts, put}
use Rattle.polynomial.specs.Promises.Lists.{All, From, Sorted, Fits, Fit}
use Rattle.polynomial.specs.Laws.Lists.{all_append, all_right, all_drop}
use Rattle.float.specs.Laws.Total.{total_le_total, total_le_trans, total_le_refl, total_le_antisym, eq_refl, between_low, eq_sym, eq_cong}

-- ---- order

pub from_sorted : (p : Float) (l : List Float) → From p l → Sorted l
from_sorted p [] f = tt
from_sorted p (y ∷ l) f = f.1

pub from_lower : (q p : Float) (l : List Float) → T (total_le q p) → From p l → From q l
from_lower q p [] h f = tt
from_lower q p (y ∷ l) h f = (total_le_trans q p y h f.0, f.1)

pub from_ins : (p v : Float) (l : List Float) → T (total_le p v) → From p l → From p (ins v l)
unfolding ins
from_ins p v [] h f = (h, tt)
from_ins p v (y ∷ l) h f = go (total_le v y) refl (λ g. from_ins y v l g f.1)
  where
    go : (b : Bool) → total_le v y ≡ b → (T (total_le y v) → From y (ins v l)) → From p (ins v (y ∷ l))
    go true b ih = rw b (h, (subst T (sym b) tt, f.1))
    go false b ih = rw b (f.0, ih (total_le_total v y b))

sorted_ins : (v : Float) (l : List Float) → Sorted l → Sorted (ins v l)
unfolding ins
sorted_ins v [] f = tt
sorted_ins v (y ∷ l) f = go (total_le v y) refl
  where
    go : (b : Bool) → total_le v y ≡ b → Sorted (ins v (y ∷ l))
    go true b = rw b (subst T (sym b) tt, f)
    go false b = rw b (from_ins y v l (total_le_total v y b) f)

pub sorted_sort : (l : List Float) → Sorted (sort l)
unfolding sort
sorted_sort [] = tt
sorted_sort (x ∷ l) = sorted_ins x (sort l) (sorted_sort l)

-- a list in order is sorted already
pub ins_first : (x : Float) (l : List Float) → From x l → ins x l ≡ x ∷ l
unfolding ins
ins_first x [] f = refl
ins_first x (y ∷ l) f = rw (is_true (total_le x y) f.0)

pub sort_sorted : (l : List Float) → Sorted l → sort l ≡ l
unfolding sort
sort_sorted [] f = refl
sort_sorted (x ∷ l) f = ap (ins x) (sort_sorted l (from_sorted x l f)) ∙ ins_first x l f

-- ---- one more value

-- behind p, a value that equals p is dropped
rest_ins_same : (p v : Float) (l : List Float) → From p l → T (total_le p v) → T (eq v p) → rest p (ins v l) ≡ rest p l
unfolding rest ins
rest_ins_same p v [] f h e = rw (is_true (eq v p) e)
rest_ins_same p v (y ∷ l) f h e = go (total_le v y) refl (rest_ins_same p v l (from_lower p y l f.0 f.1) h e)
  where
    go : (b : Bool) → total_le v y ≡ b → rest p (ins v l) ≡ rest p l → rest p (ins v (y ∷ l)) ≡ rest p (y ∷ l)
    go true b ih = rw (b, is_true (eq v p) e)
    go false b ih = rw (b, is_true (eq y p) (between_low p y v f.0 (total_le_total v y b) e)) ih

rest_same : (a b : Float) (l : List Float) → T (eq a b) → rest a l ≡ rest b l
unfolding rest
rest_same a b [] e = refl
rest_same a b (y ∷ l) e = rw (eq_cong y a b e, rest_same a b l e)

-- a value before y, and not equal to y's forerunner
front : (v y : Float) (l : List Float) → T (total_le v y) → v ∷ rest v (y ∷ l) ≡ put v (y ∷ rest y l)
unfolding rest put
front v y l h = go (eq y v) refl
  where
    go : (b : Bool) → eq y v ≡ b → v ∷ rest v (y ∷ l) ≡ put v (y ∷ rest y l)
    go true b = rw (is_true (total_le v y) h, b, rest_same v y l (eq_sym y v (subst T (sym b) tt)))
    go false b = rw (is_true (total_le v y) h, b)

-- behind p, a value that does not equal p goes to its place
rest_ins : (p v : Float) (l : List Float) → From p l → T (total_le p v) → eq v p ≡ false → rest p (ins v l) ≡ put v (rest p l)
unfolding rest ins put
rest_ins p v [] f h e = rw e
rest_ins p v (y ∷ l) f h e =
    go (total_le v y) refl (eq y p) refl (eq v y) refl (rest_ins p v l (from_lower p y l f.0 f.1) h e) (λ g n. rest_ins y v l f.1 g n)
  where
    go : (b : Bool) → total_le v y ≡ b → (k : Bool) → eq y p ≡ k → (n : Bool) → eq v y ≡ n
        → rest p (ins v l) ≡ put v (rest p l) → (T (total_le y v) → eq v y ≡ false → rest y (ins v l) ≡ put v (rest y l))
        → rest p (ins v (y ∷ l)) ≡ put v (rest p (y ∷ l))
    go true b true k n m ih ih' = absurd (subst T e (between_low p v y h (subst T (sym b) tt) (subst T (sym k) tt)))
    go true b false k n m ih ih' = rw (b, e, k) (front v y l (subst T (sym b) tt))
    go false b true k n m ih ih' = rw (b, k) ih
    go false b false k true m ih ih' = rw (b, k, b, m, rest_ins_same y v l f.1 (total_le_total v y b) (subst T (sym m) tt))
    go false b false k false m ih ih' = rw (b, k, b, m, ih' (total_le_total v y b) m)

dedup_ins : (v : Float) (l : List Float) → Sorted l → dedup (ins v l) ≡ put v (dedup l)
unfolding dedup ins put
dedup_ins v [] f = refl
dedup_ins v (y ∷ l) f = go (total_le v y) refl (eq v y) refl
  where
    go : (b : Bool) → total_le v y ≡ b → (n : Bool) → eq v y ≡ n → dedup (ins v (y ∷ l)) ≡ put v (dedup (y ∷ l))
    go true b n m = ap (λ (c : Bool). dedup (cond c (v ∷ y ∷ l) (y ∷ ins v l))) b ∙ front v y l (subst T (sym b) tt)
    go false b true m = rw (b, m, rest_ins_same y v l f (total_le_total v y b) (subst T (sym m) tt))
    go false b false m = rw (b, m, rest_ins y v l f (total_le_total v y b) m)

-- THE LAW of a list that grows value by value
pub cuts_cons : (v : Float) (l : List Float) → cuts (v ∷ l) ≡ put v (cuts l)
unfolding cuts sort
cuts_cons v l = dedup_ins v (sort l) (sorted_sort l)

-- ---- a list that increases strictly is its own list of cuts

abbrev pub Above : Float → List Float → Type 0
Above p [] = Unit {0}
Above p (y ∷ l) = T (total_le p y) × (eq y p ≡ false) × Above y l

abbrev pub Strict : List Float → Type 0
Strict [] = Unit {0}
Strict (x ∷ l) = Above x l

above_from : (p : Float) (l : List Float) → Above p l → From p l
above_from p [] f = tt
above_from p (y ∷ l) f = (f.0, above_from y l f.2)

rest_above : (p : Float) (l : List Float) → Above p l → rest p l ≡ l
unfolding rest
rest_above p [] f = refl
rest_above p (y ∷ l) f = rw f.1 (ap (λ (r : List Float). y ∷ r) (rest_above y l f.2))

pub cuts_strict : (l : List Float) → Strict l → cuts l ≡ l
unfolding cuts dedup
cuts_strict [] f = refl
cuts_strict (x ∷ l) f = ap dedup (sort_sorted (x ∷ l) (above_from x l f)) ∙ ap (λ (r : List Float). x ∷ r) (rest_above x l f)

above_rest : (p : Float) (l : List Float) → From p l → Above p (rest p l)
unfolding rest
above_rest p [] f = tt
above_rest p (y ∷ l) f = go (eq y p) refl (above_rest p l (from_lower p y l f.0 f.1)) (above_rest y l f.1)
  where
    go : (b : Bool) → eq y p ≡ b → Above p (rest p l) → Above y (rest y l) → Above p (rest p (y ∷ l))
    go true b i j = rw b i
    go false b i j = rw (b) (f.0, b, j)

strict_dedup : (l : List Float) → Sorted l → Strict (dedup l)
unfolding dedup
strict_dedup [] f = tt
strict_dedup (x ∷ l) f = above_rest x l f

pub strict_cuts : (l : List Float) → Strict (cuts l)
unfolding cuts
strict_cuts l = strict_dedup (sort l) (sorted_sort l)

pub cuts_cuts : (l : List Float) → cuts (cuts l) ≡ cuts l
cuts_cuts l = cuts_strict (cuts l) (strict_cuts l)

-- ---- the length

module _ (v : Float) where
  pub put_longer : (l : List Float) → length l ≤ length (put v l)
  unfolding put
  put_longer [] = omega arith
  put_longer (y ∷ l) = go (total_le v y) (eq y v) (eq v y) (put_longer l)
    where
      go : (a b c : Bool) → length l ≤ length (put v l)
          → suc (length l) ≤ length (cond a (cond b (v ∷ l) (v ∷ y ∷ l)) (cond c (y ∷ l) (y ∷ put v l)))
      go true true c h = omega arith
      go true false c h = omega arith
      go false b true h = omega arith
      go false b false h = omega arith

  pub put_most : (l : List Float) → length (put v l) ≤ suc (length l)
  unfolding put
  put_most [] = omega arith
  put_most (y ∷ l) = go (total_le v y) (eq y v) (eq v y) (put_most l)
    where
      go : (a b c : Bool) → length (put v l) ≤ suc (length l)
          → length (cond a (cond b (v ∷ l) (v ∷ y ∷ l)) (cond c (y ∷ l) (y ∷ put v l))) ≤ suc (suc (length l))
      go true true c h = omega arith
      go true false c h = omega arith
      go false b true h = omega arith
      go false b false h = omega arith

-- more values, no fewer cuts
cuts_longer : (a b : List Float) → length (cuts b) ≤ length (cuts (a ++ b))
cuts_longer [] b = le_refl (length (cuts b))
cuts_longer (x ∷ a) b =
    let h = cuts_longer a b in
    let k = put_longer x (cuts (a ++ b)) in
    rw (cuts_cons x (a ++ b)) (omega arith)

-- ---- values may change places, if they fit

two : (x y : Float) (l : List Float) → T (fits binary64 x) → T (fits binary64 y)
    → cond {A = List Float} (total_le x y) (x ∷ y ∷ l) (y ∷ x ∷ l) ≡ cond {A = List Float} (total_le y x) (y ∷ x ∷ l) (x ∷ y ∷ l)
two x y l fx fy = go (total_le x y) refl (total_le y x) refl
  where
    go : (a : Bool) → total_le x y ≡ a → (b : Bool) → total_le y x ≡ b
        → cond {A = List Float} (total_le x y) (x ∷ y ∷ l) (y ∷ x ∷ l) ≡ cond {A = List Float} (total_le y x) (y ∷ x ∷ l) (x ∷ y ∷ l)
    go true a true b =
        let e : x ≡ y = total_le_antisym x y fx fy (subst T (sym a) tt) (subst T (sym b) tt) in
        rw (a, b) (λ i. e i ∷ sym e i ∷ l)
    go true a false b = rw (a, b)
    go false a true b = rw (a, b)
    go false a false b = absurd (subst T b (total_le_total x y a))

not_before : (x y z : Float) → T (total_le y z) → total_le x z ≡ false → total_le x y ≡ false
not_before x y z h n = go (total_le x y) refl
  where
    go : (b : Bool) → total_le x y ≡ b → total_le x y ≡ false
    go true b = absurd (subst T n (total_le_trans x y z (subst T (sym b) tt) h))
    go false b = b

ins_swap : (x y : Float) (l : List Float) → T (fits binary64 x) → T (fits binary64 y) → ins x (ins y l) ≡ ins y (ins x l)
unfolding ins
ins_swap x y [] fx fy = two x y [] fx fy
ins_swap x y (z ∷ l) fx fy = go (total_le x z) refl (total_le y z) refl (ins_swap x y l fx fy)
  where
    go : (a : Bool) → total_le x z ≡ a → (b : Bool) → total_le y z ≡ b → ins x (ins y l) ≡ ins y (ins x l) → ins x (ins y (z ∷ l)) ≡ ins y (ins x (z ∷ l))
    go true a true b ih = simp (a, b) (two x y (z ∷ l) fx fy)
    go true a false b ih = simp (a, b, not_before y x z (subst T (sym a) tt) b)
    go false a true b ih = simp (a, b, not_before x y z (subst T (sym b) tt) a)
    go false a false b ih = simp (a, b, ih)

pub fit_perm : {a b : List Float} → Permᴰ a b → Fit a → Fit b
fit_perm Permᴰ.nil f = tt
fit_perm (Permᴰ.cons e d) f = (subst (λ (x : Float). T (fits binary64 x)) e f.0, fit_perm d f.1)
fit_perm (Permᴰ.swap e₁ e₂) f =
    (subst (λ (x : Float). T (fits binary64 x)) e₂ f.1.0, (subst (λ (x : Float). T (fits binary64 x)) e₁ f.0, f.1.1))
fit_perm (Permᴰ.trans d₁ d₂) f = fit_perm d₂ (fit_perm d₁ f)

pub sort_perm : {a b : List Float} → Permᴰ a b → Fit a → sort a ≡ sort b
unfolding sort
sort_perm Permᴰ.nil f = refl
sort_perm (Permᴰ.cons e d) f = λ i. ins (e i) (sort_perm d f.1 i)
sort_perm (Permᴰ.swap {a} {b} {l = l} e₁ e₂) f = ins_swap a b (sort l) f.0 f.1.0 ∙ (λ i. ins (e₂ i) (ins (e₁ i) (sort l)))
sort_perm (Permᴰ.trans d₁ d₂) f = sort_perm d₁ f ∙ sort_perm d₂ (fit_perm d₁ f)

pub cuts_perm : {a b : List Float} → Permᴰ a b → Fit a → cuts a ≡ cuts b
unfolding cuts
cuts_perm d f = ap dedup (sort_perm d f)

pub fit_append : (a b : List Float) → Fit a → Fit b → Fit (a ++ b)
fit_append = all_append Fits

pub fit_right : (a b : List Float) → Fit (a ++ b) → Fit b
fit_right = all_right Fits

-- a push to the end
pub cuts_snoc : (l : List Float) (v : Float) → Fit l → T (fits binary64 v) → cuts (l ++ v ∷ []) ≡ put v (cuts l)
cuts_snoc l v f h = cuts_perm (Permᴰ.append_comm l (v ∷ [])) (fit_append l (v ∷ []) f (h, tt)) ∙ cuts_cons v l

-- cutting a part beforehand changes nothing
cuts_right : (a b : List Float) → cuts (a ++ cuts b) ≡ cuts (a ++ b)
cuts_right [] b = cuts_cuts b
cuts_right (x ∷ a) b = cuts_cons x (a ++ cuts b) ∙ ap (put x) (cuts_right a b) ∙ sym (cuts_cons x (a ++ b))

-- what holds of all elements holds of all cuts
module _ (P : Float → Type 0) where
  all_put : (v : Float) (l : List Float) → P v → All P l → All P (put v l)
  unfolding put
  all_put v [] p h = (p, tt)
  all_put v (y ∷ l) p h = go (total_le v y) (eq y v) (eq v y) (all_put v l p h.1)
    where
      go : (a b c : Bool) → All P (put v l) → All P (cond a (cond b (v ∷ l) (v ∷ y ∷ l)) (cond c (y ∷ l) (y ∷ put v l)))
      go true true c k = (p, h.1)
      go true false c k = (p, h)
      go false b true k = h
      go false b false k = (h.0, k)

  pub all_cuts : (l : List Float) → All P l → All P (cuts l)
  all_cuts [] h = unfold cuts in tt
  all_cuts (x ∷ l) h = rw (cuts_cons x l) (all_put x (cuts l) h.0 (all_cuts l h.1))

pub fit_cuts : (l : List Float) → Fit l → Fit (cuts l)
fit_cuts = all_cuts Fits

pub cuts_left : (a b : List Float) → Fit a → Fit b → cuts (cuts a ++ b) ≡ cuts (a ++ b)
cuts_left a b f g =
    cuts_perm (Permᴰ.append_comm (cuts a) b) (fit_append (cuts a) b (fit_cuts a f) g)
    ∙ cuts_right b a
    ∙ cuts_perm (Permᴰ.append_comm b a) (fit_append b a g f)

pub cuts_longer_left : (a b : List Float) → Fit a → Fit b → length (cuts a) ≤ length (cuts (a ++ b))
cuts_longer_left a b f g = rw (cuts_perm (Permᴰ.append_comm a b) (fit_append a b f g)) (cuts_longer b a)

pub fit_drop : (k : ℕ) (l : List Float) → Fit l → Fit (drop k l)
fit_drop = all_drop Fits

-- ---- a number twice is as one

put_twice : (v : Float) (l : List Float) → T (not (is_nan v)) → put v (put v l) ≡ put v l
unfolding put
put_twice v [] n = simp (is_true (total_le v v) (total_le_refl v), is_true (eq v v) (eq_refl v n))
put_twice v (y ∷ l) n = go (total_le v y) refl (eq y v) refl (eq v y) refl (put_twice v l n)
  where
    go : (a : Bool) → total_le v y ≡ a → (b : Bool) → eq y v ≡ b → (c : Bool) → eq v y ≡ c → put v (put v l) ≡ put v l → put v (put v (y ∷ l)) ≡ put v (y ∷ l)
    go true a true b c e ih = simp (a, b, is_true (total_le v v) (total_le_refl v), is_true (eq v v) (eq_refl v n))
    go true a false b c e ih = simp (a, b, is_true (total_le v v) (total_le_refl v), is_true (eq v v) (eq_refl v n))
    go false a b e true c ih = simp (a, c)
    go false a b e false c ih = simp (a, c, ih)

-- a value that a list of cuts was made of is in it already
pub absorb : (v : Float) (a b : List Float) → T (not (is_nan v)) → T (fits binary64 v) → Fit a → Fit b
    → put v (cuts (cuts (v ∷ a) ++ b)) ≡ cuts (cuts (v ∷ a) ++ b)
absorb v a b n h f g =
    let e : cuts (cuts (v ∷ a) ++ b) ≡ put v (cuts (a ++ b)) = cuts_left (v ∷ a) b (h, f) g ∙ cuts_cons v (a ++ b) in
    rw e (put_twice v (cuts (a ++ b)) n)
