-- What a scan of the points puts, value by value, is what the definition collects: the touches and the crossings, in another order.
use Prim.Native.Nat.{suc, ◌≤◌}
use native.Mathlib.Omega.{arith}
use mathlib.Core.Path.{◌≡◌, refl, sym, ap, ap₂, ◌∙◌}
use mathlib.Core.Bool.{Bool, true, false, not, cond}
use mathlib.Core.List.Permᴰ
use mathlib.Core.List.{List, [], ◌∷◌, ◌++◌, append-nil, append_assoc, Permᴰ}
use lib.Dec.{T}
use lib.ListN.{length}
use lib.Ieee.{Float, binary64, fits}
use Rattle.float.specs.Number.{negative}
use Rattle.float.specs.Promises.Order.{Span}
use Rattle.polynomial.specs.Cuts.{cuts, put}
use Rattle.polynomial.specs.Polynomial.{evaluate, near_zero}
use Rattle.polynomial.specs.Roots.{touches, crosses, crossing, crossings, bisected}
use Rattle.polynomial.specs.Promises.Inside.{Ready, touched, crossed}
use Rattle.polynomial.specs.Promises.Lists.{Fit}
use Rattle.polynomial.specs.Laws.Cuts.{cuts_cons, cuts_perm, fit_append, put_most, put_longer}
use Rattle.polynomial.specs.Laws.Bisection.{bisected_in}
use Rattle.polynomial.specs.declared.compensated.Compensated.{Compensated}

-- ---- the scan: l is the list of cuts so far, a the last point, and the others are to come

abbrev pub between : List Compensated → Float → Float → List Float → List Float
between p a b = crossed (evaluate p) a b (evaluate p a) (evaluate p b)

unfoldable pub run : List Compensated → List Float → Float → List Float → List Float
run p l a [] = l
run p l a (b ∷ r) = run p (between p a b (touched p b l)) b r

-- ---- a value that is there by a test

abbrev one : Bool → Float → List Float
one true x = x ∷ []
one false x = []

put_one : (b : Bool) (x : Float) (l : List Float) → cond b (put x (cuts l)) (cuts l) ≡ cuts (one b x ++ l)
put_one true x l = sym (cuts_cons x l)
put_one false x l = refl

fit_one : (b : Bool) (x : Float) → T (fits binary64 x) → Fit (one b x)
fit_one true x h = (h, tt)
fit_one false x h = tt

cond_one : (b : Bool) (x : Float) (l : List Float) → cond b (x ∷ l) l ≡ one b x ++ l
cond_one true x l = refl
cond_one false x l = refl

crossing_one : (b : Bool) (x : Float) (l : List Float) → crossing b (λ _. x) l ≡ one b x ++ l
crossing_one true x l = refl
crossing_one false x l = refl

most : (b : Bool) (x : Float) (l : List Float) → length (cond b (put x l) l) ≤ suc (length l)
most true x l = put_most x l
most false x l = omega arith

pub touched_most : (p : List Compensated) (x : Float) (l : List Float) → length (touched p x l) ≤ suc (length l)
touched_most p x l = most (near_zero p x) x l

least : (b : Bool) (x : Float) (l : List Float) → length l ≤ length (cond b (put x l) l)
least true x l = put_longer x l
least false x l = omega arith

pub touched_least : (p : List Compensated) (x : Float) (l : List Float) → length l ≤ length (touched p x l)
touched_least p x l = least (near_zero p x) x l

pub crossed_least : (f : Float → Float) (lo hi u v : Float) (l : List Float) → length l ≤ length (crossed f lo hi u v l)
crossed_least f lo hi u v l = least (crosses u v) _ l

pub crossed_most : (f : Float → Float) (lo hi u v : Float) (l : List Float) → length (crossed f lo hi u v l) ≤ suc (length l)
crossed_most f lo hi u v l = most (crosses u v) _ l

module _ (p : List Compensated) where
  abbrev end : Float → Float → Float
  end a b = bisected (evaluate p) (not (negative (evaluate p a))) a b

  abbrev touch : Float → List Float
  touch x = one (near_zero p x) x

  abbrev cross : Float → Float → List Float
  cross a b = one (crosses (evaluate p a) (evaluate p b)) (end a b)

  touches_cons : (x : Float) (l : List Float) → touches p (x ∷ l) ≡ touch x ++ touches p l
  unfolding touches
  touches_cons x l = cond_one (near_zero p x) x (touches p l)

  crossings_cons : (a b : Float) (r : List Float) → crossings p (a ∷ (b ∷ r)) ≡ cross a b ++ crossings p (b ∷ r)
  unfolding crossings
  crossings_cons a b r = crossing_one (crosses (evaluate p a) (evaluate p b)) (end a b) (crossings p (b ∷ r))

  -- ---- the values fit

  fit_touches : (l : List Float) → Fit l → Fit (touches p l)
  fit_touches [] f = unfold touches in tt
  fit_touches (x ∷ l) f = rw (touches_cons x l) (fit_append (touch x) (touches p l) (fit_one (near_zero p x) x f.0) (fit_touches l f.1))

  fit_cross : (a b : Float) → Span 2 a b → Fit (cross a b)
  fit_cross a b s = fit_one (crosses (evaluate p a) (evaluate p b)) (end a b) (bisected_in (evaluate p) (not (negative (evaluate p a))) a b s).1

  fit_crossings : (a : Float) (r : List Float) → Ready (a ∷ r) → Fit (crossings p (a ∷ r))
  fit_crossings a [] h = unfold crossings in tt
  fit_crossings a (b ∷ r) h = rw (crossings_cons a b r) (fit_append (cross a b) (crossings p (b ∷ r)) (fit_cross a b h.0) (fit_crossings b r h.1))

  ready_fit : (a : Float) (r : List Float) → Ready (a ∷ r) → Fit r
  ready_fit a [] h = tt
  ready_fit a (b ∷ r) h = (h.0.hi_fits, ready_fit b r h.1)

  fit_both : (a : Float) (r : List Float) → Ready (a ∷ r) → Fit (touches p r ++ crossings p (a ∷ r))
  fit_both a r h = fit_append (touches p r) (crossings p (a ∷ r)) (fit_touches r (ready_fit a r h)) (fit_crossings a r h)

-- ---- the order in which the values come

swap : (a b c : List Float) → Permᴰ (a ++ (b ++ c)) (b ++ (a ++ c))
swap a b c = simp append_assoc at (Permᴰ.append_right c (Permᴰ.append_comm a b))

shuffle : (A B X T E : List Float) → Permᴰ ((A ++ B) ++ (X ++ (T ++ E))) (((T ++ A) ++ (X ++ B)) ++ E)
shuffle A B X T E =
    simp append_assoc
    (Permᴰ.trans (Permᴰ.append_left A (Permᴰ.append_left B (swap X T E)))
    (Permᴰ.trans (Permᴰ.append_left A (swap B T (X ++ E)))
    (Permᴰ.trans (swap A T (B ++ (X ++ E)))
    (Permᴰ.append_left T (Permᴰ.append_left A (swap B X E))))))

module _ (p : List Compensated) where
  run_cuts : (l : List Float) (a : Float) (r : List Float) → Fit l → Ready (a ∷ r) → run p (cuts l) a r ≡ cuts ((touches p r ++ crossings p (a ∷ r)) ++ l)
  unfolding run
  run_cuts l a [] f h = unfold touches crossings in refl
  run_cuts l a (b ∷ r) f h =
      let x = cross p a b in
      let t = touch p b in
      let g = fit_append x (t ++ l) (fit_cross p a b h.0) (fit_append t l (fit_one (near_zero p b) b h.0.hi_fits) f) in
      ap (λ (s : List Float). run p s b r) (ap (between p a b) (put_one (near_zero p b) b l)
      ∙ put_one (crosses (evaluate p a) (evaluate p b)) (end p a b) (t ++ l))
      ∙ run_cuts (x ++ (t ++ l)) b r g h.1
      ∙ cuts_perm (shuffle (touches p r) (crossings p (b ∷ r)) x t l)
      (fit_append (touches p r ++ crossings p (b ∷ r)) (x ++ (t ++ l)) (fit_both p b r h.1) g)
      ∙ ap₂ (λ (y z : List Float). cuts ((y ++ z) ++ l)) (sym (touches_cons p b r)) (sym (crossings_cons p a b r))

  first : (x : Float) → touched p x [] ≡ cuts (touch p x)
  unfolding cuts
  first x = put_one (near_zero p x) x [] ∙ ap cuts (append-nil (touch p x))

  alone : (x : Float) → run p (touched p x []) x [] ≡ cuts (touches p (x ∷ []) ++ crossings p (x ∷ []))
  unfolding run touches crossings
  alone x = first x ∙ ap cuts (sym (append-nil (touch p x ++ []) ∙ append-nil (touch p x)) ∙ sym (ap (λ (y : List Float). y ++ []) (touches_cons p x [])))

  -- from the first point on
  pub scanned : (x : Float) (r : List Float) → Ready (x ∷ r) → run p (touched p x []) x r ≡ cuts (touches p (x ∷ r) ++ crossings p (x ∷ r))
  scanned x [] h = alone x
  scanned x (b ∷ r) h =
      let t = touch p x in
      let m = touches p (b ∷ r) in
      let n = crossings p (x ∷ (b ∷ r)) in
      let f = fit_one (near_zero p x) x h.0.lo_fits in
      ap (λ (s : List Float). run p s x (b ∷ r)) (first x)
      ∙ run_cuts t x (b ∷ r) f h
      ∙ cuts_perm (Permᴰ.append_comm (m ++ n) t) (fit_append (m ++ n) t (fit_both p x (b ∷ r) h) f)
      ∙ ap cuts (sym (append_assoc t m n) ∙ ap (λ (y : List Float). y ++ n) (sym (touches_cons p x (b ∷ r))))
