-- Laws of the values at which joint 1 is tried: the stream from its start is their list, as the limits are among
-- the cuts of the halves already; how many there are at most; the reference is among them.
--
use Rattle.std.specs.Prelude.{◌+◌, ◌*◌, ◌≤◌, ◌≡◌, refl, Bool, true, false, not, cond, T, length, Float}
use Rattle.std.proofs.Common.{arith, subst, ◌∙◌, length-append}
use Rattle.std.proofs.Math.Path.{sym, ap}
use mathlib.Core.List.Permᴰ
use mathlib.Core.List.{List, [], ◌∷◌, ◌++◌, append_assoc, Permᴰ}
use Rattle.std.specs.Float.{nan, inf, fin, binary64}
use Rattle.std.specs.Float.Ieee.{eq, fits, is_nan}
use Rattle.std.specs.Float.Ieee.Bits.{is_true}
use Rattle.float.specs.Number.{total_le}
use Rattle.float.specs.Laws.Total.{eq_refl}
use Rattle.polynomial.specs.Cuts.{sort, rest, dedup, cuts, put}
use Rattle.polynomial.specs.Promises.Lists.{Fit}
use Rattle.polynomial.specs.Laws.Cuts.{fit_append, fit_right, fit_cuts, fit_perm, cuts_perm, cuts_cons, absorb}
use Rattle.polynomial.specs.Laws.Enclosed.{cuts_short}
use Rattle.sampling.specs.Slices.{mids, slices}
use Rattle.polynomial.specs.Kinds.{among}
use Rattle.sampling.specs.Promises.Stream.{weave, stream, distinct, start}
use Rattle.sampling.proofs.Laws.Weave.{weave_perm, weave_fit, weave_length, mids_length}

-- ---- from the start: nothing equals a NaN

eq_nan : (x : Float) → eq x nan ≡ false
unfolding eq
eq_nan nan = refl
eq_nan (inf s) = refl
eq_nan (fin s m e) = refl

rest_nan : (l : List Float) → rest nan l ≡ dedup l
unfolding dedup rest
rest_nan [] = refl
rest_nan (x ∷ l) = rw (eq_nan x)

distinct_cuts : (a b : List Float) (r : Float) → distinct a b r start ≡ cuts (weave a ++ (weave b ++ r ∷ []))
unfolding distinct stream cuts
distinct_cuts a b r = rest_nan (sort (weave a ++ (weave b ++ r ∷ [])))

pub distinct_few : (a b : List Float) (r : Float) → length (distinct a b r start) ≤ length a + length a + (length b + length b + 1)
distinct_few a b r =
    let d = ap length (distinct_cuts a b r) in
    let c = cuts_short (weave a ++ (weave b ++ r ∷ [])) in
    let f = length-append (weave a) (weave b ++ r ∷ []) in
    let g = length-append (weave b) (r ∷ []) in
    let h = weave_length a in
    let k = weave_length b in
    omega arith

-- ---- without the limits

module _ (r : Float) (a b : List Float) (fr : T (fits binary64 r)) (fa : Fit a) (fb : Fit b) where
  -- the reference may stand last
  around : Permᴰ (weave a ++ (weave b ++ r ∷ [])) (r ∷ ((a ++ mids a) ++ (b ++ mids b)))
  around =
      Permᴰ.trans (Permᴰ.append_left (weave a) (Permᴰ.trans (Permᴰ.middle r (weave b) []) (Permᴰ.cons refl (Permᴰ.append-nil (weave b)))))
      (Permᴰ.trans (Permᴰ.middle r (weave a) (weave b))
      (Permᴰ.cons refl (Permᴰ.trans (Permᴰ.append_right (weave b) (weave_perm a)) (Permᴰ.append_left (a ++ mids a) (weave_perm b)))))

  stream_cuts : distinct a b r start ≡ cuts (r ∷ ((a ++ mids a) ++ (b ++ mids b)))
  stream_cuts =
      distinct_cuts a b r
      ∙ cuts_perm around (fit_append (weave a) (weave b ++ r ∷ []) (weave_fit a fa) (fit_append (weave b) (r ∷ []) (weave_fit b fb) (fr, tt)))

-- ---- the halves' cuts were made of the limits, among others

module _ (r lo hi : Float) (a b : List Float) (fr : T (fits binary64 r)) (fl : T (fits binary64 lo)) (fh : T (fits binary64 hi))
    (nl : T (not (is_nan lo))) (nh : T (not (is_nan hi)))
    (fa : Fit a) (fb : Fit b) where
  abbrev p : List Float
  p = cuts (lo ∷ a)

  abbrev q : List Float
  q = cuts (hi ∷ b)

  fit_p : Fit (p ++ mids p)
  fit_p = fit_perm (weave_perm p) (weave_fit p (fit_cuts (lo ∷ a) (fl, fa)))

  fit_q : Fit (q ++ mids q)
  fit_q = fit_perm (weave_perm q) (weave_fit q (fit_cuts (hi ∷ b) (fh, fb)))

  abbrev all : List Float
  all = (p ++ mids p) ++ (q ++ mids q)

  low_in : put lo (cuts all) ≡ cuts all
  low_in = rw (append_assoc p (mids p) (q ++ mids q)) (absorb lo a (mids p ++ (q ++ mids q)) nl fl fa
      (fit_append (mids p) (q ++ mids q) (fit_right p (mids p) fit_p) fit_q))

  high_in : put hi (cuts all) ≡ cuts all
  high_in =
      let e : cuts all ≡ cuts (q ++ (mids q ++ (p ++ mids p))) =
      cuts_perm (Permᴰ.append_comm (p ++ mids p) (q ++ mids q)) (fit_append (p ++ mids p) (q ++ mids q) fit_p fit_q)
      ∙ ap cuts (append_assoc q (mids q) (p ++ mids p)) in
      rw e (absorb hi b (mids q ++ (p ++ mids p)) nh fh fb (fit_append (mids q) (p ++ mids p) (fit_right q (mids q) fit_q) fit_p))

  pub stream_slices : distinct (cuts (lo ∷ a)) (cuts (hi ∷ b)) r start ≡ slices r lo hi (cuts (lo ∷ a)) (cuts (hi ∷ b))
  unfolding slices
  stream_slices =
      stream_cuts r p q fr (fit_cuts (lo ∷ a) (fl, fa)) (fit_cuts (hi ∷ b) (fh, fb))
      ∙ sym (
      cuts_cons r (lo ∷ hi ∷ all)
      ∙ ap (put r) (cuts_cons lo (hi ∷ all) ∙ ap (put lo) (cuts_cons hi all ∙ high_in) ∙ low_in)
      ∙ sym (cuts_cons r all)
      )

-- the same for lists as they are pushed: the first half's begins with the lower limit, the second's with the middle x and then the upper limit
pub halves_slices : (r lo hi x : Float) (a b l m : List Float) → l ≡ lo ∷ a → m ≡ x ∷ hi ∷ b → T (fits binary64 r) → T (not (is_nan lo))
    → T (not (is_nan hi)) → Fit l → Fit m
    → distinct (cuts l) (cuts m) r start ≡ slices r lo hi (cuts l) (cuts m)
halves_slices r lo hi x a b l m e g fr nl nh fl fm =
    let f : Fit (lo ∷ a) = subst Fit e fl in
    let h : Fit (x ∷ hi ∷ b) = subst Fit g fm in
    let k : cuts (hi ∷ x ∷ b) ≡ cuts (x ∷ hi ∷ b) = cuts_perm (Permᴰ.swap refl refl) (h.1.0, (h.0, h.1.1)) in
    let s = stream_slices r lo hi a (x ∷ b) fr f.0 h.1.0 nl nh f.1 (h.0, h.1.1) in
    subst (λ (z : List Float). distinct (cuts l) z r start ≡ slices r lo hi (cuts l) z) (k ∙ ap cuts (sym g))
    (subst (λ (z : List Float). distinct z (cuts (hi ∷ x ∷ b)) r start ≡ slices r lo hi z (cuts (hi ∷ x ∷ b))) (ap cuts (sym e)) s)

-- ---- how many

pub slices_few : (r lo hi : Float) (a b : List Float) → length (slices r lo hi a b) ≤ 3 + 2 * length a + 2 * length b
unfolding slices
slices_few r lo hi a b =
    let all = (a ++ mids a) ++ (b ++ mids b) in
    let c = cuts_short (r ∷ lo ∷ hi ∷ all) in
    let d = length-append (a ++ mids a) (b ++ mids b) in
    let e = length-append a (mids a) in
    let f = length-append b (mids b) in
    let g = mids_length a in
    let h = mids_length b in
    omega arith

-- ---- the reference

among_put : (v : Float) (l : List Float) → T (not (is_nan v)) → among v (put v l) ≡ true
unfolding among put
among_put v [] n = simp (is_true (eq v v) (eq_refl v n))
among_put v (y ∷ l) n = go (total_le v y) (eq y v) (eq v y) refl (among_put v l n)
  where
    self : eq v v ≡ true
    self = is_true (eq v v) (eq_refl v n)

    go : (a b c : Bool) → eq v y ≡ c → among v (put v l) ≡ true → among v (cond a (cond b (v ∷ l) (v ∷ y ∷ l)) (cond c (y ∷ l) (y ∷ put v l))) ≡ true
    go true true c e k = simp self
    go true false c e k = simp self
    go false b true e k = simp e
    go false b false e k = simp (e, k)

-- it stands in the list even outside the limits
pub reference_in : (r lo hi : Float) (a b : List Float) → T (not (is_nan r)) → among r (slices r lo hi a b) ≡ true
unfolding slices
reference_in r lo hi a b n =
    let all = (a ++ mids a) ++ (b ++ mids b) in
    ap (among r) (cuts_cons r (lo ∷ hi ∷ all)) ∙ among_put r (cuts (lo ∷ hi ∷ all)) n
