-- For bounds that can be bisected, `Span 2 lower upper`: every root and every partition point is a finite float
-- of the format between the bounds, so none is a NaN. Points and roots increase strictly,
-- so that two neighbouring points are an interval that can be bisected. A polynomial of trimmed degree d ≥ 1 has at most 2 ^ (d + 1) - 3 roots.
use Prim.Native.Nat.{ℕ, zero, suc, ◌+◌, ◌-◌, ◌*◌, ◌^◌, ◌≤◌, ◌<◌, zero-le, suc-le-suc}
use Rattle.std.proofs.Common.{le_refl, le_of_lt, le_trans, le_of_suc-le-suc, ap, sym, ◌∙◌, subst, length-append}
use Rattle.std.proofs.Math.Nat.{le-suc, pow-suc}
use native.Mathlib.Omega.{arith}
use Rattle.std.specs.Prelude.{◌≡◌, Bool, not, ◌&&◌, ◌||◌, cond, T, pos, length, get_or}
use Rattle.std.proofs.Math.Path.{refl}
use Rattle.std.proofs.Math.Bool.{true, false}
use mathlib.Core.List.{List, [], ◌∷◌, ◌++◌}
use Rattle.std.proofs.Math.Pow.{pow_mono}
use Rattle.std.specs.Float.Ieee.{Float, binary64, is_nan, lt, eq, le, neg}
use Rattle.std.specs.Float.{fin}
use Rattle.std.specs.Float.Ieee.Scale.{finite}
use Rattle.std.specs.Float.Ieee.Fits.{div-fits, and_i}
use Rattle.float.specs.Number.{◌⊘◌, negative, total_le}
use Rattle.float.specs.Laws.Interval.{in_of, Le-refl, Le-trans}
use Rattle.float.specs.Promises.Order.{Within, Span}
use Rattle.float.specs.Laws.Within.{within→Le, Le→within}
use Rattle.float.specs.Laws.Whole.{Le-units, lt_units}
use Rattle.float.specs.Laws.Total.{eq_comm}
use Rattle.float.specs.Laws.Tests.{total_le_unequal, finite_number}
use Rattle.polynomial.specs.Compensated.{value}
use Rattle.polynomial.specs.Cuts.{cuts, put}
use Rattle.polynomial.specs.Promises.Inside.{Ready, found}
use Rattle.polynomial.specs.Polynomial.{zero_pair, evaluate, near_zero, trim, derivative}
use Rattle.polynomial.specs.Roots.{partitions, touches, crosses, crossing, crossings, bisected, quotient, by_count, roots_at, roots}
use Rattle.polynomial.specs.declared.compensated.Compensated.{Compensated}
use Rattle.polynomial.specs.Promises.Lists.{Fit, All}
use Rattle.polynomial.specs.Laws.Cuts.{cuts_cons, put_most, put_longer, Above, Strict, strict_cuts, cuts_strict, cuts_snoc, all_cuts}
use Rattle.polynomial.specs.Laws.Degree.{trim_short, derivative_length, counted, counted_short, count_low, enough}
use Rattle.polynomial.specs.Laws.Bisection.{Between, bisected_in}
use Rattle.polynomial.specs.Laws.Lists.{all_append}

-- ---- every element

module _ (P : Float → Type 0) where
  touches_all : (p : List Compensated) (l : List Float) → All P l → All P (touches p l)
  unfolding touches
  touches_all p [] h = tt
  touches_all p (x ∷ l) h = go (near_zero p x) (touches_all p l h.1)
    where
      go : (b : Bool) → All P (touches p l) → All P (cond b (x ∷ touches p l) (touches p l))
      go true k = (h.0, k)
      go false k = k

-- ---- strictly increasing

-- each is less than the next
abbrev pub Rising : List Float → Type 0
Rising [] = Unit {0}
Rising (a ∷ []) = Unit {0}
Rising (a ∷ (b ∷ l)) = T (lt a b) × Rising (b ∷ l)

-- neighbours in a strict list, where the later one is finite
pub less : (a b : Float) → T (finite b) → T (total_le a b) → eq b a ≡ false → T (lt a b)
less a b p t e = go (lt a b) (is_nan b) (finite_number b p) (subst T (total_le_unequal a b (lt a b) (eq_comm a b ∙ e) refl) t)
  where
    go : (l n : Bool) → T (not n) → T (l || n) → T l
    go true n k h = tt
    go false true k h = k
    go false false k h = h

quotient_strict : (a b : Compensated) (lower upper : Float) → Strict (quotient a b lower upper)
unfolding quotient
quotient_strict a b lower upper = go (le lower root && le root upper)
  where
    root : Float
    root = neg (value a) ⊘ value b

    go : (x : Bool) → Strict (cond x (root ∷ []) [])
    go true = tt
    go false = tt

module _ (lower upper : Float) where
  count_strict : (m : ℕ) (p : List Compensated) (inner : Unit {0} → List Float) → Strict (by_count m p lower upper inner)
  unfolding by_count
  count_strict zero p inner = tt
  count_strict (suc zero) p inner = tt
  count_strict (suc (suc zero)) p inner = quotient_strict (get_or p 0 zero_pair) (get_or p 1 zero_pair) lower upper
  count_strict (suc (suc (suc m))) p inner = let points = partitions lower upper (inner tt) in strict_cuts (touches p points ++ crossings p points)

  -- the roots are their own cuts
  pub roots_strict : (n : ℕ) (p : List Compensated) → Strict (roots_at n p lower upper)
  unfolding roots_at
  roots_strict zero p = tt
  roots_strict (suc k) p = count_strict (counted (trim p)) (trim p) (λ _. roots_at k (derivative (trim p)) lower upper)

-- ---- between the bounds

between_finite : {lo hi z : Float} → Between lo hi z → T (finite z)
between_finite b = b.0.lower.second

pub between_number : {lo hi z : Float} → Between lo hi z → T (not (is_nan z))
between_number {z = z} b = finite_number z (between_finite b)

module _ (lower upper : Float) (s : Span 2 lower upper) where
  at_lower : Between lower upper lower
  at_lower = (record { lower = Le-refl lower s.lo_within.real; upper = s.order }, s.lo_fits)

  at_upper : Between lower upper upper
  at_upper = (record { lower = s.order; upper = Le-refl upper s.hi_within.real }, s.hi_fits)

  fit_all : (l : List Float) → All (Between lower upper) l → Fit l
  fit_all [] h = tt
  fit_all (x ∷ l) h = (h.0.1, fit_all l h.1)

  small : (z : Float) → Between lower upper z → Within (fin false 1 (pos 2)) z
  small z b = Le→within tt (Le-trans b.0.upper (within→Le tt tt s.hi_within).0) (Le-trans (within→Le tt tt s.lo_within).1 b.0.lower)

  span_of : (a b : Float) → Between lower upper a → Between lower upper b → T (lt a b) → Span 2 a b
  span_of a b f g l =
      let p = between_finite f in
      let q = between_finite g in
      record {
        room = s.room;
        lo_fits = f.1;
        hi_fits = g.1;
        lo_within = small a f;
        hi_within = small b g;
        order = (Le-units binary64 a b f.1 p g.1 q).1 (le_of_lt ((lt_units binary64 a b f.1 p g.1 q).0 l));
      }

  rising_above : (a : Float) (l : List Float) → All (Between lower upper) l → Above a l → Rising (a ∷ l)
  rising_above a [] h r = tt
  rising_above a (b ∷ l) h r = (less a b (between_finite h.0) r.0 r.1, rising_above b l h.1 r.2)

  rising : (l : List Float) → All (Between lower upper) l → Strict l → Rising l
  rising [] h r = tt
  rising (a ∷ l) h r = rising_above a l h.1 r

  ready : (l : List Float) → All (Between lower upper) l → Rising l → Ready l
  ready [] h r = tt
  ready (a ∷ []) h r = tt
  ready (a ∷ (b ∷ l)) h r = (span_of a b h.0 h.1.0 r.0, ready (b ∷ l) h.1 r.1)

  -- ---- partition points, of any values between the bounds

  module _ (inner : List Float) (h : All (Between lower upper) inner) where
    pub points_in : All (Between lower upper) (partitions lower upper inner)
    points_in = all_cuts (Between lower upper) (lower ∷ (inner ++ (upper ∷ [])))
        (at_lower, all_append (Between lower upper) inner (upper ∷ []) h (at_upper, tt))

    pub points_rising : Rising (partitions lower upper inner)
    points_rising = rising (partitions lower upper inner) points_in (strict_cuts (lower ∷ (inner ++ (upper ∷ []))))

    pub points_ready : Ready (partitions lower upper inner)
    points_ready = ready (partitions lower upper inner) points_in points_rising

    -- the bounds put into a list of cuts
    pub points_put : Strict inner → put upper (put lower inner) ≡ partitions lower upper inner
    points_put r =
        sym (cuts_snoc (lower ∷ inner) upper (s.lo_fits, fit_all inner h) s.hi_fits
        ∙ ap (put upper) (cuts_cons lower inner ∙ ap (put lower) (cuts_strict inner r)))

  -- ---- roots

  crossings_in : (p : List Compensated) (l : List Float) → All (Between lower upper) l → Ready l → All (Between lower upper) (crossings p l)
  unfolding crossings
  crossings_in p [] h r = tt
  crossings_in p (a ∷ []) h r = tt
  crossings_in p (a ∷ (b ∷ l)) h r = go (crosses (evaluate p a) (evaluate p b)) (crossings_in p (b ∷ l) h.1 r.1)
    where
      z : Float
      z = bisected (evaluate p) (not (negative (evaluate p a))) a b

      here : Between lower upper z
      here =
          let i = bisected_in (evaluate p) (not (negative (evaluate p a))) a b r.0 in
          (record { lower = Le-trans h.0.0.lower i.0.lower; upper = Le-trans i.0.upper h.1.0.0.upper }, i.1)

      go : (c : Bool) → All (Between lower upper) (crossings p (b ∷ l)) → All (Between lower upper) (crossing c (λ _. z) (crossings p (b ∷ l)))
      go true k = (here, k)
      go false k = k

  quotient_in : (a b : Compensated) → All (Between lower upper) (quotient a b lower upper)
  unfolding quotient
  quotient_in a b = go (le lower root) (le root upper) (λ t u. (in_of lower upper root both t u, div-fits binary64 (neg (value a)) (value b)))
    where
      root : Float
      root = neg (value a) ⊘ value b

      both : T (finite lower && finite upper)
      both = and_i (finite lower) (finite upper) s.lo_within.real s.hi_within.real

      go : (x y : Bool) → (T x → T y → Between lower upper root) → All (Between lower upper) (cond (x && y) (root ∷ []) [])
      go true true f = (f tt tt, tt)
      go true false f = tt
      go false true f = tt
      go false false f = tt

  count_in : (m : ℕ) (p : List Compensated) (inner : Unit {0} → List Float) → All (Between lower upper) (inner tt)
      → All (Between lower upper) (by_count m p lower upper inner)
  unfolding by_count
  count_in zero p inner h = tt
  count_in (suc zero) p inner h = tt
  count_in (suc (suc zero)) p inner h = quotient_in (get_or p 0 zero_pair) (get_or p 1 zero_pair)
  count_in (suc (suc (suc m))) p inner h =
      let points = partitions lower upper (inner tt) in
      let i = points_in (inner tt) h in
      all_cuts (Between lower upper) (touches p points ++ crossings p points)
      (all_append (Between lower upper) (touches p points) (crossings p points) (touches_all (Between lower upper) p points i)
      (crossings_in p points i (points_ready (inner tt) h)))

  pub roots_in : (n : ℕ) (p : List Compensated) → All (Between lower upper) (roots_at n p lower upper)
  unfolding roots_at
  roots_in zero p = tt
  roots_in (suc k) p = count_in (counted (trim p)) (trim p) (λ _. roots_at k (derivative (trim p)) lower upper) (roots_in k (derivative (trim p)))

  roots_rising : (n : ℕ) (p : List Compensated) → Rising (roots_at n p lower upper)
  roots_rising n p = rising (roots_at n p lower upper) (roots_in n p) (roots_strict lower upper n p)

-- ---- how many

cond_le : (b : Bool) (x y : List Float) (n : ℕ) → length x ≤ n → length y ≤ n → length (cond b x y) ≤ n
cond_le true x y n h k = h
cond_le false x y n h k = k

pub cuts_short : (l : List Float) → length (cuts l) ≤ length l
cuts_short [] = unfold cuts in zero-le
cuts_short (x ∷ l) = rw (cuts_cons x l) (le_trans (put_most x (cuts l)) (suc-le-suc (cuts_short l)))

put_some : (v : Float) (l : List Float) → 0 < length (put v l)
unfolding put
put_some v [] = le_refl 1
put_some v (y ∷ l) = let k = put_longer v (y ∷ l) in omega arith

touches_short : (p : List Compensated) (l : List Float) → length (touches p l) ≤ length l
unfolding touches
touches_short p [] = zero-le
touches_short p (x ∷ l) = cond_le (near_zero p x) (x ∷ touches p l) (touches p l) (suc (length l)) (suc-le-suc (touches_short p l))
    (le_trans (touches_short p l) (le-suc (length l)))

crossings_short : (p : List Compensated) (l : List Float) → length (crossings p l) ≤ length l - 1
unfolding crossings
crossings_short p [] = zero-le
crossings_short p (a ∷ []) = zero-le
crossings_short p (a ∷ (b ∷ l)) = go (crosses (evaluate p a) (evaluate p b)) (crossings_short p (b ∷ l))
  where
    go : (c : Bool) → length (crossings p (b ∷ l)) ≤ suc (length l) - 1
        → length (crossing c (λ _. bisected (evaluate p) (not (negative (evaluate p a))) a b) (crossings p (b ∷ l))) ≤ suc (suc (length l)) - 1
    go true k = omega arith
    go false k = omega arith

-- a root for each point, and one between each two neighbours
pub found_short : (p : List Compensated) (points : List Float) → length (found p points) ≤ length points + (length points - 1)
found_short p points =
    let b = touches_short p points in
    let c = crossings_short p points in
    let d = length-append (touches p points) (crossings p points) in
    let f = cuts_short (touches p points ++ crossings p points) in
    omega arith

quotient_short : (a b : Compensated) (lower upper : Float) → length (quotient a b lower upper) ≤ 1
unfolding quotient
quotient_short a b lower upper =
    let root = neg (value a) ⊘ value b in
    cond_le (le lower root && le root upper) (root ∷ []) [] 1 (le_refl 1) zero-le

module _ (lower upper : Float) where
  pub points_short : (inner : List Float) → length (partitions lower upper inner) ≤ length inner + 2
  points_short inner =
      let a = cuts_short (lower ∷ (inner ++ (upper ∷ []))) in
      let e = length-append inner (upper ∷ []) in
      omega arith

  pub points_some : (inner : List Float) → 0 < length (partitions lower upper inner)
  points_some inner = rw (cuts_cons lower (inner ++ (upper ∷ []))) (put_some lower (cuts (inner ++ (upper ∷ []))))

  count_few : (m k : ℕ) (p : List Compensated) (inner : Unit {0} → List Float) → m ≤ suc k → length (inner tt) ≤ 2 ^ k - 3
      → length (by_count m p lower upper inner) ≤ 2 ^ suc k - 3
  unfolding by_count
  count_few zero k p inner h g = zero-le
  count_few (suc zero) k p inner h g = zero-le
  count_few (suc (suc zero)) k p inner h g =
      let z = quotient_short (get_or p 0 zero_pair) (get_or p 1 zero_pair) lower upper in
      let w : 2 ^ 1 ≤ 2 ^ k = pow_mono (le_of_suc-le-suc h) in
      let e : 2 ^ suc k ≡ 2 ^ k * 2 = pow-suc 2 k in
      omega arith
  count_few (suc (suc (suc m))) k p inner h g =
      let points = partitions lower upper (inner tt) in
      let w : 2 ^ 2 ≤ 2 ^ k = pow_mono (le_trans (suc-le-suc (suc-le-suc zero-le)) (le_of_suc-le-suc h)) in
      let e : 2 ^ suc k ≡ 2 ^ k * 2 = pow-suc 2 k in
      let a = points_short (inner tt) in
      let f = found_short p points in
      omega arith

  -- by the number of coefficients
  pub roots_most : (n : ℕ) (p : List Compensated) → length p ≤ n → length (roots_at n p lower upper) ≤ 2 ^ n - 3
  unfolding roots_at
  roots_most zero p h = zero-le
  roots_most (suc k) p h =
      let q = trim p in
      let t = trim_short p in
      let d = derivative_length q in
      let c = counted_short q in
      count_few (counted q) k q (λ _. roots_at k (derivative q) lower upper) (omega arith) (roots_most k (derivative q) (omega arith))

  -- by the trimmed degree d, of d + 1 coefficients
  pub roots_few : (n : ℕ) (p : List Compensated) → length p ≤ n → length (roots_at n p lower upper) ≤ 2 ^ length (trim p) - 3
  unfolding roots_at
  roots_few zero p h = zero-le
  roots_few (suc k) p h = go (length (trim p)) refl
    where
      q : List Compensated
      q = trim p

      inner : Unit {0} → List Float
      inner _ = roots_at k (derivative q) lower upper

      go : (j : ℕ) → length q ≡ j → length (by_count (counted q) q lower upper inner) ≤ 2 ^ j - 3
      go zero e =
          let c = counted_short q in
          subst (λ (l : List Float). length l ≤ 2 ^ 0 - 3) (sym (count_low q lower upper (counted q) inner (omega arith))) zero-le
      go (suc j) e =
          let c = counted_short q in
          let t = trim_short p in
          let d = derivative_length q in
          count_few (counted q) j q inner (omega arith)
          (subst (λ (l : List Float). length l ≤ 2 ^ j - 3) (enough lower upper j k (derivative q) (omega arith) (omega arith))
          (roots_most j (derivative q) (omega arith)))

-- ---- the same of `roots`, whose count is the number of coefficients

pub all_few : (lower upper : Float) (p : List Compensated) → length (roots p lower upper) ≤ 2 ^ length (trim p) - 3
unfolding roots
all_few lower upper p = roots_few lower upper (length p) p (le_refl (length p))

-- by a number of coefficients that is large enough
pub all_most : (lower upper : Float) (n : ℕ) (p : List Compensated) → length p ≤ n → length (roots p lower upper) ≤ 2 ^ n - 3
all_most lower upper n p h =
    let f = all_few lower upper p in
    let t = trim_short p in
    let w : 2 ^ length (trim p) ≤ 2 ^ n = pow_mono (le_trans t h) in
    omega arith

module _ (lower upper : Float) (s : Span 2 lower upper) (p : List Compensated) where
  pub all_in : All (Between lower upper) (roots p lower upper)
  unfolding roots
  all_in = roots_in lower upper s (length p) p

  pub all_rising : Rising (roots p lower upper)
  unfolding roots
  all_rising = roots_rising lower upper s (length p) p
