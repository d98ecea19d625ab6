-- The middle of an interval lies in it, and where it is neither end, each half has fewer units than the whole: what a loop that halves an interval rests on.
-- For the w units between the ends, w = 0 or 2 ^ j ≤ w ≤ 2 ^ (j + 1): so hi - lo rounds to at most
-- 2 ^ (j + 1), its half to at most 2 ^ j, and lo with that is at most hi.
use Rattle.std.specs.Prelude.{◌≡◌, ℕ, zero, suc, ◌+◌, ◌*◌, ◌^◌, ◌<◌, ◌≤◌, true, false, T, pos, refl, Float}
use Rattle.std.proofs.Common.{sym, ap, ◌∙◌, subst, le_trans, le_of_eq, mul-pos, mul-one, one-mul, mul_assoc, mul_comm, mul_left_comm, add-mul}
use Rattle.std.proofs.Common.{mul-le-mul_right, pow-suc, zero-add, arith, lit<, pow_pos}
use Rattle.std.proofs.Math.Arith.{lt_of_le-ne}
use Rattle.std.proofs.Math.Pow.{pow-lt}
use Rattle.std.specs.Float.{nan, inf, fin, Format, binary32}
use Rattle.std.specs.Float.Ieee.{binary64, prec, emax, low, up, down, size, round, neg, add, sub, div, lt, eq, le, fits}
use Rattle.std.specs.Float.Ieee.Digits.{size-lt, size-le, size_reaches}
use Rattle.std.specs.Float.Ieee.Fits.{down_pos, add-fits, sub-fits, div-fits}
use Rattle.std.specs.Float.Ieee.Exact.{round_exact}
use Rattle.std.specs.Float.Ieee.Scale.{round_same, finite}
use Rattle.std.specs.Float.Ieee.Positive.{den, den_pos}
use Rattle.float.specs.Number.{◌⊕◌, ◌⊖◌, ◌⊘◌, middle, two_float}
use Rattle.float.specs.Laws.Sign.{Alike}
use Rattle.float.specs.Promises.Order.{pl, mi}
use Rattle.float.specs.Laws.Le.{le→Le, srnd, srnd_mono, le_alike, finite_alike, signed_pos, signed_neg, add_srnd, div_srnd}
use Rattle.float.specs.Promises.Order.{Within}
use Rattle.float.specs.Laws.Within.{within→Le, Le→within, fits→held, exact_self}
use Rattle.float.specs.Laws.Interval.{In, Le-trans, between_finite}
use Rattle.float.specs.Laws.Units.{Is, Is-alike, Is-neg, plus_Is, minus_Is, sum_eq, srnd_same, flat, Le-Is}
use Rattle.float.specs.Promises.Order.{plus_units, minus_units, amount, width}
use Rattle.float.specs.Laws.Whole.{fits_amount, whole_is, Le-units, eq_units, lt_units, width_within}
use Rattle.float.specs.Promises.Order.{Span}

-- ---- a sum and a half as rounded numbers of units
module _ (f : Format) (x : Float) (p n : ℕ) (h : Is f x p n 0) where
  add_units : (y : Float) (q m : ℕ) → Is f y q m 0 → Alike (add f x y) (srnd f (p + q) (n + m) (1 * 2 ^ low f))
  add_units y q m k =
      add_srnd f x y h.real k.real
      ∙ srnd_same f (pl x * den y + pl y * den x) (mi x * den y + mi y * den x) (den x * den y) (p + q) (n + m) (1 * 2 ^ low f)
      (mul-pos (den_pos x) (den_pos y)) (mul-pos (lit< tt) (pow_pos (low f)))
      (simp one-mul (simp mul-one at (sum_eq (2 ^ low f) 1 p n (den x) (pl x) (mi x) q m (den y) (pl y) (mi y) h.value k.value)))

  sub_units : (y : Float) (q m : ℕ) → Is f y q m 0 → Alike (sub f x y) (srnd f (p + m) (n + q) (1 * 2 ^ low f))
  unfolding sub
  sub_units y q m k = add_units (neg y) m q (Is-neg f y q m 0 k)

  half_units : Alike (div f x two_float) (srnd f p n (2 * 2 ^ low f))
  half_units =
      div_srnd f x two_float h.real tt tt (lit< tt)
      ∙ srnd_same f (pl x * 1) (mi x * 1) (den x * 2) p n (2 * 2 ^ low f) (mul-pos (den_pos x) (lit< tt)) (mul-pos (lit< tt) (pow_pos (low f)))
      (let v = flat f x p n h in
      let a = twice (pl x) in
      let b = twice (mi x) in
      let c : n * (den x * 2) ≡ n * den x * 2 = sym (mul_assoc n (den x) 2) in
      let d : p * (den x * 2) ≡ p * den x * 2 = sym (mul_assoc p (den x) 2) in
      omega arith)
    where
      twice : (a : ℕ) → a * 1 * (2 * 2 ^ low f) ≡ a * 2 ^ low f * 2
      twice a = simp (mul-one, mul_assoc, mul_comm, mul_left_comm)

-- ---- the whole number a - b of units is a value of the format: rounding keeps it
record Kept (f : Format) (a b : ℕ) : Type 0 where
  is : Is f (srnd f a b (2 ^ low f)) a b 0

kept_self : (f : Format) (x : Float) → T (fits f x) → T (finite x) → Kept f (plus_units f x) (minus_units f x)
kept_self f nan t p = absurd p
kept_self f (inf s) t p = absurd p
kept_self f (fin true m e) t p =
    let u = 2 ^ low f in
    let a = amount f m e in
    let w = fits_amount f true m e t in
    record {
      is = Is-alike f (round f true a u) (srnd f 0 a u) 0 a 0 (signed_neg f a 0 a u (pow_pos (low f)) (sym (zero-add a)))
          (subst (λ (z : Float). Is f z 0 a 0) (round_same f true (m * up e) (down e) a u (down_pos e) (pow_pos (low f)) w)
          (minus_Is f (round f true (m * up e) (down e)) (m * up e) (down e) a 0 a 0 (down_pos e)
          (exact_self f true (fin true m e) (fits→held f (fin true m e) t tt)) (w ∙ ap (λ (z : ℕ). z * down e) (sym (mul-one a)))
          (sym (zero-add a))));
    }
kept_self f (fin false m e) t p =
    let u = 2 ^ low f in
    let a = amount f m e in
    let w = fits_amount f false m e t in
    record {
      is = Is-alike f (round f false a u) (srnd f a 0 u) a 0 0 (signed_pos f a a 0 u (sym (zero-add a)))
          (subst (λ (z : Float). Is f z a 0 0) (round_same f false (m * up e) (down e) a u (down_pos e) (pow_pos (low f)) w)
          (plus_Is f (round f false (m * up e) (down e)) (m * up e) (down e) a a 0 0 (down_pos e)
          (exact_self f false (fin false m e) (fits→held f (fin false m e) t tt)) (w ∙ ap (λ (z : ℕ). z * down e) (sym (mul-one a)))
          (sym (zero-add a))));
    }

-- few digits, and no overflow
kept_few : (f : Format) (q j : ℕ) → q < 2 ^ prec f → q * 2 ^ j < 2 ^ (low f + suc (emax f)) → Kept f (q * 2 ^ j) 0
kept_few f q j h k =
    let u = 2 ^ low f in
    let a = q * 2 ^ j in
    record {
      is = Is-alike f (round f false a u) (srnd f a 0 u) a 0 0 (signed_pos f a a 0 u (sym (zero-add a)))
          (plus_Is f (round f false a u) a u a a 0 0 (pow_pos (low f)) (round_exact f false a u q j (pow_pos (low f)) h k refl)
          (ap (λ (z : ℕ). z * u) (sym (mul-one a))) (sym (zero-add a)));
    }

-- ---- what is rounded stays between values of the format: z is (p - n) / q units rounded
record Between (f : Format) (a b c d : ℕ) (z : Float) : Type 0 where
  real : T (finite z)
  lower : a + minus_units f z ≤ plus_units f z + b
  upper : plus_units f z + d ≤ c + minus_units f z

-- q * (a - b) ≤ p - n, times the unit
scaled : (q u a b p n : ℕ) → q * a + n ≤ p + q * b → a * (q * u) + n * u ≤ p * u + b * (q * u)
scaled q u a b p n h =
    le_trans (le_of_eq (e a n)) (le_trans (mul-le-mul_right u h) (le_of_eq (e' b p)))
  where
    e : (x y : ℕ) → x * (q * u) + y * u ≡ (q * x + y) * u
    e x y = simp (add-mul, mul_assoc, mul_left_comm)

    e' : (x y : ℕ) → (y + q * x) * u ≡ y * u + x * (q * u)
    e' x y = simp (add-mul, mul_assoc, mul_left_comm)

scaled' : (q u c d p n : ℕ) → p + q * d ≤ q * c + n → p * u + d * (q * u) ≤ c * (q * u) + n * u
scaled' q u c d p n h = let k = scaled q u d c n p (omega arith) in omega arith

between : (f : Format) (q p n : ℕ) {a b c d : ℕ} {z : Float} → 0 < q → Kept f a b → Kept f c d → T (fits f z) → Alike z (srnd f p n (q * 2 ^ low f))
    → q * a + n ≤ p + q * b → p + q * d ≤ q * c + n → Between f a b c d z
between f q p n {a} {b} {c} {d} {z} Q A C t e l r =
    let u = 2 ^ low f in
    let S = srnd f a b u in
    let G = srnd f c d u in
    let R = srnd f p n (q * u) in
    let U : 0 < u = pow_pos (low f) in
    let x : T (le S R) = srnd_mono f a b u p n (q * u) U (mul-pos Q U) (scaled q u a b p n l) in
    let y : T (le R G) = srnd_mono f p n (q * u) c d u (mul-pos Q U) U (scaled' q u c d p n r) in
    let k : T (finite z) = finite_alike R z (sym e) (between_finite S R G A.is.real C.is.real x y) in
    let w = whole_is f z t k in
    record {
      real = k;
      lower = Le-Is f S z a b (plus_units f z) (minus_units f z) A.is w (le→Le S z A.is.real k (le_alike S S R z refl (sym e) x));
      upper = Le-Is f z G (plus_units f z) (minus_units f z) c d w C.is (le→Le z G k C.is.real (le_alike R z G G (sym e) refl y));
    }

-- ---- a power of two and its double, with w between
record Scale (f : Format) (w : ℕ) : Type 0 where
  F : ℕ
  once : Kept f F 0
  twice : Kept f (F + F) 0
  least : F ≤ w
  most : w ≤ F + F

kept_power : (f : Format) (j : ℕ) → j < low f + suc (emax f) → Kept f (2 ^ j) 0
kept_power f j h = subst (λ (z : ℕ). Kept f z 0) (one-mul (2 ^ j))
    (kept_few f 1 j (one_lt f) (subst (λ (z : ℕ). z < 2 ^ (low f + suc (emax f))) (sym (one-mul (2 ^ j))) (pow-lt h)))
  where
    one_lt : (g : Format) → 1 < 2 ^ prec g
    one_lt binary32 = lit< tt
    one_lt binary64 = lit< tt

kept_zero : (f : Format) → Kept f 0 0
kept_zero f = kept_few f 0 0 (pow_pos (prec f)) (pow_pos (low f + suc (emax f)))

power : (f : Format) (w j : ℕ) → suc j < low f + suc (emax f) → 2 ^ j ≤ w → w ≤ 2 ^ suc j → Scale f w
power f w j r h k =
    let e : 2 ^ suc j ≡ 2 ^ j + 2 ^ j = let d = pow-suc 2 j in omega arith in
    record { F = 2 ^ j; once = kept_power f j (omega arith); twice = subst (λ (z : ℕ). Kept f z 0) e (kept_power f (suc j) r); least = h; most = omega arith }

scale : (f : Format) (k w : ℕ) → k < emax f → w ≤ 2 ^ suc (low f + k) → Scale f w
scale f k zero r h = record { F = 0; once = kept_zero f; twice = kept_zero f; least = omega arith; most = omega arith }
scale f k (suc v) r h = go (size v) refl
  where
    z : size v ≤ suc (low f + k)
    z = size-le v (suc (low f + k)) h

    go : (i : ℕ) → size v ≡ i → Scale f (suc v)
    go zero e =
        let l : v < 2 ^ 0 = subst (λ (i : ℕ). v < 2 ^ i) e (size-lt v) in
        power f (suc v) 0 (omega arith) (omega arith) (omega arith)
    go (suc j) e =
        let l : v < 2 ^ suc j = subst (λ (i : ℕ). v < 2 ^ i) e (size-lt v) in
        let g : 2 ^ j ≤ v = size_reaches v j (omega arith) in
        let y = z in
        power f (suc v) j (omega arith) (omega arith) l

-- ---- the middle, in any format
module _ (f : Format) (lo hi : Float) (s : T (fits f lo)) (p : T (finite lo)) (t : T (fits f hi)) (q : T (finite hi))
    (o : plus_units f lo + minus_units f hi ≤ plus_units f hi + minus_units f lo) where
  -- the width by its scale S, then its half, then the sum
  gap : (S : Scale f (width f lo hi)) → Between f 0 0 (S.F + S.F) 0 (sub f hi lo)
  gap S =
      between f 1 (plus_units f hi + minus_units f lo) (minus_units f hi + plus_units f lo) (lit< tt) (kept_zero f) S.twice (sub-fits f hi lo)
      (sub_units f hi (plus_units f hi) (minus_units f hi) (whole_is f hi t q) lo (plus_units f lo) (minus_units f lo) (whole_is f lo s p))
      (omega arith) (omega arith)

  half_gap : (S : Scale f (width f lo hi)) → Between f 0 0 (S.F + S.F) 0 (sub f hi lo) → Between f 0 0 S.F 0 (div f (sub f hi lo) two_float)
  half_gap S D =
      let d = sub f hi lo in
      between f 2 (plus_units f d) (minus_units f d) (lit< tt) (kept_zero f) S.once (div-fits f d two_float)
      (half_units f d (plus_units f d) (minus_units f d) (whole_is f d (sub-fits f hi lo) D.real))
      (omega arith) (omega arith)

  moved : (S : Scale f (width f lo hi)) (h : Float) → T (fits f h) → Between f 0 0 S.F 0 h
      → Between f (plus_units f lo) (minus_units f lo) (plus_units f hi) (minus_units f hi) (add f lo h)
  moved S h k H =
      between f 1 (plus_units f lo + plus_units f h) (minus_units f lo + minus_units f h) (lit< tt) (kept_self f lo s p) (kept_self f hi t q) (add-fits f lo h)
      (add_units f lo (plus_units f lo) (minus_units f lo) (whole_is f lo s p) h (plus_units f h) (minus_units f h) (whole_is f h k H.real))
      (omega arith) (omega arith)

  mid_between : Scale f (width f lo hi) → Between f (plus_units f lo) (minus_units f lo) (plus_units f hi) (minus_units f hi)
      (add f lo (div f (sub f hi lo) two_float))
  mid_between S = moved S (div f (sub f hi lo) two_float) (div-fits f (sub f hi lo) two_float) (half_gap S (gap S))

-- ---- what a loop over an interval uses, at binary64
-- m lies strictly between, and each half has fewer units
pub record Inside (lo hi m : Float) : Type 0 where
  pub above : T (lt lo m)
  pub below : T (lt m hi)
  pub right : width binary64 m hi < width binary64 lo hi
  pub left : width binary64 lo m < width binary64 lo hi

pub middle_fits : (lo hi : Float) → T (fits binary64 (middle lo hi))
unfolding middle
middle_fits lo hi = add-fits binary64 lo (div binary64 (sub binary64 hi lo) two_float)

module _ {k : ℕ} {lo hi : Float} (s : Span k lo hi) where
  pub span_width : width binary64 lo hi ≤ 2 ^ suc (low binary64 + k)
  span_width = width_within binary64 k lo hi s.lo_fits s.hi_fits s.lo_within s.hi_within

  pub middle_in : In lo hi (middle lo hi)
  unfolding middle
  middle_in =
      let p = s.lo_within.real in
      let q = s.hi_within.real in
      let m = lo ⊕ (hi ⊖ lo) ⊘ two_float in
      let o = (Le-units binary64 lo hi s.lo_fits p s.hi_fits q).0 s.order in
      let B = mid_between binary64 lo hi s.lo_fits p s.hi_fits q o (scale binary64 k (width binary64 lo hi) s.room span_width) in
      record {
        lower = (Le-units binary64 lo m s.lo_fits p (middle_fits lo hi) B.real).1 B.lower;
        upper = (Le-units binary64 m hi (middle_fits lo hi) B.real s.hi_fits q).1 B.upper;
      }

  pub middle_within : Within (fin false 1 (pos k)) (middle lo hi)
  middle_within =
      let m = middle_in in
      Le→within tt (Le-trans m.upper (within→Le tt tt s.hi_within).0) (Le-trans (within→Le tt tt s.lo_within).1 m.lower)

  -- the halves can be halved again
  pub right_half : Span k (middle lo hi) hi
  right_half = record {
    room = s.room;
    lo_fits = middle_fits lo hi;
    hi_fits = s.hi_fits;
    lo_within = middle_within;
    hi_within = s.hi_within;
    order = middle_in.upper;
  }

  pub left_half : Span k lo (middle lo hi)
  left_half = record {
    room = s.room;
    lo_fits = s.lo_fits;
    hi_fits = middle_fits lo hi;
    lo_within = s.lo_within;
    hi_within = middle_within;
    order = middle_in.lower;
  }

  -- the order of the ends and the middle, in units
  in_units : (plus_units binary64 lo + minus_units binary64 (middle lo hi) ≤ plus_units binary64 (middle lo hi) + minus_units binary64 lo) ×
      (plus_units binary64 (middle lo hi) + minus_units binary64 hi ≤ plus_units binary64 hi + minus_units binary64 (middle lo hi))
  in_units =
      let m = middle lo hi in
      let r = middle_within.real in (
        (Le-units binary64 lo m s.lo_fits s.lo_within.real (middle_fits lo hi) r).0 middle_in.lower,
        (Le-units binary64 m hi (middle_fits lo hi) r s.hi_fits s.hi_within.real).0 middle_in.upper,
      )

  pub middle_strict : eq (middle lo hi) lo ≡ false → eq (middle lo hi) hi ≡ false → Inside lo hi (middle lo hi)
  middle_strict a b =
      let m = middle lo hi in
      let t = middle_fits lo hi in
      let r = middle_within.real in
      let x = lt_of_le-ne in_units.0 (λ e. subst T a ((eq_units binary64 m lo t r s.lo_fits s.lo_within.real).1 (sym e))) in
      let y = lt_of_le-ne in_units.1 (λ e. subst T b ((eq_units binary64 m hi t r s.hi_fits s.hi_within.real).1 e)) in
      record {
        above = (lt_units binary64 lo m s.lo_fits s.lo_within.real t r).1 x;
        below = (lt_units binary64 m hi t r s.hi_fits s.hi_within.real).1 y;
        right = omega arith;
        left = omega arith;
      }

  -- with no units between the ends there is nothing to halve
  pub middle_none : width binary64 lo hi ≡ 0 → T (eq (middle lo hi) lo)
  middle_none w =
      let i = in_units in
      (eq_units binary64 (middle lo hi) lo (middle_fits lo hi) middle_within.real s.lo_fits s.lo_within.real).1 (omega arith)
