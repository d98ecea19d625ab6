-- Where the plain value of a polynomial of at most nine tidy coefficients is far from zero beside
-- the sum of magnitudes, the compensated value has its sign, and is not zero:
-- `plain-positive`, `plain-negative`; and `near-zero` is false of it: `plain-away`. By induction on the
-- coefficients the two values are a small part of the sum of magnitudes apart (`known`).
--
use Prim.Native.Nat.{ℕ, suc, ◌+◌, ◌-◌, ◌*◌, ◌/◌, ◌^◌, ◌≤◌, ◌<◌}
use native.Mathlib.Nat.{le_trans, le_of_eq, add-zero, mul_comm, mul-le-mul, mul-le-mul_right}
use native.Mathlib.Nat.{mul-le-mul_left, le_of_mul-le-mul_right, mul-div-le, lt-mul-div-succ, lt_irrefl}
use native.Mathlib.Omega.{arith}
use mathlib.Core.Path.{◌≡◌, refl, ap, ◌∙◌, subst}
use mathlib.Core.Logic.{◌⊎◌, inl, inr}
use mathlib.Core.Bool.{Bool, true, false}
use mathlib.Core.List.{List, [], ◌∷◌}
use lib.Dec.{T, lit≤, lit<}
use lib.ListN.{length}
use lib.Pow.{pow_pos}
use lib.Ieee.{Float, binary64, fits, le, lt, neg}
use Rattle.float.specs.Number.{◌⊗◌, abs, one_float}
use Rattle.float.specs.Laws.Le.{le→Le, yes_of}
use Rattle.float.specs.Laws.Range.{abs_within, lt→Le}
use Rattle.float.specs.Laws.Units.{Is, Is-neg, Le-Is}
use Rattle.float.specs.Promises.Order.{plus_units, minus_units}
use Rattle.float.specs.Laws.Whole.{whole_is, power_is}
use Rattle.float.specs.Laws.Close.{Close, Room, Product, W, close_self, mul_close, abs_units, close_positive, close_negative}
use Rattle.polynomial.specs.Compensated.{value}
use Rattle.polynomial.specs.Polynomial.{horner, evaluate, magnitudes, roundoff, value_near, near_zero}
use Rattle.polynomial.specs.Promises.Plain.{plain, scale, least, margin, AllTidy, Signed}
use Rattle.polynomial.proofs.plain.PlainSteps.{Small, close_to, add_to}
use Rattle.polynomial.proofs.plain.PlainProducts.{W-pos}
use Rattle.polynomial.proofs.plain.PlainStep.{Near, zero_is, step}
use Rattle.polynomial.proofs.plain.PlainSize.{Sized, tidy_sized, most, most_two, room}
use Rattle.polynomial.proofs.plain.PlainScale.{Grown, quotient, grown}
use Rattle.polynomial.proofs.plain.PlainMagnitudes.{abs_close, magnitudes_step, bound_close}
use Rattle.polynomial.specs.declared.compensated.Compensated.{Compensated}

-- ---- the point
-- x is p - n units, z in size
record Point (x : Float) : Type 0 where
  p : ℕ
  n : ℕ
  z : ℕ
  is : Is binary64 x p n 0
  abs_is : Is binary64 (abs x) z 0 0
  size : Small p n z
  small : z ≤ W

one_is : Is binary64 one_float W 0 0
unfolding W
one_is = power_is binary64 0

point : (x : Float) → T (fits binary64 x) → le (abs x) one_float ≡ true → Point x
point x t h =
    let w = whole_is binary64 x t (abs_within one_float x tt tt h).real in
    let p = plus_units binary64 x in
    let n = minus_units binary64 x in
    let a = abs_units p n w in
    let l : a.0 + 0 ≤ W + 0 = Le-Is binary64 (abs x) one_float a.0 0 W 0 a.1 one_is (le→Le (abs x) one_float a.1.real tt (yes_of h)) in
    record { p = p; n = n; z = a.0; is = w; abs_is = a.1; size = (a.2, a.3); small = omega arith }

-- ---- the induction
-- the values of j coefficients, and the sum of their magnitudes
record Known (cs : List Compensated) (x : Float) (j : ℕ) : Type 0 where
  h : ℕ
  g : ℕ
  near : Near (plain cs x) (horner cs x) (30 * j) h
  all : Close (magnitudes cs x) 0 0 ((2 ^ 52 + 3 * j) * h)
  is : Is binary64 (scale cs x) g 0 0
  h_most : h ≤ 4 * (j * most)
  g_most : g ≤ 4 * (j * most)
  below : 2 ^ 102 * h ≤ (2 ^ 50 + 2 * j) * g + j * 2 ^ 104

none : (x : Float) → Known [] x 0
unfolding plain horner scale magnitudes
none x =
    record {
      h = 0;
      g = 0;
      near = record {
        p = 0;
        n = 0;
        q = 0;
        m = 0;
        high_is = zero_is;
        plain_is = zero_is;
        apart = omega arith;
        size = omega arith;
        rest = close_self 0 0 zero_is;
      };
      all = close_self 0 0 zero_is;
      is = zero_is;
      h_most = omega arith;
      g_most = omega arith;
      below = omega arith;
    }

more : (c : Compensated) (cs : List Compensated) (x : Float) (j : ℕ) → j ≤ 8 → Point x → Sized c → Known cs x j → Known (c ∷ cs) x (suc j)
unfolding plain horner scale magnitudes
more c cs x j le w s k = go (k.h * w.z / W) (quotient k.h w.z W W-pos w.small)
  where
    few : j * most ≤ 8 * most
    few = mul-le-mul_right most le

    tall : (q : ℕ) → q ≤ k.h → Room (q + 1 + s.D)
    tall q l =
        let v = s.narrow in
        let u = s.small in
        let t = k.h_most in
        let two = most_two in
        room (q + 1 + s.D) (omega arith) (omega (arith, few))

    wide : Small s.u s.v (2 ^ 52 * s.D)
    wide = let a = s.size in let b = s.wide in omega arith

    high : Close (abs c.high) 0 0 ((2 ^ 52 - 1) * s.D)
    high = let b = s.wide in close_to 0 0 ((2 ^ 52 - 1) * s.D) (close_self s.k 0 s.abs_is) (omega arith)

    again : (q : ℕ) → q ≤ k.h → Near (plain (c ∷ cs) x) (horner (c ∷ cs) x) (30 * j + 30) (q + 1 + s.D)
        → Close (magnitudes (c ∷ cs) x) 0 0 ((2 ^ 52 + (3 * j + 3)) * (q + 1 + s.D))
        → Grown (scale cs x) (abs x) (abs c.high) q s.D (2 ^ 50 + 2 * j) (j * 2 ^ 104) (4 * (j * most)) → Known (c ∷ cs) x (suc j)
    again q l n a e =
        let e1 : 30 * j + 30 ≡ 30 * suc j = omega arith in
        let e2 : 3 * j + 3 ≡ 3 * suc j = omega arith in
        let b = e.bounded in
        let d = e.below in
        let v = s.narrow in
        let u = s.small in
        let t = k.h_most in
        let two = most_two in
        record {
          h = q + 1 + s.D;
          g = e.n;
          near = subst (λ (y : ℕ). Near (plain (c ∷ cs) x) (horner (c ∷ cs) x) y (q + 1 + s.D)) e1 n;
          all = subst (λ (y : ℕ). Close (magnitudes (c ∷ cs) x) 0 0 ((2 ^ 52 + y) * (q + 1 + s.D))) e2 a;
          is = e.is;
          h_most = omega arith;
          g_most = omega arith;
          below = omega arith;
        }

    go : (q : ℕ) → (q * W ≤ k.h * w.z) × (k.h * w.z ≤ (q + 1) * W) × (q ≤ k.h) → Known (c ∷ cs) x (suc j)
    go q d =
        again q d.2
        (step (plain cs x) x (horner cs x) c w.p w.n w.z s.u s.v s.D (q + 1) (30 * j) k.h (q + 1 + s.D) (tall q d.2)
        (omega arith) (omega arith) (omega (arith, d.1)) w.size w.is wide s.high_is (close_to 0 0 (q + 1 + s.D) s.low (omega arith))
        k.near)
        (magnitudes_step (magnitudes cs x) (abs x) (abs c.high) (abs c.low) w.z s.D (q + 1) (3 * j) k.h (q + 1 + s.D) (tall q d.2)
        (omega arith) (omega arith) (omega (arith, d.1)) w.abs_is high (abs_close c.low s.D s.low) k.all)
        (grown (scale cs x) (abs x) (abs c.high) k.g w.z s.k q s.D k.h (2 ^ 50 + 2 * j) (j * 2 ^ 104) (4 * (j * most)) w.small
        k.g_most (omega (arith, few)) s.small (omega (arith, d.0)) k.below (omega arith) (omega arith) s.narrow k.is w.abs_is
        s.abs_is)

known : (cs : List Compensated) (x : Float) → length cs ≤ 9 → AllTidy cs → Point x → Known cs x (length cs)
known [] x l t w = none x
known (c ∷ cs) x l t w = more c cs x (length cs) (omega arith) w (tidy_sized c t.0) (known cs x (omega arith) t.1 w)

-- ---- the end
-- the value, about the plain one
value_close : (s : Float) (c : Compensated) (a h : ℕ) → a ≤ 270 → h ≤ 36 * most → (k : Near s c a h) → Close (value c) k.q k.m (274 * h + 1)
value_close s c a h l b k =
    let d = k.apart in
    let e = k.size in
    let f = mul-le-mul_right h l in
    let two = most_two in
    add_to (h + 1) k.q k.m (274 * h + 1) (room (h + 1) (omega arith) (omega arith)) (close_self k.p k.n k.high_is) k.rest (omega arith)

-- the units of the margin, 2 ^ -43
unfoldable part : ℕ
part = 2 ^ 1031

part_pos : 0 < part
unfolding part
part_pos = pow_pos 1031

part_is : W ≡ 2 ^ 43 * part
unfolding W part
part_is = refl

margin_is : Is binary64 margin part 0 0
unfolding part fits
margin_is = whole_is binary64 margin tt tt

least_is : Is binary64 least (2 ^ 64) 0 0
unfolding fits
least_is = whole_is binary64 least tt tt

far_off : (g r s t v w : ℕ) → 0 < v → w ≡ 2 ^ 43 * v → v * g + 0 * 0 + s * w ≤ r * w + (v * 0 + 0 * g) + t * w → g + 2 ^ 43 * s ≤ 2 ^ 43 * r + 2 ^ 43 * t
far_off g r s t v w o e h =
    let f : (a : ℕ) → a * w ≡ 2 ^ 43 * a * v = λ a. ap (λ (y : ℕ). a * y) e ∙ rearranged a v in
    let f1 = f r in
    let f2 = f s in
    let f3 = f t in
    let k : (g + 2 ^ 43 * s) * v ≤ (2 ^ 43 * r + 2 ^ 43 * t) * v = omega arith in
    le_of_mul-le-mul_right k o
  where
    rearranged : (a v : ℕ) → a * (2 ^ 43 * v) ≡ 2 ^ 43 * a * v
    rearranged a v = omega arith

-- the margin's part of the scale, in units
record Edge (s : Float) (g : ℕ) : Type 0 where
  r : ℕ
  d : ℕ
  is : Is binary64 (margin ⊗ s) r d 0
  far : 127 * g + 2 ^ 50 * d ≤ 2 ^ 50 * r + 2 ^ 50

edge : (s : Float) (g : ℕ) → g ≤ 36 * most → Is binary64 s g 0 0 → Edge s g
edge s g l i = go (g / 2 ^ 50 + 1) (let m : 2 ^ 50 * (g / 2 ^ 50) ≤ g = mul-div-le g (2 ^ 50) in omega arith) (lt-mul-div-succ g (lit< tt))
  where
    fit : (t v w : ℕ) → w ≡ 2 ^ 43 * v → g < 2 ^ 50 * t → v * g ≤ 2 ^ 53 * t * w
    fit t v w e h =
        let a : v ≤ w = omega arith in
        let b : g ≤ 2 ^ 53 * t = omega arith in
        le_trans (mul-le-mul a b) (le_of_eq (mul_comm w (2 ^ 53 * t)))

    last : (t : ℕ) → 2 ^ 50 * t ≤ g + 2 ^ 50 → Product (margin ⊗ s) (part * g + 0 * 0) (part * 0 + 0 * g) t → Edge s g
    last t h a = let k = far_off g a.r a.s t part W part_pos part_is a.under in record { r = a.r; d = a.s; is = a.is; far = omega arith }

    go : (t : ℕ) → 2 ^ 50 * t ≤ g + 2 ^ 50 → g < 2 ^ 50 * t → Edge s g
    go t h k =
        let f = fit t part W part_is k in
        let two = most_two in
        last t h (mul_close part 0 g 0 t (room t (omega arith) (omega arith)) (omega arith) (omega arith) margin_is i)

-- the roundings are a small part of the scale
few : (h g j : ℕ) → j ≤ 9 → 2 ^ 64 ≤ g → 2 ^ 102 * h ≤ (2 ^ 50 + 2 * j) * g + j * 2 ^ 104 → 15 * (2 ^ 52 * h) ≤ 16 * g
few h g j l k b =
    last g (2 ^ 52 * h) (j * g) (j * 2 ^ 104) (by h (2 ^ 50 * g) (j * g) (j * 2 ^ 104) (omega arith)) (mul-le-mul_right g l)
    (le_trans (mul-le-mul_right (2 ^ 104) l) (le_trans (lit≤ tt) (mul-le-mul_left (2 ^ 44) k)))
  where
    by : (h a u v : ℕ) → 2 ^ 102 * h ≤ a + 2 * u + v → 2 ^ 50 * (2 ^ 52 * h) ≤ a + 2 * u + v
    by h a u v e = omega arith

    last : (g y u v : ℕ) → 2 ^ 50 * y ≤ 2 ^ 50 * g + 2 * u + v → u ≤ 9 * g → v ≤ 2 ^ 44 * g → 15 * y ≤ 16 * g
    last g y u v a c d = omega arith

beyond : (h g r d q m : ℕ) → 15 * (2 ^ 52 * h) ≤ 16 * g → 2 ^ 64 ≤ g → 127 * g + 2 ^ 50 * d ≤ 2 ^ 50 * r + 2 ^ 50 → r + m ≤ q + d → m + (276 * h + 2) < q
beyond h g r d q m a b c e = omega arith

-- all of it
record Ends (p : List Compensated) (x : Float) : Type 0 where
  h : ℕ
  g : ℕ
  q : ℕ
  m : ℕ
  is : Is binary64 (plain p x) q m 0
  close : Close (evaluate p x) q m (274 * h + 1)
  bound : Close (roundoff ⊗ magnitudes p x) 0 0 (2 * h + 1)
  edges : Edge (scale p x) g
  large : 2 ^ 64 ≤ g
  part : 15 * (2 ^ 52 * h) ≤ 16 * g

ends_of : (p : List Compensated) (x : Float) (j : ℕ) → j ≤ 9 → le least (scale p x) ≡ true → Known p x j → Ends p x
unfolding evaluate
ends_of p x j l h k =
    let a : 2 ^ 64 + 0 ≤ k.g + 0 = Le-Is binary64 least (scale p x) (2 ^ 64) 0 k.g 0 least_is k.is
    (le→Le least (scale p x) tt k.is.real (yes_of h)) in
    let b : 2 ^ 64 ≤ k.g = le_trans a (le_of_eq (add-zero k.g)) in
    let c : j * most ≤ 9 * most = mul-le-mul_right most l in
    let d = k.h_most in
    let e = k.g_most in
    let n = k.near in
    record {
      h = k.h;
      g = k.g;
      q = n.q;
      m = n.m;
      is = n.plain_is;
      close = value_close (plain p x) (horner p x) (30 * j) k.h (omega arith) (omega (arith, c, d)) n;
      bound = bound_close (magnitudes p x) (3 * j) k.h (omega arith) (room (k.h + 1) (omega arith) (let two = most_two in omega (arith, c, d))) k.all;
      edges = edge (scale p x) k.g (omega (arith, c, e)) k.is;
      large = b;
      part = few k.h k.g j l b k.below;
    }

ends : (p : List Compensated) (x : Float) → length p ≤ 9 → AllTidy p → T (fits binary64 x) → le (abs x) one_float ≡ true → le least (scale p x) ≡ true
    → Ends p x
ends p x l t f h k = ends_of p x (length p) l k (known p x l t (point x f h))

-- how far the plain value is from zero, where it is beyond the margin
far_above : (p : List Compensated) (x : Float) (e : Ends p x) → lt (margin ⊗ scale p x) (plain p x) ≡ true → e.m + (276 * e.h + 2) < e.q
far_above p x e v =
    let d = e.edges in
    let o : d.r + e.m ≤ e.q + d.d = Le-Is binary64 (margin ⊗ scale p x) (plain p x) d.r d.d e.q e.m d.is e.is
    (lt→Le (margin ⊗ scale p x) (plain p x) d.is.real e.is.real (yes_of v)) in
    beyond e.h e.g d.r d.d e.q e.m e.part e.large d.far o

far_below : (p : List Compensated) (x : Float) (e : Ends p x) → lt (plain p x) (neg (margin ⊗ scale p x)) ≡ true → e.q + (276 * e.h + 2) < e.m
far_below p x e v =
    let d = e.edges in
    let n = Is-neg binary64 (margin ⊗ scale p x) d.r d.d 0 d.is in
    let o : e.q + d.r ≤ d.d + e.m = Le-Is binary64 (plain p x) (neg (margin ⊗ scale p x)) e.q e.m d.d d.r e.is n
    (lt→Le (plain p x) (neg (margin ⊗ scale p x)) e.is.real n.real (yes_of v)) in
    beyond e.h e.g d.r d.d e.m e.q e.part e.large d.far (omega arith)

pub plain_positive : (p : List Compensated) (x : Float) → length p ≤ 9 → AllTidy p → T (fits binary64 x) → le (abs x) one_float ≡ true
    → le least (scale p x) ≡ true
    → lt (margin ⊗ scale p x) (plain p x) ≡ true → Signed false (evaluate p x)
plain_positive p x l t f h k v = go (ends p x l t f h k)
  where
    go : Ends p x → Signed false (evaluate p x)
    go e = let o = far_above p x e v in close_positive e.q e.m (274 * e.h + 1) (omega arith) e.close

pub plain_negative : (p : List Compensated) (x : Float) → length p ≤ 9 → AllTidy p → T (fits binary64 x) → le (abs x) one_float ≡ true
    → le least (scale p x) ≡ true
    → lt (plain p x) (neg (margin ⊗ scale p x)) ≡ true → Signed true (evaluate p x)
plain_negative p x l t f h k v = go (ends p x l t f h k)
  where
    go : Ends p x → Signed true (evaluate p x)
    go e = let o = far_below p x e v in close_negative e.q e.m (274 * e.h + 1) (omega arith) e.close

-- where the value is within its bound, the plain one is at most 276 * h + 2 units from zero
within_bound : (v b : Float) (q m h : ℕ) → Close v q m (274 * h + 1) → Close b 0 0 (2 * h + 1) → T (le (abs v) b) → Small q m (276 * h + 2)
within_bound v b q m h c d t =
    let a = abs_units c.r c.s c.is in
    let l : a.0 + d.s ≤ d.r + 0 = Le-Is binary64 (abs v) b a.0 0 d.r d.s a.1 d.is (le→Le (abs v) b a.1.real d.is.real t) in
    let u = c.under in
    let o = c.over in
    let w = d.over in
    let x = a.2 in
    let y = a.3 in
    (omega arith, omega arith)

refuted : (b : Bool) → (T b → ⊥) → b ≡ false
refuted true h = absurd (h tt)
refuted false h = refl

-- beyond the margin it is farther than that
pub plain_away : (p : List Compensated) (x : Float) → length p ≤ 9 → AllTidy p → T (fits binary64 x) → le (abs x) one_float ≡ true → le least (scale p x) ≡ true
    → (lt (margin ⊗ scale p x) (plain p x) ≡ true) ⊎ (lt (plain p x) (neg (margin ⊗ scale p x)) ≡ true) → near_zero p x ≡ false
unfolding near_zero value_near
plain_away p x l t f h k v = refuted (near_zero p x) (λ n. let e = ends p x l t f h k in
    go e (within_bound (evaluate p x) (roundoff ⊗ magnitudes p x) e.q e.m e.h e.close e.bound n) v)
  where
    go : (e : Ends p x) → Small e.q e.m (276 * e.h + 2)
        → (lt (margin ⊗ scale p x) (plain p x) ≡ true) ⊎ (lt (plain p x) (neg (margin ⊗ scale p x)) ≡ true) → ⊥
    go e w (inl a) = let o = far_above p x e a in lt_irrefl 0 (omega arith)
    go e w (inr a) = let o = far_below p x e a in lt_irrefl 0 (omega arith)
