-- A tidy coefficient in units: its high part, and how small its residual is beside it.
use Prim.Native.Nat.{ℕ, ◌+◌, ◌-◌, ◌*◌, ◌/◌, ◌^◌, ◌≤◌, ◌<◌}
use native.Mathlib.Nat.{le_trans, mul-pos, le_of_mul-le-mul_right, mul-div-le, lt-mul-div-succ}
use native.Mathlib.Omega.{arith}
use mathlib.Core.Path.{◌≡◌}
use mathlib.Core.Bool.{true, false, false≢true}
use lib.IntN.{ℤ, pos}
use lib.Dec.{T, lit≤, lit<}
use lib.Ieee.{Float, nan, inf, fin, binary64, fits, up, down, round, mul, le}
use lib.Ieee.Fits.{down_pos}
use lib.Ieee.Scale.{finite}
use Rattle.float.specs.Number.{◌⊗◌, abs}
use Rattle.float.specs.Promises.Order.{Le}
use Rattle.float.specs.Laws.Le.{le→Le, yes_of, round_plain}
use Rattle.float.specs.Laws.Within.{Beyond, fits→held, plain_finite, round_beyond, beyond→Le}
use Rattle.float.specs.Laws.Interval.{Le-trans}
use Rattle.float.specs.Laws.Range.{abs_within}
use Rattle.float.specs.Laws.Units.{Is, Le-Is}
use Rattle.float.specs.Promises.Order.{plus_units, minus_units}
use Rattle.float.specs.Laws.Whole.{whole_is, power_is}
use Rattle.float.specs.Laws.Close.{Close, Room, Product, W, mul_close, abs_units}
use Rattle.polynomial.proofs.plain.PlainSteps.{Small}
use Rattle.polynomial.proofs.plain.PlainProducts.{W-pos}
use Rattle.polynomial.specs.Promises.Plain.{Tidy, largest, lift}
use Rattle.polynomial.specs.declared.compensated.Compensated.{Compensated}

-- the units of 2 ^ 500
unfoldable pub most : ℕ
most = 2 ^ 1574

pub most_two : 2 ≤ most
unfolding most
most_two = lit≤ tt

pub room : (h : ℕ) → 0 < h → h ≤ 64 * most → Room h
unfolding most
room h p l = (p, le_trans l (lit≤ tt))

-- ---- the residual is finite, and no more than the high part
-- y times 2 ^ 52 is no less than y
lift_grows : (m : ℕ) (e : ℤ) (b : Float) → T (fits binary64 (fin false m e)) → T (finite b) → T (le (fin false m e ⊗ lift) b) → Le (fin false m e) b
unfolding mul
lift_grows m e b t f h =
    let a = m * up e * (1 * up (pos 52)) in
    let c = down e * down (pos 52) in
    let p = round_plain binary64 a c in
    let g = plain_finite (round binary64 false a c) b p f h in
    let w : Beyond (fin false m e) (round binary64 false a c) = round_beyond binary64 false a c (fin false m e) (mul-pos (down_pos e) (lit< tt))
    (fits→held binary64 (fin false m e) t tt) g (omega arith) in
    Le-trans (beyond→Le tt tt p w) (le→Le (round binary64 false a c) b g f h)

record Under (y b : Float) : Type 0 where
  real : T (finite y)
  order : Le (abs y) b

under : (y b : Float) → T (fits binary64 y) → T (finite b) → le (abs y ⊗ lift) b ≡ true → Under y b
unfolding abs mul le fits
under nan b t f h = absurd (false≢true h)
under (inf s) nan t f h = absurd f
under (inf s) (inf u) t f h = absurd f
under (inf s) (fin u n d) t f h = absurd (false≢true h)
under (fin s m e) b t f h = record { real = tt; order = lift_grows m e b t f (yes_of h) }

-- ---- in units
lift_is : Is binary64 lift (2 ^ 52 * W) 0 0
unfolding W
lift_is = power_is binary64 52

-- a product by 2 ^ 52 that is at most k, with the rounding of i + 1
lifted : (i k r s w : ℕ) → 0 < w → i * (2 ^ 52 * w) + 0 * 0 + s * w ≤ r * w + (i * 0 + 0 * (2 ^ 52 * w)) + (i + 1) * w → r + 0 ≤ k + s
    → (2 ^ 52 - 1) * i ≤ k + 1
lifted i k r s w o h l = le_of_mul-le-mul_right (let g : (2 ^ 52 - 1) * i * w ≤ (k + 1) * w = let f = native.Mathlib.Nat.mul-le-mul_right w l in
    omega arith in g) o

lifted_low : (y b : Float) (i k : ℕ) → i ≤ k → k ≤ most → Is binary64 (abs y) i 0 0 → Is binary64 b k 0 0 → T (le (abs y ⊗ lift) b) → (2 ^ 52 - 1) * i ≤ k + 1
lifted_low y b i k l n p q h =
    go (mul_close i 0 (2 ^ 52 * W) 0 (i + 1) (room (i + 1) (omega arith) (let two = most_two in omega arith)) (omega arith) (omega arith) p lift_is)
  where
    go : Product (abs y ⊗ lift) (i * (2 ^ 52 * W) + 0 * 0) (i * 0 + 0 * (2 ^ 52 * W)) (i + 1) → (2 ^ 52 - 1) * i ≤ k + 1
    go t = lifted i k t.r t.s W W-pos t.under (Le-Is binary64 (abs y ⊗ lift) b t.r t.s k 0 t.is q
        (le→Le (abs y ⊗ lift) b t.is.real q.real h))

-- u - v units, k in size; D is about k / 2 ^ 52, and no less than the residual
pub record Sized (c : Compensated) : Type 0 where
  pub u : ℕ
  pub v : ℕ
  pub k : ℕ
  pub D : ℕ
  pub high_is : Is binary64 c.high u v 0
  pub abs_is : Is binary64 (abs c.high) k 0 0
  pub size : Small u v k
  pub small : k ≤ most
  pub low : Close c.low 0 0 D
  pub wide : k < (2 ^ 52 - 1) * D
  pub narrow : (2 ^ 52 - 1) * D ≤ k + (2 ^ 52 - 1)

-- ---- every tidy coefficient is so
most_is : Is binary64 largest most 0 0
unfolding most
most_is = power_is binary64 500

-- from the units of both parts
sized : (c : Compensated) (u v k p n i : ℕ) → Is binary64 c.high u v 0 → Is binary64 (abs c.high) k 0 0 → Small u v k → k + 0 ≤ most + 0
    → Is binary64 c.low p n 0 → Small p n i → (2 ^ 52 - 1) * i ≤ k + 1 → Sized c
sized c u v k p n i a b s l j w e =
    let d = k / (2 ^ 52 - 1) in
    let m : (2 ^ 52 - 1) * d ≤ k = mul-div-le k (2 ^ 52 - 1) in
    let o : k < (2 ^ 52 - 1) * (d + 1) = lt-mul-div-succ k (lit< tt) in
    let f : i ≤ d + 1 = omega arith in
    record {
      u = u;
      v = v;
      k = k;
      D = d + 1;
      high_is = a;
      abs_is = b;
      size = s;
      small = omega arith;
      low = record {
        r = p;
        s = n;
        is = j;
        over = omega arith;
        under = omega arith;
      };
      wide = o;
      narrow = omega arith;
    }

pub tidy_sized : (c : Compensated) → Tidy c → Sized c
tidy_sized c t = go (abs_within largest c.high tt tt t.small).real
  where
    last : (k : ℕ) (a : Is binary64 (abs c.high) k 0 0) → k + 0 ≤ most + 0 → Under c.low (abs c.high) → (i : ℕ)
        → Is binary64 (abs c.low) i 0 0 → (2 ^ 52 - 1) * i ≤ k + 1
    last k a l o i b =
        let g : i + 0 ≤ k + 0 = Le-Is binary64 (abs c.low) (abs c.high) i 0 k 0 b a o.order in
        lifted_low c.low (abs c.high) i k (omega arith) (omega arith) b a (yes_of t.rest)

    go : T (finite c.high) → Sized c
    go f =
        let w = whole_is binary64 c.high t.high_fits f in
        let u = plus_units binary64 c.high in
        let v = minus_units binary64 c.high in
        let a = abs_units u v w in
        let l : a.0 + 0 ≤ most + 0 = Le-Is binary64 (abs c.high) largest a.0 0 most 0 a.1 most_is
        (le→Le (abs c.high) largest a.1.real tt (yes_of t.small)) in
        let o = under c.low (abs c.high) t.low_fits a.1.real t.rest in
        let y = whole_is binary64 c.low t.low_fits o.real in
        let p = plus_units binary64 c.low in
        let n = minus_units binary64 c.low in
        let b = abs_units p n y in
        sized c u v a.0 p n b.0 w a.1 (a.2, a.3) l y (b.2, b.3) (last a.0 a.1 l o b.0 b.1)
