-- One step of Horner arithmetic, plain and compensated: how far apart the two are after it.
use Prim.Native.Nat.{ℕ, ◌+◌, ◌*◌, ◌^◌, ◌≤◌}
use native.Mathlib.Nat.{mul-le-mul_left, mul-le-mul_right}
use native.Mathlib.Omega.{arith}
use lib.Ieee.{Float, binary64, fits}
use Rattle.float.specs.Number.{◌⊕◌, ◌⊗◌, zero_float}
use Rattle.float.specs.Laws.Units.{Is}
use Rattle.float.specs.Laws.Whole.{whole_is}
use Rattle.float.specs.Laws.Close.{Close, Room, W, close_self}
use Rattle.polynomial.specs.Compensated.{from, plus, times}
use Rattle.polynomial.proofs.plain.PlainSteps.{Small, Apart, Sum, Parts, close_to, add_to, plus_parts, times_parts}
use Rattle.polynomial.proofs.plain.PlainProducts.{Multiplied, multiplied, products_apart}
use Rattle.polynomial.specs.declared.compensated.Compensated.{Compensated}

pub zero_is : Is binary64 zero_float 0 0 0
unfolding fits
zero_is = whole_is binary64 zero_float tt tt

-- s, the plain value, is near c, the compensated one, which is not large beside h
pub record Near (s : Float) (c : Compensated) (a h : ℕ) : Type 0 where
  pub p : ℕ
  pub n : ℕ
  pub q : ℕ
  pub m : ℕ
  pub high_is : Is binary64 c.high p n 0
  pub plain_is : Is binary64 s q m 0
  pub apart : Apart p n q m (a * h)
  pub size : Small p n ((2 ^ 52 + a) * h)
  pub rest : Close c.low 0 0 (3 * h)

-- both times x: g is the new h, and the h units of before, times x, are at most Q
record Scaled (s : Float) (c : Compensated) (x : Float) (a Q g : ℕ) : Type 0 where
  p : ℕ
  n : ℕ
  q : ℕ
  m : ℕ
  high_is : Is binary64 (c.high ⊗ x) p n 0
  plain_is : Is binary64 (s ⊗ x) q m 0
  apart : Apart p n q m (a * Q + 2 * g)
  size : Small p n ((2 ^ 52 + a) * Q + g)
  parts : Parts (times c (from x)) p n (12 * g) (3 * g)

shrink : (b h z Q w : ℕ) → z * h ≤ Q * w → b * h * z ≤ b * Q * w
shrink b h z Q w k = let f = mul-le-mul_left b k in omega arith

scaled : (s x : Float) (c : Compensated) (u v z Q a h g : ℕ) → Room g → a ≤ 300 → Q ≤ g → z * h ≤ Q * W → Small u v z → Is binary64 x u v 0
    → Near s c a h → Scaled s c x a Q g
scaled s x c u v z Q a h g k small le f b i t =
    go
    (multiplied t.p t.n u v ((2 ^ 52 + a) * h) z ((2 ^ 52 + a) * Q) g k t.size b (shrink (2 ^ 52 + a) h z Q W f) (omega (arith, aq)) t.high_is i)
    (multiplied t.q t.m u v ((2 ^ 52 + (a + a)) * h) z ((2 ^ 52 + (a + a)) * Q) g k wide b (shrink (2 ^ 52 + (a + a)) h z Q W f)
    (omega (arith, aq)) t.plain_is i)
    (multiplied t.p t.n 0 0 ((2 ^ 52 + a) * h) 0 0 g k t.size (omega arith) (omega arith) (omega arith) t.high_is zero_is)
    (multiplied t.rest.r t.rest.s u v (3 * h) z (3 * Q) g k low b (shrink 3 h z Q W f) (omega arith) t.rest.is i)
    (multiplied t.rest.r t.rest.s 0 0 (3 * h) 0 0 g k low (omega arith) (omega arith) (omega arith) t.rest.is zero_is)
  where
    aq : a * Q ≤ 300 * Q
    aq = mul-le-mul_right Q small

    wide : Small t.q t.m ((2 ^ 52 + (a + a)) * h)
    wide = let e = t.apart in let d = t.size in omega arith

    low : Small t.rest.r t.rest.s (3 * h)
    low = let o = t.rest.over in let e = t.rest.under in omega arith

    go : Multiplied c.high x t.p t.n u v ((2 ^ 52 + a) * Q) g → Multiplied s x t.q t.m u v ((2 ^ 52 + (a + a)) * Q) g
        → Multiplied c.high zero_float t.p t.n 0 0 0 g → Multiplied c.low x t.rest.r t.rest.s u v (3 * Q) g
        → Multiplied c.low zero_float t.rest.r t.rest.s 0 0 0 g → Scaled s c x a Q g
    go main other e1 e2 e3 =
        let d = main.product in
        record {
          p = d.r;
          n = d.s;
          q = other.product.r;
          m = other.product.s;
          high_is = d.is;
          plain_is = other.product.is;
          apart = products_apart t.p t.n t.q t.m u v (a * h) z (a * Q) g t.apart b (shrink a h z Q W f) d other.product;
          size = main.bound;
          parts =
              times_parts c (from x) d.r d.s ((2 ^ 52 + a) * Q + g) g k (omega (arith, aq)) main.bound d.is main.error
              (close_to 0 0 g e1.size (omega arith)) (close_to 0 0 (4 * g) e2.size (omega arith))
              (close_to 0 0 g e3.size (omega arith));
        }

fits_plus : (a Q D g : ℕ) → a * Q ≤ 300 * Q → Q + D ≤ g → (2 ^ 52 + a) * Q + 13 * g + 2 ^ 52 * D + 20 * g ≤ 2 ^ 53 * g
fits_plus a Q D g h k = omega arith

fits_plain : (p n q m u v y Q D g : ℕ) → y ≤ 300 * Q → Q + D ≤ g → q + n ≤ p + m + (y + 2 * g) → p ≤ n + (2 ^ 52 * Q + y + g) → u ≤ v + 2 ^ 52 * D
    → q + u ≤ m + v + 2 ^ 53 * g
fits_plain p n q m u v y Q D g a b c d e = omega arith

-- then plus d: one side of each bound. R - T is the product with its error, y is a * Q
large : (r s R T p n u v y w Q D g : ℕ) → r + (T + v) ≤ R + u + s + 15 * g → R + n ≤ p + T + 12 * g → p ≤ n + (2 ^ 52 * Q + y + g)
    → u ≤ v + 2 ^ 52 * D → Q + D ≤ g → y ≤ w → r ≤ s + (2 ^ 52 * g + w + 30 * g)
large r s R T p n u v y w Q D g a b c d e f = omega arith

apart_by : (r s R T p n u v q m i j y w g : ℕ) → r + (T + v) ≤ R + u + s + 15 * g → R + n ≤ p + T + 12 * g → p + m ≤ q + n + (y + 2 * g)
    → q + u + j ≤ i + (m + v) + g → y ≤ w → r + j ≤ i + s + (w + 30 * g)
apart_by r s R T p n u v q m i j y w g a b c d e = omega arith

joined : (s x : Float) (c d : Compensated) (u v D Q a g : ℕ) → Room g → a ≤ 300 → Q + D ≤ g → Small u v (2 ^ 52 * D) → Is binary64 d.high u v 0
    → Close d.low 0 0 g → Scaled s c x a Q g
    → Near (s ⊗ x ⊕ d.high) (plus (times c (from x)) d) (a + 30) g
joined s x c d u v D Q a g k small le b i l t =
    go t.parts.first
    (plus_parts (times c (from x)) d t.parts.first.r t.parts.first.s u v ((2 ^ 52 + a) * Q + 13 * g) (2 ^ 52 * D) g k
    (fits_plus a Q D g aq le) high b t.parts.first.is t.parts.second i l)
    (add_to g (t.q + u) (t.m + v) g k (close_self t.q t.m t.plain_is) (close_self u v i) total)
  where
    aq : a * Q ≤ 300 * Q
    aq = mul-le-mul_right Q small

    ag : a * Q ≤ a * g
    ag = mul-le-mul_left a (let q : Q ≤ g = omega arith in q)

    total : Sum t.q t.m 0 u v 0 g (t.q + u) (t.m + v) g
    total =
        let e = t.apart in
        let f = t.size in
        let x = fits_plain t.p t.n t.q t.m u v (a * Q) Q D g aq le e.1 (omega arith) b.0 in
        let y = fits_plain t.n t.p t.m t.q v u (a * Q) Q D g aq le (omega arith) (omega arith) b.1 in
        (omega (arith, x), omega (arith, y), omega arith, omega arith)

    high : Small t.parts.first.r t.parts.first.s ((2 ^ 52 + a) * Q + 13 * g)
    high = let e = t.size in let o = t.parts.first.over in let f = t.parts.first.under in omega arith

    go : (o : Close (times c (from x)).high t.p t.n (12 * g)) → Parts (plus (times c (from x)) d) (o.r + u) (o.s + v) (15 * g) (3 * g)
        → Close (s ⊗ x ⊕ d.high) (t.q + u) (t.m + v) g
        → Near (s ⊗ x ⊕ d.high) (plus (times c (from x)) d) (a + 30) g
    go o e f =
        let e1 = e.first.over in
        let e2 = e.first.under in
        let f1 = f.over in
        let f2 = f.under in
        let o1 = o.over in
        let o2 = o.under in
        let w = t.apart in
        let y = t.size in
        let l1 = large e.first.r e.first.s o.r o.s t.p t.n u v (a * Q) (a * g) Q D g e1 o1 (omega arith) b.0 le ag in
        let l2 = large e.first.s e.first.r o.s o.r t.n t.p v u (a * Q) (a * g) Q D g (omega arith) (omega arith) (omega arith)
        b.1 le ag in
        let a1 = apart_by e.first.r e.first.s o.r o.s t.p t.n u v t.q t.m f.r f.s (a * Q) (a * g) g e1 o1 w.0 f2 ag in
        let a2 = apart_by e.first.s e.first.r o.s o.r t.n t.p v u t.m t.q f.s f.r (a * Q) (a * g) g (omega arith)
        (omega arith) (omega arith) (omega arith) ag in
        record {
          p = e.first.r;
          n = e.first.s;
          q = f.r;
          m = f.s;
          high_is = e.first.is;
          plain_is = f.is;
          apart = (omega arith, omega arith);
          size = (omega arith, omega arith);
          rest = e.second;
        }

-- the whole step: x is at most z units in size, and d's high part at most 2 ^ 52 * D
pub step : (s x : Float) (c d : Compensated) (p n z u v D Q a h g : ℕ) → Room g → a ≤ 300 → Q + D ≤ g → z * h ≤ Q * W → Small p n z → Is binary64 x p n 0
    → Small u v (2 ^ 52 * D) → Is binary64 d.high u v 0 → Close d.low 0 0 g → Near s c a h → Near (s ⊗ x ⊕ d.high) (plus (times c (from x)) d) (a + 30) g
step s x c d p n z u v D Q a h g k small le f b i e j l t = joined s x c d u v D Q a g k small le e j l
    (scaled s x c p n z Q a h g k small (omega arith) f b i t)
