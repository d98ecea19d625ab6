-- Half of a float, and closeness as a bound: what `Close` lacks for the middle of an interval. `close-half`: half of what is close to p - n is close to its
-- half. `close-within`: what is close to a small number of units is small. `sized`: a float within a numeral, as units.
use Rattle.std.specs.Prelude.{◌≡◌, ℕ, ◌+◌, ◌*◌, ◌^◌, ◌≤◌, true, false, T, refl, Float}
use Rattle.std.proofs.Common.{mul-pos, mul-one, mul_assoc, zero-mul, zero-lt-suc, arith, sym, ap, ◌∙◌}
use Rattle.std.specs.Float.{nan, inf, fin, Format, binary64}
use Rattle.std.specs.Float.Ieee.{low, down, neg, fits}
use Rattle.std.specs.Float.Ieee.Scale.{finite}
use Rattle.std.specs.Float.Ieee.Positive.{num, den, den_pos}
use Rattle.float.specs.Number.{◌⊘◌, two_float}
use Rattle.float.specs.Promises.Order.{pl, mi, Le, Within, plus_units, minus_units}
use Rattle.float.specs.Laws.Le.{div_srnd, srnd, plain}
use Rattle.float.specs.Laws.Within.{within→Le, Le→within}
use Rattle.float.specs.Laws.Units.{Is, Is-neg, flat, Is-Le, Le-Is}
use Rattle.float.specs.Laws.Whole.{whole_is}
use Rattle.float.specs.Laws.Close.{Close, Room, close_self, Off, off_alike, rounded, room_low}

-- ---- half
half_flat : (u p n d a b : ℕ) → a * u + n * d ≡ p * d + b * u → a * 1 * (u * 2) + n * (d * 2) ≡ p * (d * 2) + b * 1 * (u * 2)
half_flat u p n d a b h =
    let e1 : a * 1 * (u * 2) ≡ a * u * 2 = ap (λ (z : ℕ). z * (u * 2)) (mul-one a) ∙ sym (mul_assoc a u 2) in
    let e2 : b * 1 * (u * 2) ≡ b * u * 2 = ap (λ (z : ℕ). z * (u * 2)) (mul-one b) ∙ sym (mul_assoc b u 2) in
    let e3 : n * (d * 2) ≡ n * d * 2 = sym (mul_assoc n d 2) in
    let e4 : p * (d * 2) ≡ p * d * 2 = sym (mul_assoc p d 2) in
    omega arith

half_off : (x : Float) (p n h : ℕ) → Room h → p ≤ n + 2 ^ 53 * h * 2 → n ≤ p + 2 ^ 53 * h * 2 → Is binary64 x p n 0 → Off binary64 (x ⊘ two_float) p n 2 h
half_off x p n h R a b i =
    off_alike binary64 (srnd binary64 (pl x * 1) (mi x * 1) (den x * 2)) (x ⊘ two_float) p n 2 h
    (sym (div_srnd binary64 x two_float i.real tt tt (zero-lt-suc 1)))
    (rounded binary64 (pl x * 1) (mi x * 1) (den x * 2) p n 2 (2 ^ low binary64 * 2) h (mul-pos (den_pos x) (zero-lt-suc 1)) (zero-lt-suc 1) R.0
    (room_low h R.1) refl a b
    (half_flat (2 ^ low binary64) p n (den x) (pl x) (mi x) (flat binary64 x p n i)))

-- 2 * (q - m) = p - n, and half the error
pub close_half : {x : Float} (p n q m e h : ℕ) → Room h → p + m * 2 ≡ q * 2 + n → p + e ≤ n + 2 ^ 53 * h * 2 → n + e ≤ p + 2 ^ 53 * h * 2 → Close x p n e
    → Close (x ⊘ two_float) q m (e + h)
close_half {x} p n q m e h R t a b k =
    let o = k.over in
    let u = k.under in
    settle (half_off x k.r k.s h R (omega arith) (omega arith) k.is)
  where
    settle : Off binary64 (x ⊘ two_float) k.r k.s 2 h → Close (x ⊘ two_float) q m (e + h)
    settle z =
        let o = k.over in
        let u = k.under in
        let y = z.over in
        let w = z.under in
        record { r = z.r; s = z.s; is = z.is; over = omega arith; under = omega arith }

-- half of x, with its own units: for a number of units that may be odd
pub record Halved (x : Float) (p n e : ℕ) : Type 0 where
  pub r : ℕ
  pub s : ℕ
  pub is : Is binary64 (x ⊘ two_float) r s 0
  pub over : r * 2 + n ≤ p + s * 2 + e
  pub under : p + s * 2 ≤ r * 2 + n + e

pub half_of : {x : Float} (p n e h : ℕ) → Room h → p + e ≤ n + 2 ^ 53 * h * 2 → n + e ≤ p + 2 ^ 53 * h * 2 → Close x p n e → Halved x p n (e + h * 2)
half_of {x} p n e h R a b k =
    let o = k.over in
    let u = k.under in
    settle (half_off x k.r k.s h R (omega arith) (omega arith) k.is)
  where
    settle : Off binary64 (x ⊘ two_float) k.r k.s 2 h → Halved x p n (e + h * 2)
    settle z =
        let o = k.over in
        let u = k.under in
        let y = z.over in
        let w = z.under in
        record { r = z.r; s = z.s; is = z.is; over = omega arith; under = omega arith }

-- the same difference in other numbers, and a larger error
pub close_wider : {x : Float} {p n e : ℕ} (q m d : ℕ) → p + m ≡ q + n → e ≤ d → Close x p n e → Close x q m d
close_wider q m d t l k =
    let o = k.over in
    let u = k.under in
    record { r = k.r; s = k.s; is = k.is; over = omega arith; under = omega arith }

-- ---- numerals, in units
-- B is t units
pub record Counts (B : Float) (t : ℕ) : Type 0 where
  pub real : T (finite B)
  pub plus : T (plain B)
  pub is : num B * 2 ^ 1074 ≡ t * den B

numeral_is : (f : Format) (B : Float) (t : ℕ) → T (finite B) → T (plain B) → num B * 2 ^ low f ≡ t * den B → Is f B t 0 0
numeral_is f nan t p q e = absurd p
numeral_is f (inf s) t p q e = absurd p
numeral_is f (fin true m g) t p q e = absurd q
numeral_is f (fin false m g) t p q e =
    let o : 0 * 1 * down g ≡ 0 = zero-mul (down g) in
    let w : t * 1 * down g ≡ t * down g = ap (λ (z : ℕ). z * down g) (mul-one t) in
    record { real = tt; value = omega arith }

pub close_within : {B x : Float} (t p n e : ℕ) → Counts B t → p + e ≤ n + t → n + e ≤ p + t → Close x p n e → Within B x
close_within {B} {x} t p n e c a b k =
    let o = k.over in
    let u = k.under in
    let i = numeral_is binary64 B t c.real c.plus c.is in
    Le→within c.plus (Is-Le binary64 x B k.r k.s t 0 k.is i (omega arith))
    (Is-Le binary64 (neg B) x 0 t k.r k.s (Is-neg binary64 B t 0 0 i) k.is (omega arith))

-- a float within B, by units
pub record Sized (x : Float) (t : ℕ) : Type 0 where
  pub p : ℕ
  pub n : ℕ
  pub close : Close x p n 0
  pub over : p ≤ n + t
  pub under : n ≤ p + t

pub sized : {B x : Float} (t : ℕ) → Counts B t → T (fits binary64 x) → Within B x → Sized x t
sized {B} {x} t c f w =
    let i = numeral_is binary64 B t c.real c.plus c.is in
    let k = whole_is binary64 x f w.real in
    let l = within→Le c.real c.plus w in
    let a = Le-Is binary64 x B (plus_units binary64 x) (minus_units binary64 x) t 0 k i l.0 in
    let b = Le-Is binary64 (neg B) x 0 t (plus_units binary64 x) (minus_units binary64 x) (Is-neg binary64 B t 0 0 i) k l.1 in
    record {
      p = plus_units binary64 x;
      n = minus_units binary64 x;
      close = close_self (plus_units binary64 x)
          (minus_units binary64 x) k;
      over = omega arith;
      under = omega arith;
    }

-- what is close to p - n and within B: p - n is hardly more
pub close_bound : {B x : Float} (t p n e : ℕ) → Counts B t → Within B x → Close x p n e → (p ≤ n + t + e) × (n ≤ p + t + e)
close_bound {B} {x} t p n e c w k =
    let i = numeral_is binary64 B t c.real c.plus c.is in
    let l = within→Le c.real c.plus w in
    let a = Le-Is binary64 x B k.r k.s t 0 k.is i l.0 in
    let b = Le-Is binary64 (neg B) x 0 t k.r k.s (Is-neg binary64 B t 0 0 i) k.is l.1 in
    let o = k.over in
    let u = k.under in
    (omega arith, omega arith)

-- x ≥ 0 in units
pub close_plus : {x : Float} (p n : ℕ) → Le (fin false 0 (lib.IntN.pos 0)) x → Close x p n 0 → n ≤ p
close_plus {x} p n l k =
    let z = numeral_is binary64 (fin false 0 (lib.IntN.pos 0)) 0 tt tt refl in
    let a = Le-Is binary64 (fin false 0 (lib.IntN.pos 0)) x 0 0 k.r k.s z k.is l in
    let o = k.over in
    let u = k.under in
    omega arith
