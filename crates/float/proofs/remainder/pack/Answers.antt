-- `float::remainder::pack` meets its contract: what `float` gives is a value of the format with that many units, and so is what `round` gives.
use Rattle.std.proofs.Common.{◌≡◌, ℕ, ◌+◌, ◌-◌, ◌*◌, ◌%◌, ◌^◌, ◌<◌, ◌≤◌, Bool, sym, ap, ◌∙◌, subst, lt_of_lt_of_le, lt_of_le_of_lt, le_of_lt}
use Rattle.std.proofs.Common.{min, mul_assoc, mul-le-mul_left, zero-mul, arith, lit<, lit≤, pow_mono, pow-add, shl_lt}
use lib.Ieee.{binary64, units, round}
use lib.Ieee.Exact.{units_val}
use Rattle.float.proofs.Pattern.{units_fits}
use Rattle.float.proofs.remainder.Reduced.{is_round}
use Rattle.float.proofs.remainder.pack.Goals as goal

-- q * 2 ^ k units, as `units` and as `round` have them
units_round : (s : Bool) (q k : ℕ) → q < 2 ^ 53 → k ≤ 2045 → units binary64 s q k ≡ round binary64 s (q * 2 ^ k) (2 ^ 1074)
units_round s q k a b =
    is_round (units binary64 s q k) s q k (units_fits s q k (le_of_lt a))
    (units_val binary64 s q k (lt_of_lt_of_le (shl_lt 53 k a) (pow_mono (top k b)))) a b
  where
    top : (k : ℕ) → k ≤ 2045 → 53 + k ≤ 2098
    top k h = omega arith

-- a shift that leaves 53 digits loses nothing
whole : (n : ℕ) → n < 2 ^ 53 → n % 2 ^ 64 ≡ n
whole n h = omega arith

-- the digits moved up by z, from the place k
moved : (s : Bool) (r z k : ℕ) → r * 2 ^ z < 2 ^ 53 → k ≤ 2045 → z ≤ k → units binary64 s (r * 2 ^ z % 2 ^ 64) (k - z) ≡ round binary64 s (r * 2 ^ k) (2 ^ 1074)
moved s r z k a b h =
    ap (λ (x : ℕ). units binary64 s x (k - z)) (whole (r * 2 ^ z) a)
    ∙ units_round s (r * 2 ^ z) (k - z) a (few k z b)
    ∙ ap (λ (x : ℕ). round binary64 s x (2 ^ 1074)) (mul_assoc r (2 ^ z) (2 ^ (k - z))
    ∙ ap (λ (x : ℕ). r * x) (sym (pow-add 2 z (k - z)) ∙ ap (λ (x : ℕ). 2 ^ x) (back k z h)))
  where
    few : (k z : ℕ) → k ≤ 2045 → k - z ≤ 2045
    few k z b = omega arith

    back : (k z : ℕ) → z ≤ k → z + (k - z) ≡ k
    back k z h = omega arith

-- a shift by no more than z
lower : (r k z : ℕ) → k ≤ z → r * 2 ^ z < 2 ^ 53 → r * 2 ^ k < 2 ^ 53
lower r k z h a = lt_of_le_of_lt (mul-le-mul_left r (pow_mono h)) a

-- nothing, at any place
none : (r k : ℕ) → r ≡ 0 → 0 * 2 ^ 0 ≡ r * 2 ^ k
none r k h = sym (ap (λ (x : ℕ). x * 2 ^ k) h ∙ zero-mul (2 ^ k))

pub returns-then-r-eq0 : goal.returns-then-r-eq0
returns-then-r-eq0 c = c.float.ensures
    ∙ units_round c.args.neg 0 0 (lit< tt) (lit≤ tt)
    ∙ ap (λ (x : ℕ). round binary64 c.args.neg x (2 ^ 1074)) (none c.args.r c.args.k c.if-r-eq0.true)

shifted : (r k l z : ℕ) → z ≡ min l k → r * 2 ^ l < 2 ^ 53 → r * 2 ^ z < 2 ^ 53
shifted r k l z e h = lower r z l (omega arith) h

-- where the place is above 0 still, the shift was the whole of it
raised : (l k z : ℕ) → z ≡ min l k → 0 < k - z → l ≡ z
raised l k z e h = omega arith

pub invariant_of-float-2 : goal.invariant_of-float-2
invariant_of-float-2 c =
    let r = c.args.r in
    let z = c.min-z.result in
    let a : r * 2 ^ z < 2 ^ 53 = shifted r c.args.k c.lift.result z c.min-z.ensures c.lift.ensures.2 in
    let e = whole (r * 2 ^ z) a in record {
      short = omega (arith, e);
      place = omega (arith, c.requires.1);
      full = λ h. subst (λ (n : ℕ). 2 ^ 52 ≤ n) (sym e)
          (subst (λ (j : ℕ). 2 ^ 52 ≤ r * 2 ^ j) (raised c.lift.result c.args.k z c.min-z.ensures h) c.lift.ensures.1);
    }

pub returns : goal.returns
returns c =
    let z : c.min-z.result ≤ c.args.k = omega (arith, c.min-z.ensures) in
    c.float-2.ensures
    ∙ moved c.args.neg c.args.r c.min-z.result c.args.k (shifted c.args.r c.args.k c.lift.result c.min-z.result c.min-z.ensures c.lift.ensures.2) c.requires.1 z
