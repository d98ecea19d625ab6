-- `float::remainder::reduce` meets its contract: what is left to shift, times the remainder so far, has one remainder by q throughout.
use Rattle.std.proofs.Common.{◌≡◌, ℕ, ◌+◌, ◌-◌, ◌*◌, ◌/◌, ◌%◌, ◌^◌, ◌<◌, ◌≤◌, sym, ap, ◌∙◌, subst, lt_trans, lt_of_lt_of_le, mod-lt}
use Rattle.std.proofs.Common.{mod-eq_of_lt, mul_assoc, add-mul, add_comm, div-add-mod', mul_right_comm, arith, pow_mono, pow-add, shl_lt}
use native.Mathlib.Nat.{add-mul-mod_self_right}
use Rattle.float.proofs.remainder.reduce.Goals as goal

-- a factor's remainder serves for the factor
mod_factor : (a b q : ℕ) → a % q * b % q ≡ a * b % q
mod_factor a b q = sym (ap (λ (x : ℕ). x % q) apart ∙ add-mul-mod_self_right (a % q * b) (a / q * b) q)
  where
    apart : a * b ≡ a % q * b + a / q * b * q
    apart =
        ap (λ (x : ℕ). x * b) (sym (div-add-mod' a q))
        ∙ add-mul (a / q * q) (a % q) b
        ∙ add_comm (a / q * q * b) (a % q * b)
        ∙ ap (λ (x : ℕ). a % q * b + x) (mul_right_comm (a / q) q b)

-- a shift by eleven at most loses nothing of 53 digits
kept : (r k : ℕ) → r < 2 ^ 53 → k ≤ 11 → r * 2 ^ k % 2 ^ 64 ≡ r * 2 ^ k
kept r k a b = mod-eq_of_lt (lt_of_lt_of_le (shl_lt 53 k a) (pow_mono (top k b)))
  where
    top : (k : ℕ) → k ≤ 11 → 53 + k ≤ 64
    top k b = omega arith

-- eleven digits less are left
next : (r q l : ℕ) → 11 < l → r * 2 ^ 11 % q * 2 ^ (l - 11) % q ≡ r * 2 ^ l % q
next r q l b =
    mod_factor (r * 2 ^ 11) (2 ^ (l - 11)) q
    ∙ ap (λ (x : ℕ). x % q) (mul_assoc r (2 ^ 11) (2 ^ (l - 11)) ∙ ap (λ (x : ℕ). r * x) (sym (pow-add 2 11 (l - 11)) ∙ ap (λ (x : ℕ). 2 ^ x) (back l b)))
  where
    back : (l : ℕ) → 11 < l → 11 + (l - 11) ≡ l
    back l b = omega arith

pub returns-then-d-le11 : goal.returns-then-d-le11
returns-then-d-le11 c = let h : c.args.d ≤ 11 = omega arith in
    ap (λ (x : ℕ). x % c.args.q) (kept c.args.p c.args.d c.requires.0 h)

pub loop-left-init : goal.loop-left-init
loop-left-init c = (mod-lt c.args.p c.requires.1, mod_factor c.args.p (2 ^ c.args.d) c.args.q)

pub step-r-requires : goal.step-r-requires
step-r-requires c = c.loop-left.invariant.0

pub loop-left-preserved : goal.loop-left-preserved
loop-left-preserved c = let h : 11 < c.loop-left.left = omega arith in (
  subst (λ (x : ℕ). x < c.args.q) (sym c.step-r.ensures) (mod-lt (c.loop-left.r * 2 ^ 11) c.requires.1),
  ap (λ (x : ℕ). x * 2 ^ (c.loop-left.left - 11) % c.args.q) c.step-r.ensures ∙ next c.loop-left.r c.args.q c.loop-left.left h ∙ c.loop-left.invariant.1,
)

pub returns : goal.returns
returns c = let h : c.loop-left.left ≤ 11 = omega arith in
    ap (λ (x : ℕ). x % c.args.q) (kept c.loop-left.r c.loop-left.left (lt_trans c.loop-left.invariant.0 c.requires.2) h) ∙ c.loop-left.invariant.1
