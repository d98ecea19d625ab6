-- `float::sqrt::sqrt` meets its contract: a NaN, a zero, what is below zero and an infinity
-- by `Rooted`, and of the rest the root of the digits at an even place.
use Rattle.std.proofs.Common.{◌≡◌, ℕ, ◌+◌, ◌-◌, ◌*◌, ◌/◌, ◌%◌, ◌^◌, ◌<◌, ◌≤◌, Bool, false, not, T, ◌⊎◌, sym, ap, ◌∙◌, subst, inl, inr, arith, rules}
use lib.Ieee.{Float, binary64, is_nan, lt, eq, of_bits}
use Rattle.float.specs.Sqrt.{sqrt, root_of}
use Rattle.float.specs.Promises.Parts.{Splits}
use Rattle.float.proofs.mul_add.Special.{some_digits}
use Rattle.float.proofs.Pattern.{the_nan}
use Rattle.float.proofs.sqrt.Guessed.{no_sign_bit}
use Rattle.float.proofs.sqrt.Rooted.{sqrt_at, evenly, oddly, of_nan, of_zero, of_negative, of_infinite, no_sign}
use Rattle.float.proofs.sqrt.sqrt.Goals as goal
use Rattle.float.proofs.sqrt.sqrt.Goals.{else-t-eq0, then-t-eq0, then-is_nan-via-then-is_nan, then-is_nan-via-else-is_nan+then-x}

pub returns-then-is_nan : goal.returns-then-is_nan
returns-then-is_nan c = elim c.then-is_nan.branch [
  | then-is_nan-via-then-is_nan w ↦ of_nan c.args.x (search rules)
  | then-is_nan-via-else-is_nan+then-x w ↦ of_zero c.args.x w.if-x.true
]

pub returns-then-x-2 : goal.returns-then-x-2
returns-then-x-2 c = the_nan ∙ of_negative c.args.x c.if-x-2.true

pub returns-then-not-is_finite : goal.returns-then-not-is_finite
returns-then-not-is_finite c = of_infinite c.args.x c.if-x-2.false (search rules)

-- ---- the digits of an x above zero
above : (x : Float) (s : Bool) (q k : ℕ) → Splits x s q k → eq x (of_bits binary64 0) ≡ false → lt x (of_bits binary64 0) ≡ false
    → (0 < q) × Splits x false q k
above x s q k S e l =
    let some = some_digits x s q k S e in
    (some, subst (λ (t : Bool). Splits x t q k) (no_sign x s q k S some l) S)

pub lift-i-requires : goal.lift-i-requires
lift-i-requires c = ((above c.args.x _ _ _ c.split-p.ensures c.if-x.false c.if-x-2.false).0, c.split-p.ensures.short)

-- ---- the digits at an even place
-- m at an even place t, or twice m below an odd one
abbrev Evened : ℕ → ℕ → ℕ → Type 0
Evened t m n = ((t % 2 ≡ 0) × (n ≡ m)) ⊎ ((t % 2 ≡ 0 → ⊥) × (n ≡ m * 2))

-- a shift that leaves 53 digits loses nothing
kept : (n : ℕ) → n < 2 ^ 53 → n % 2 ^ 64 ≡ n
kept n h = omega arith

evened_value : (q k i t n : ℕ) → i + t ≡ k + 52 → Evened t (q * 2 ^ i) n → q * 2 ^ k * 2 ^ 1074 ≡ n * 2 ^ 52 * 2 ^ (t / 2 + 485) * 2 ^ (t / 2 + 485)
evened_value q k i t n p (inl (h, e)) = evenly q k i t (t / 2) p (half t h) ∙ ap (λ (x : ℕ). x * 2 ^ 52 * 2 ^ (t / 2 + 485) * 2 ^ (t / 2 + 485)) (sym e)
  where
    half : (t : ℕ) → t % 2 ≡ 0 → t ≡ 2 * (t / 2)
    half t e = omega arith
evened_value q k i t n p (inr (h, e)) = oddly q k i t (t / 2) p (half t h) ∙ ap (λ (x : ℕ). x * 2 ^ 52 * 2 ^ (t / 2 + 485) * 2 ^ (t / 2 + 485)) (sym e)
  where
    half : (t : ℕ) → (t % 2 ≡ 0 → ⊥) → t ≡ 2 * (t / 2) + 1
    half t e = omega arith

module _ (c : goal.Joined-t-eq0) where
  abbrev x : Float
  x = c.args.x

  abbrev i : ℕ
  i = c.lift-i.result

  abbrev q : ℕ
  q = c.split-p.result.q

  abbrev k : ℕ
  k = c.split-p.result.k

  abbrev t : ℕ
  t = k + 52 - i

  -- the digits, 53 of them
  abbrev m : ℕ
  m = q * 2 ^ i

  parts : (0 < q) × Splits x false q k
  parts = above x _ q k c.split-p.ensures c.if-x.false c.if-x-2.false

  evened : Evened t m c.if-t-eq0.n
  evened =
      let m-is = kept m c.lift-i.ensures.2 in
      elim c.if-t-eq0.branch [
        | then-t-eq0 w ↦ inl (w.if-t-eq0.true, w.n-is ∙ m-is)
        | else-t-eq0 w ↦ inr (w.if-t-eq0.false, w.n-is ∙ ap (λ (x : ℕ). x * 2) m-is)
      ]

  places : i + t ≡ k + 52
  places = back k i c.lift-i.ensures.0
    where
      back : (k i : ℕ) → i ≤ 52 → i + (k + 52 - i) ≡ k + 52
      back k i h = omega arith

  room : t / 2 + 485 ≤ 2045
  room = few k i c.split-p.ensures.place
    where
      few : (k i : ℕ) → k ≤ 2045 → (k + 52 - i) / 2 + 485 ≤ 2045
      few k i h = omega arith

  root_is : sqrt binary64 x ≡ root_of binary64 (c.if-t-eq0.n * 2 ^ 52 * 2 ^ (t / 2 + 485) * 2 ^ (t / 2 + 485))
  root_is = sqrt_at x q k parts.1 parts.0 ∙ ap (λ (n : ℕ). root_of binary64 n) (evened_value q k i t c.if-t-eq0.n places evened)

pub estimate-requires : goal.estimate-requires
estimate-requires c =
    let number : T (not (is_nan c.args.x)) = search rules in
    (number, no_sign_bit c.args.x (q c * 2 ^ k c) (2 ^ 1074) (parts c).1.value (search rules) number)

pub nearest_root-requires : goal.nearest_root-requires
nearest_root-requires c = room c.before.before

pub returns : goal.returns
returns c = c.nearest_root.ensures ∙ sym (root_is c.before.before.before)
