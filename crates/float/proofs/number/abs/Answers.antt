-- `float::number::abs` meets its contract: 0 - x is the magnitude of an x that is not above zero.
use Rattle.std.proofs.Common.{◌≡◌, ℕ, ◌+◌, ◌-◌, ◌*◌, ◌<◌, Bool, true, false, cond, ◌||◌, T, ltb, ◌⊎◌, ℤ, pos, sym, refl, ap, ◌∙◌, subst, inl, inr}
use Rattle.std.proofs.Common.{true≢false, eq-zero-or-pos, zero-mul, arith, ltb→lt, le-ltb, lt-ltb}
use lib.Ieee.{Float, nan, inf, fin, binary64, up, down, round, neg, sum, add, sub, lt, le, eq, fits}
use lib.Ieee.Bits.{is_true}
use Rattle.float.specs.Number.{abs, zero_float}
use Rattle.float.specs.Laws.Le.{or_split}
use Rattle.float.specs.Laws.Zero.{zero_bits, zero_of, equals_zero, level_zero}
use Rattle.float.proofs.remainder.Fast.{magnitude_is}
use Rattle.float.proofs.number.abs.Goals as goal

or_true : (b : Bool) → (b || true) ≡ true
or_true true = refl
or_true false = refl

-- minus a magnitude is not above zero
not_above : (m : ℕ) (e : ℤ) → le (fin true m e) zero_float ≡ true
unfolding le lt
not_above m e = go (eq-zero-or-pos (m * up e * 1))
  where
    flat : 0 * 1 * down e ≡ 0
    flat = zero-mul (down e)

    go : (m * up e * 1 ≡ 0) ⊎ (0 < m * up e * 1) → (ltb 0 (m * up e * 1 + 0 * 1 * down e) || eq (fin true m e) zero_float) ≡ true
    go (inl z) =
        ap (λ (b : Bool). ltb 0 (m * up e * 1 + 0 * 1 * down e) || b) (equals_zero true m e ∙ level_zero true (m * up e * 1) (0 * 1 * down e) z flat)
        ∙ or_true (ltb 0 (m * up e * 1 + 0 * 1 * down e))
    go (inr l) = ap (λ (b : Bool). b || eq (fin true m e) zero_float) (lt-ltb 0 (m * up e * 1 + 0 * 1 * down e) (omega (arith, flat)))

-- a magnitude that is not above zero is zero
no_digits : (m : ℕ) (e : ℤ) → T (le (fin false m e) zero_float) → m ≡ 0
unfolding le lt
no_digits m e h = go (or_split (ltb (m * up e * 1) (0 * 1 * down e)) (eq (fin false m e) zero_float) h)
  where
    none : (a b : ℕ) → b ≡ 0 → T (ltb a b) → ⊥
    none a b z l = let k : a < b = ltb→lt a b l in omega arith

    go : T (ltb (m * up e * 1) (0 * 1 * down e)) ⊎ T (eq (fin false m e) zero_float) → m ≡ 0
    go (inl l) = absurd (none (m * up e * 1) (0 * 1 * down e) (zero-mul (down e)) l)
    go (inr z) = zero_of false m e (ap (λ (v : Float). eq (fin false m e) v) zero_bits ∙ is_true _ z)

kept : (x : Float) → le x zero_float ≡ false → x ≡ abs x
unfolding abs
kept nan h = refl
kept (inf true) h = absurd (true≢false (up_to ∙ h))
  where
    up_to : true ≡ le (inf true) zero_float
    up_to = unfold le lt in refl
kept (inf false) h = refl
kept (fin true m e) h = absurd (true≢false (sym (not_above m e) ∙ h))
kept (fin false m e) h = refl

negated : (x : Float) → T (fits binary64 x) → T (le x zero_float) → sub binary64 zero_float x ≡ abs x
unfolding abs sub add neg sum le lt eq
negated nan f h = absurd h
negated (inf true) f h = refl
negated (inf false) f h = absurd h
negated (fin true m e) f h =
    ap (λ (n : ℕ). round binary64 false n (1 * down e)) (plain (0 * 1 * down e) (m * up e * 1) (zero-mul (down e)))
    ∙ sym (magnitude_is true m e (pos 0) f)
  where
    plain : (a b : ℕ) → a ≡ 0 → a + b ≡ b
    plain a b z = omega arith
negated (fin false m e) f h = level (m * up e * 1) (0 * 1 * down e) (1 * down e) none (zero-mul (down e)) ∙ sym (magnitude_is false m e (pos 0) f)
  where
    none : m * up e * 1 ≡ 0
    none = ap (λ (n : ℕ). n * up e * 1) (no_digits m e h) ∙ ap (λ (n : ℕ). n * 1) (zero-mul (up e))

    level : (a z c : ℕ) → a ≡ 0 → z ≡ 0 → cond (ltb z a) (round binary64 true (a - z) c) (round binary64 false (z - a) c) ≡ round binary64 false a c
    level a z c n k =
        ap (λ (b : Bool). cond b (round binary64 true (a - z) c) (round binary64 false (z - a) c)) (le-ltb z a (omega arith))
        ∙ ap (λ (y : ℕ). round binary64 false y c) (flat a z n k)
      where
        flat : (a z : ℕ) → a ≡ 0 → z ≡ 0 → z - a ≡ a
        flat a z n k = omega arith

pub returns-then-x : goal.returns-then-x
returns-then-x c = let x = c.args.x in
    ap (λ (z : Float). sub binary64 z x) zero_bits
    ∙ negated x (subst T (sym c.well_formed.0.1) tt) (subst T (sym (ap (λ (z : Float). le x z) (sym zero_bits) ∙ c.if-x.true)) tt)

pub returns-else-x : goal.returns-else-x
returns-else-x c = kept _ (ap (λ (z : Float). le c.args.x z) (sym zero_bits) ∙ c.if-x.false)
