-- `jam` from the parts of a number, and as the program computes it.
use Rattle.std.proofs.Common.{◌≡◌, ℕ, zero, suc, ◌+◌, ◌*◌, ◌/◌, ◌%◌, ◌^◌, ◌<◌, ◌≤◌, min, max, sym, ap, ◌∙◌, subst, suc-le-suc, le_refl}
use Rattle.std.proofs.Common.{inl, inr, lt_of_lt_of_le, mod-lt, mod-eq_of_lt, zero-lt-suc, div-add-mod', arith, pow_pos, pow_mono}
use native.Mathlib.Nat.{pow-succ'}
use lib.Arith.{digits_div, digits_mod}
use lib.Bits.{bit_or, or_step, or_zero_r}
use Rattle.float.specs.Promises.Jam.{jam}
use Rattle.float.specs.Laws.Compare.{lt_or_le}

pub jam_at : (n d A r : ℕ) → n ≡ A * 2 ^ suc d + r → r < 2 ^ suc d → jam n d ≡ 2 * A + min 1 r
jam_at n d A r e h =
    ap (λ (x : ℕ). 2 * (x / 2 ^ suc d) + min 1 (x % 2 ^ suc d)) e
    ∙ ap (λ (x : ℕ). 2 * x + min 1 ((A * 2 ^ suc d + r) % 2 ^ suc d)) (digits_div A h)
    ∙ ap (λ (x : ℕ). 2 * A + min 1 x) (digits_mod A h)

-- n is Q and R, the last d digits
jam_or : (n d Q R : ℕ) → n ≡ Q * 2 ^ d + R → R < 2 ^ d → jam n d ≡ Q / 2 * 2 + max (Q % 2) (min 1 R)
jam_or n d Q R e h =
    let p = 2 ^ d in
    let q : Q / 2 * 2 + Q % 2 ≡ Q = div-add-mod' Q 2 in
    let qp : (Q / 2 * 2 + Q % 2) * p ≡ Q * p = ap (λ (x : ℕ). x * p) q in
    let t : Q % 2 < 2 = mod-lt Q (zero-lt-suc 1) in
    jam_at n d (Q / 2) (Q % 2 * p + R)
    (subst (λ (x : ℕ). n ≡ Q / 2 * x + (Q % 2 * p + R)) (sym (pow-succ' 2 d)) (omega arith))
    (subst (λ (x : ℕ). Q % 2 * p + R < x) (sym (pow-succ' 2 d)) (within p (Q % 2) R t h))
    ∙ last p (Q / 2) (Q % 2) R t h
  where
    within : (p t R : ℕ) → t < 2 → R < p → t * p + R < 2 * p
    within p zero R l h = omega arith
    within p (suc zero) R l h = omega arith
    within p (suc (suc t)) R l h = absurd (no t l)
      where
        no : (t : ℕ) → suc (suc t) < 2 → ⊥
        no t l = omega arith

    last : (p A t R : ℕ) → t < 2 → R < p → 2 * A + min 1 (t * p + R) ≡ A * 2 + max t (min 1 R)
    last p A zero R l h = omega arith
    last p A (suc zero) R l h = omega arith
    last p A (suc (suc t)) R l h = absurd (no t l)
      where
        no : (t : ℕ) → suc (suc t) < 2 → ⊥
        no t l = omega arith

-- a product with a power of two is 0 where its other factor is
pub some_times : (x k : ℕ) → min 1 (x * 2 ^ k) ≡ min 1 x
some_times zero k = ap (λ (y : ℕ). min 1 y) (native.Mathlib.Nat.zero-mul (2 ^ k))
some_times (suc x) k = let h : 0 < suc x * 2 ^ k = native.Mathlib.Nat.mul-pos (zero-lt-suc x) (pow_pos k) in omega arith

-- the last digit of v, set
or_one : (v : ℕ) → bit_or v 1 ≡ v / 2 * 2 + 1
or_one v =
    or_step v 1
    ∙ ap (λ (x : ℕ). x * 2 + max (v % 2) 1) (or_zero_r (v / 2))
    ∙ ap (λ (x : ℕ). v / 2 * 2 + x) (one (v % 2) (mod-lt v (zero-lt-suc 1)))
  where
    one : (t : ℕ) → t < 2 → max t 1 ≡ 1
    one t h = omega arith

-- ---- of a number of 128 digits
module _ (x : ℕ) (X : x < 2 ^ 128) where
  -- from 127 on all that is left is whether anything was there
  far : (d : ℕ) → 127 ≤ d → jam x d ≡ min 1 x
  far d P = jam_at x d 0 x (alone x (2 ^ suc d)) (lt_of_lt_of_le X (pow_mono (suc-le-suc P))) ∙ native.Mathlib.Nat.zero-add (min 1 x)
    where
      alone : (x y : ℕ) → x ≡ 0 * y + x
      alone x y = omega arith

  held : (d : ℕ) → jam x (min d 127) ≡ jam x d
  held d = elim (lt_or_le d 127) [
    | inl h ↦ ap (λ (k : ℕ). jam x k) (short d h)
    | inr h ↦ ap (λ (k : ℕ). jam x k) (long d h) ∙ far 127 (le_refl 127) ∙ sym (far d h)
  ]
    where
      short : (d : ℕ) → d < 127 → min d 127 ≡ d
      short d h = omega arith

      long : (d : ℕ) → 127 ≤ d → min d 127 ≡ 127
      long d h = omega arith

  module _ (d e : ℕ) (is : e ≡ min d 127) where
    abbrev cut : ℕ
    cut = x / 2 ^ e

    parts : cut * 2 ^ e + x % 2 ^ e ≡ x
    parts = div-add-mod' x (2 ^ e)

    -- shifting back loses nothing of what is left
    back : cut * 2 ^ e % 2 ^ 128 ≡ cut * 2 ^ e
    back = mod-eq_of_lt (omega (arith, parts))

    jammed : jam x d ≡ cut / 2 * 2 + max (cut % 2) (min 1 (x % 2 ^ e))
    jammed = sym (held d) ∙ ap (λ (k : ℕ). jam x k) (sym is) ∙ jam_or x e cut (x % 2 ^ e) (sym parts) (mod-lt x (pow_pos e))

    pub jam_whole : cut * 2 ^ e % 2 ^ 128 ≡ x → cut ≡ jam x d
    jam_whole h = plain (x % 2 ^ e) (omega (arith, back, parts)) ∙ sym jammed
      where
        plain : (r : ℕ) → r ≡ 0 → cut ≡ cut / 2 * 2 + max (cut % 2) (min 1 r)
        plain r z = omega arith

    pub jam_lossy : (cut * 2 ^ e % 2 ^ 128 ≡ x → ⊥) → bit_or cut 1 ≡ jam x d
    jam_lossy h = or_one cut ∙ set (x % 2 ^ e) (omega (arith, back, parts)) ∙ sym jammed
      where
        set : (r : ℕ) → 0 < r → cut / 2 * 2 + 1 ≡ cut / 2 * 2 + max (cut % 2) (min 1 r)
        set r h = omega arith
