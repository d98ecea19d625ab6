-- `sqrt` at binary64: the whole number nearest to the root of n, an n of 105 or 106 digits, is what `sqrt` keeps of n * 4 ^ K.
--
use Rattle.std.proofs.Common.{◌≡◌, ℕ, zero, suc, ◌+◌, ◌-◌, ◌*◌, ◌/◌, ◌^◌, ◌<◌, ◌≤◌, Bool, true, false, not, T, ◌⊎◌, ℤ, pos, sym, refl, ap, ◌∙◌, subst}
use Rattle.std.proofs.Common.{inl, inr, true≢false, le_trans, le_of_eq, lt_of_lt_of_le, le_of_suc-le-suc, lt_of_le_of_lt, le_of_lt, lt_irrefl}
use Rattle.std.proofs.Common.{mul-le-mul_right, mul_assoc, mul-le-mul, mul-le-mul_left, mul-lt-mul_of_pos_right, mul-pos, lt_of_not-le, zero-mul}
use Rattle.std.proofs.Common.{mul_right_comm, not-le_of_lt, le-mul_of_pos_right, mul-div_cancel, add-one, arith, pow_pos, pow-add, ltb-true, lt-ltb}
use mathlib.Core.Bool.{false≢true}
use Prim.Native.Nat.{compare, Ordering}
use native.Mathlib.Nat.{div-eq_of_lt-le}
use lib.Ieee.{Float, nan, inf, fin, binary64, up, down, size, nearest, units, lt, eq, below, of_bits, is_nan}
use lib.Ieee.Digits.{size-lt}
use lib.Ieee.Fits.{down_pos}
use lib.Ieee.Exact.{HasValue}
use lib.Ieee.Scale.{finite}
use Rattle.float.specs.Sqrt.{root, root_of, sqrt}
use Rattle.float.specs.Laws.Compare.{cmp_is, lt_or_le}
use Rattle.float.proofs.Rounded.{size_is}
use Rattle.float.specs.Promises.Parts.{Splits, Roots}
use Rattle.float.specs.Laws.Root.{root_is}
use Rattle.float.specs.Laws.Zero.{zero_of}

-- r is the whole part of the square root of n
abbrev pub Floor : ℕ → ℕ → Type 0
Floor n r = (r * r ≤ n) × (n < suc r * suc r)

-- ---- n * 4 ^ K, for the n of 105 or 106 digits whose root has the whole part r
module _ (n K r : ℕ) (lo : 2 ^ 104 ≤ n) (hi : n < 2 ^ 106) (F : Floor n r) where
  abbrev p : ℕ
  p = 2 ^ K

  abbrev v : ℕ
  v = n * p * p

  abbrev w : ℕ
  w = root (size v) v

  w_is : Floor v w
  w_is = root_is (size v) v (lt_of_lt_of_le (size-lt v) (le-mul_of_pos_right (2 ^ size v) (pow_pos (size v))))

  square : (x : ℕ) → x * p * (x * p) ≡ x * x * p * p
  square x = shape x p
    where
      shape : (x p : ℕ) → x * p * (x * p) ≡ x * x * p * p
      shape x p = omega arith

  w_ge : r * p ≤ w
  w_ge = le_of_suc-le-suc (lt_of_not-le (λ (g : suc w ≤ r * p).
      not-le_of_lt w_is.1 (le_trans (mul-le-mul g g) (le_trans (le_of_eq (square r)) (mul-le-mul_right p (mul-le-mul_right p F.0))))))

  w_lt : w < suc r * p
  w_lt = lt_of_not-le (λ (g : suc r * p ≤ w).
      not-le_of_lt (mul-lt-mul_of_pos_right (mul-lt-mul_of_pos_right F.1 (pow_pos K)) (pow_pos K))
      (le_trans (le_of_eq (sym (square (suc r)))) (le_trans (mul-le-mul g g) w_is.0)))

  r_ge : 2 ^ 52 ≤ r
  r_ge = le_of_suc-le-suc (lt_of_not-le (λ (g : suc r ≤ 2 ^ 52). not-le_of_lt F.1 (le_trans (mul-le-mul g g) lo)))

  r_lt : r < 2 ^ 53
  r_lt = lt_of_not-le (λ (g : 2 ^ 53 ≤ r). not-le_of_lt hi (le_trans (mul-le-mul g g) F.0))

  dropped : size w - 53 ≡ K
  dropped = size_is 52 w K (lt_of_lt_of_le w_lt (mul-le-mul_right p r_lt)) (λ _. le_trans (mul-le-mul_right p r_ge) w_ge)

  kept : w / p ≡ r
  kept = div-eq_of_lt-le p w_ge (subst (λ (x : ℕ). w < x * p) (sym (add-one r)) w_lt)

  opened : root_of binary64 v ≡ units binary64 false (nearest (w / 2 ^ (size w - 53))
      (compare (4 * v) ((2 * (w / 2 ^ (size w - 53)) + 1) * 2 ^ (size w - 53) * ((2 * (w / 2 ^ (size w - 53)) + 1) * 2 ^ (size w - 53)))))
      (size w - 53)
  unfolding root_of
  opened = refl

  rooted : root_of binary64 v ≡ units binary64 false (nearest r (compare (4 * v) ((2 * r + 1) * p * ((2 * r + 1) * p)))) K
  rooted =
      opened
      ∙ ap (λ (k : ℕ). units binary64 false (nearest (w / 2 ^ k) (compare (4 * v) ((2 * (w / 2 ^ k) + 1) * 2 ^ k * ((2 * (w / 2 ^ k) + 1) * 2 ^ k)))) k) dropped
      ∙ ap (λ (q : ℕ). units binary64 false (nearest q (compare (4 * v) ((2 * q + 1) * p * ((2 * q + 1) * p)))) K) kept

  -- the root is not above the middle, or is
  stays : n ≤ r * (r + 1) → root_of binary64 v ≡ units binary64 false r K
  stays h = rooted ∙ ap (λ (o : Ordering). units binary64 false (nearest r o) K)
      (cmp_is Ordering.lt (4 * v) ((2 * r + 1) * p * ((2 * r + 1) * p))
      (less r n p (mul-le-mul_right p (mul-le-mul_right p h)) (mul-pos (pow_pos K) (pow_pos K))))
    where
      less : (r n p : ℕ) → n * p * p ≤ r * (r + 1) * p * p → 0 < p * p → 4 * (n * p * p) < (2 * r + 1) * p * ((2 * r + 1) * p)
      less r n p h g = omega arith

  goes_up : r * (r + 1) < n → root_of binary64 v ≡ units binary64 false (suc r) K
  goes_up h = rooted ∙ ap (λ (o : Ordering). units binary64 false (nearest r o) K)
      (cmp_is Ordering.gt (4 * v) ((2 * r + 1) * p * ((2 * r + 1) * p))
      (more r n p (mul-le-mul_right p (mul-le-mul_right p h)) (mul-pos (pow_pos K) (pow_pos K))))
    where
      more : (r n p : ℕ) → suc (r * (r + 1)) * p * p ≤ n * p * p → 0 < p * p → (2 * r + 1) * p * ((2 * r + 1) * p) < 4 * (n * p * p)
      more r n p h g = omega arith

-- by the nearest whole number q
pub root_at : (n K q : ℕ) → 2 ^ 104 ≤ n → n < 2 ^ 106 → Roots n q → root_of binary64 (n * 2 ^ K * 2 ^ K) ≡ units binary64 false q K
root_at n K q lo hi R = go q R (lt_or_le n (q * q))
  where
    one_less : (r : ℕ) → suc r - 1 ≡ r
    one_less r = omega arith

    low_floor : (q n : ℕ) → q * q ≤ n → n ≤ q * (q + 1) → Floor n q
    low_floor q n a b = (a, omega arith)

    high_floor : (r n : ℕ) → suc r * r < n → n < suc r * suc r → Floor n r
    high_floor r n a b = (omega arith, b)

    next : (r n : ℕ) → suc r * r < n → r * (r + 1) < n
    next r n h = omega arith

    go : (q : ℕ) → Roots n q → (n < q * q) ⊎ (q * q ≤ n) → root_of binary64 (n * 2 ^ K * 2 ^ K) ≡ units binary64 false q K
    go q R (inr h) = stays n K q lo hi (low_floor q n h R.below) R.below
    go zero R (inl h) = absurd (none n h)
      where
        none : (n : ℕ) → n < 0 * 0 → ⊥
        none n h = omega arith
    go (suc r) R (inl h) =
        let a : suc r * r < n = subst (λ (x : ℕ). suc r * x < n) (one_less r) R.above in
        goes_up n K r lo hi (high_floor r n a h) (next r n a)

-- the nearest whole number has 53 digits, or is one up
pub root_range : (n q : ℕ) → 2 ^ 104 ≤ n → n < 2 ^ 106 → Roots n q → (2 ^ 52 ≤ q) × (q ≤ 2 ^ 53)
root_range n q lo hi R = (
  le_of_suc-le-suc (lt_of_not-le (λ (g : suc q ≤ 2 ^ 52). lt_irrefl n (lt_of_le_of_lt R.below (lt_of_lt_of_le (small q g) lo)))),
  le_of_suc-le-suc (lt_of_not-le (λ (g : suc (2 ^ 53) ≤ q). lt_irrefl n
      (lt_of_lt_of_le hi (le_trans (mul-le-mul (le_of_lt g) (one g)) (le_of_lt R.above))))),
)
  where
    one : suc (2 ^ 53) ≤ q → 2 ^ 53 ≤ q - 1
    one g = omega arith

    small : (q : ℕ) → suc q ≤ 2 ^ 52 → q * (q + 1) < 2 ^ 52 * 2 ^ 52
    small q g = lt_of_le_of_lt (mul-le-mul_left q (le_of_one q g)) (mul-lt-mul_of_pos_right g (pow_pos 52))
      where
        le_of_one : (q : ℕ) → suc q ≤ 2 ^ 52 → q + 1 ≤ 2 ^ 52
        le_of_one q g = omega arith

-- ---- `sqrt` of a finite value above 0, by its parts
pub sqrt_at : (x : Float) (q k : ℕ) → Splits x false q k → 0 < q → sqrt binary64 x ≡ root_of binary64 (q * 2 ^ k * 2 ^ 1074)
sqrt_at x q k S Q = go x S.value
  where
    no_zero : (e : ℤ) → zero * up e * 2 ^ 1074 ≡ q * 2 ^ k * down e → ⊥
    no_zero e h = lt_irrefl 0 (subst (λ (y : ℕ). 0 < y) (sym h ∙ ap (λ (y : ℕ). y * 2 ^ 1074) (zero-mul (up e)) ∙ zero-mul (2 ^ 1074))
        (mul-pos (mul-pos Q (pow_pos k)) (down_pos e)))

    opened : (m : ℕ) (e : ℤ) → sqrt binary64 (fin false (suc m) e) ≡ root_of binary64 (suc m * up e * 2 ^ 1074 * 2 ^ 1074 / down e)
    opened m e = unfold sqrt in refl

    go : (x : Float) → HasValue x false (q * 2 ^ k) (2 ^ 1074) → sqrt binary64 x ≡ root_of binary64 (q * 2 ^ k * 2 ^ 1074)
    go nan h = absurd h
    go (inf s) h = absurd h
    go (fin true m e) h = absurd (true≢false h.0)
    go (fin false zero e) h = absurd (no_zero e h.1)
    go (fin false (suc m) e) h =
        opened m e
        ∙ ap (λ (y : ℕ). root_of binary64 y)
        (ap (λ (y : ℕ). y * 2 ^ 1074 / down e) h.1
        ∙ ap (λ (y : ℕ). y / down e) (mul_right_comm (q * 2 ^ k) (down e) (2 ^ 1074))
        ∙ mul-div_cancel (q * 2 ^ k * 2 ^ 1074) (down_pos e))

-- q * 2 ^ k, at a place t above: 2 ^ i of it, where i and t make k + 52, is n * 4 ^ (t / 2 + 485) with n the digits at 2 ^ 52, doubled where t is odd
pub evenly : (q k i t j : ℕ) → i + t ≡ k + 52 → t ≡ 2 * j → q * 2 ^ k * 2 ^ 1074 ≡ q * 2 ^ i * 2 ^ 52 * 2 ^ (j + 485) * 2 ^ (j + 485)
evenly q k i t j e f =
    mul_assoc q (2 ^ k) (2 ^ 1074)
    ∙ ap (λ (x : ℕ). q * x) (sym (pow-add 2 k 1074) ∙ ap (λ (x : ℕ). 2 ^ x) (places k i t j e f) ∙ pow-add 2 (i + 52 + (j + 485)) (j + 485)
    ∙ ap (λ (x : ℕ). x * 2 ^ (j + 485)) (pow-add 2 (i + 52) (j + 485) ∙ ap (λ (x : ℕ). x * 2 ^ (j + 485)) (pow-add 2 i 52)))
    ∙ shape q (2 ^ i) (2 ^ 52) (2 ^ (j + 485))
  where
    places : (k i t j : ℕ) → i + t ≡ k + 52 → t ≡ 2 * j → k + 1074 ≡ i + 52 + (j + 485) + (j + 485)
    places k i t j e f = omega arith

    shape : (q a b c : ℕ) → q * (a * b * c * c) ≡ q * a * b * c * c
    shape q a b c = simp mul_assoc

pub oddly : (q k i t j : ℕ) → i + t ≡ k + 52 → t ≡ 2 * j + 1 → q * 2 ^ k * 2 ^ 1074 ≡ q * 2 ^ i * 2 * 2 ^ 52 * 2 ^ (j + 485) * 2 ^ (j + 485)
oddly q k i t j e f =
    mul_assoc q (2 ^ k) (2 ^ 1074)
    ∙ ap (λ (x : ℕ). q * x) (sym (pow-add 2 k 1074) ∙ ap (λ (x : ℕ). 2 ^ x) (places k i t j e f) ∙ pow-add 2 (i + 1 + 52 + (j + 485)) (j + 485)
    ∙ ap (λ (x : ℕ). x * 2 ^ (j + 485)) (pow-add 2 (i + 1 + 52) (j + 485)
    ∙ ap (λ (x : ℕ). x * 2 ^ (j + 485)) (pow-add 2 (i + 1) 52 ∙ ap (λ (x : ℕ). x * 2 ^ 52) (pow-add 2 i 1))))
    ∙ shape q (2 ^ i) 2 (2 ^ 52) (2 ^ (j + 485))
  where
    places : (k i t j : ℕ) → i + t ≡ k + 52 → t ≡ 2 * j + 1 → k + 1074 ≡ i + 1 + 52 + (j + 485) + (j + 485)
    places k i t j e f = omega arith

    shape : (q a o b c : ℕ) → q * (a * o * b * c * c) ≡ q * a * o * b * c * c
    shape q a o b c = simp mul_assoc

-- ---- the other values
pub of_nan : (x : Float) → is_nan x ≡ true → x ≡ sqrt binary64 x
unfolding is_nan
of_nan nan h = unfold sqrt in refl
of_nan (inf s) h = absurd (false≢true h)
of_nan (fin s m e) h = absurd (false≢true h)

pub of_zero : (x : Float) → eq x (of_bits binary64 0) ≡ true → x ≡ sqrt binary64 x
of_zero nan h = absurd (no h)
  where
    no : eq nan (of_bits binary64 0) ≡ true → ⊥
    no h = unfold eq of_bits in false≢true h
of_zero (inf s) h = absurd (no s h)
  where
    no : (s : Bool) → eq (inf s) (of_bits binary64 0) ≡ true → ⊥
    no s h = unfold eq of_bits in false≢true h
of_zero (fin s m e) h = ap (λ (y : ℕ). fin s y e) z ∙ sym (ap (λ (y : ℕ). sqrt binary64 (fin s y e)) z ∙ zero_root)
  where
    z : m ≡ 0
    z = zero_of s m e h

    zero_root : sqrt binary64 (fin s 0 e) ≡ fin s 0 e
    zero_root = unfold sqrt in refl

zero_bits : of_bits binary64 0 ≡ fin false 0 (pos 0)
unfolding of_bits
zero_bits = refl

lt_zero : (s : Bool) (m : ℕ) (e : ℤ) → lt (fin s m e) (of_bits binary64 0) ≡ below s (m * up e * 1) false (0 * 1 * down e)
lt_zero s m e = ap (λ (y : Float). lt (fin s m e) y) zero_bits ∙ opened
  where
    opened : lt (fin s m e) (fin false 0 (pos 0)) ≡ below s (m * up e * 1) false (0 * 1 * down e)
    opened = unfold lt in refl

pub of_negative : (x : Float) → lt x (of_bits binary64 0) ≡ true → nan ≡ sqrt binary64 x
of_negative nan h = unfold sqrt in refl
of_negative (inf true) h = unfold sqrt in refl
of_negative (inf false) h = absurd (no h)
  where
    no : lt (inf false) (of_bits binary64 0) ≡ true → ⊥
    no h = unfold lt of_bits in false≢true h
of_negative (fin true zero e) h = absurd (no (m_zero (ltb-true 0 (0 * up e * 1 + 0 * 1 * down e) (sym (lt_zero true 0 e) ∙ h))))
  where
    no : 0 < 0 → ⊥
    no l = lt_irrefl 0 l

    m_zero : 0 < 0 * up e * 1 + 0 * 1 * down e → 0 < 0
    m_zero l = omega arith
of_negative (fin true (suc m) e) h = unfold sqrt in refl
of_negative (fin false m e) h = absurd (no (m * up e * 1) (0 * 1 * down e) (zero-mul (down e))
    (ltb-true (m * up e * 1) (0 * 1 * down e) (sym (lt_zero false m e) ∙ h)))
  where
    no : (a b : ℕ) → b ≡ 0 → a < b → ⊥
    no a b z l = omega arith

pub of_infinite : (x : Float) → lt x (of_bits binary64 0) ≡ false → T (not (finite x)) → x ≡ sqrt binary64 x
of_infinite nan h f = unfold sqrt in refl
of_infinite (inf true) h f = absurd (no h)
  where
    no : lt (inf true) (of_bits binary64 0) ≡ false → ⊥
    no h = unfold lt of_bits in true≢false h
of_infinite (inf false) h f = unfold sqrt in refl
of_infinite (fin s m e) h f = absurd f

-- a finite value that is neither 0.0 nor less has no sign
pub no_sign : (x : Float) (s : Bool) (q k : ℕ) → Splits x s q k → 0 < q → lt x (of_bits binary64 0) ≡ false → s ≡ false
no_sign x s q k S Q f = go x s S.value f
  where
    some : (m : ℕ) (e : ℤ) → m * up e * 2 ^ 1074 ≡ q * 2 ^ k * down e → 0 < m * up e * 1 + 0 * 1 * down e
    some m e h = more (m * up e) (m * up e * 2 ^ 1074) (pos_of (m * up e) (subst (λ (y : ℕ). 0 < y) (sym h) (mul-pos (mul-pos Q (pow_pos k)) (down_pos e))))
      where
        pos_of : (a : ℕ) → 0 < a * 2 ^ 1074 → 0 < a
        pos_of a l = lib.Ieee.Positive.first_pos a (2 ^ 1074) l

        more : (a b : ℕ) → 0 < a → 0 < a * 1 + 0 * 1 * down e
        more a b l = omega arith

    go : (x : Float) (s : Bool) → HasValue x s (q * 2 ^ k) (2 ^ 1074) → lt x (of_bits binary64 0) ≡ false → s ≡ false
    go nan s v f = absurd v
    go (inf t) s v f = absurd v
    go (fin false m e) s v f = sym v.0
    go (fin true m e) s v f = absurd (true≢false (sym (lt-ltb 0 (m * up e * 1 + 0 * 1 * down e) (some m e v.1)) ∙ sym (lt_zero true m e) ∙ f))
