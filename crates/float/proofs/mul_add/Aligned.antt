-- Two numbers at two places, X * 2 ^ d and Y, of which Y is cut to X's place by `jam`: for an even X, the
-- sum and the difference of X and what is left of Y are the exact ones, cut by `jam`.
--
use Rattle.std.proofs.Common.{◌≡◌, ℕ, zero, suc, ◌+◌, ◌-◌, ◌*◌, ◌/◌, ◌%◌, ◌^◌, ◌<◌, ◌≤◌, min, ◌⊎◌, sym, ap, ◌∙◌, subst, inl, inr, le_trans, le_of_eq}
use Rattle.std.proofs.Common.{lt_of_lt_of_le, mul-le-mul_right, mod-lt, mul_assoc, mul_comm, add-sub_of_le, eq-zero-or-pos, eq-or-lt_of_le}
use Rattle.std.proofs.Common.{mul-le-mul_left, div-add-mod', arith, pow_pos}
use native.Mathlib.Nat.{pow-succ'}
use Rattle.float.specs.Promises.Jam.{jam}
use Rattle.float.proofs.wide.Jammed.{jam_at}

-- ---- the parts of a number n at 2 ^ suc d
module _ (n d : ℕ) where
  abbrev b : ℕ
  b = 2 ^ suc d

  parts : n / b * b + n % b ≡ n
  parts = div-add-mod' n b

  b_two : 2 ≤ b
  b_two = le_trans (mul-le-mul_left 2 (pow_pos d)) (le_of_eq (sym (pow-succ' 2 d)))

  pub jam_le : jam n d ≤ n
  jam_le = let x : n / b * 2 ≤ n / b * b = mul-le-mul_left (n / b) b_two in omega (arith, parts)

  pub jam_some : 0 < n → 0 < jam n d
  jam_some h = go (n / b) (n % b) parts
    where
      go : (q r : ℕ) → q * b + r ≡ n → 0 < 2 * q + min 1 r
      go zero r e = omega arith
      go (suc q) r e = omega arith

  -- what is left of n is its quotient and one at most
  pub jam_below : jam n d * 2 ^ d ≤ n + 2 ^ d
  jam_below =
      let p = 2 ^ d in
      let e : b ≡ 2 * p = pow-succ' 2 d in
      let x : n / b * b ≡ n / b * (2 * p) = ap (λ (y : ℕ). n / b * y) e in
      let y : min 1 (n % b) * p ≤ 1 * p = mul-le-mul_right p (one (n % b)) in
      omega (arith, parts)
    where
      one : (r : ℕ) → min 1 r ≤ 1
      one r = omega arith

-- ---- X is 2 * x, at 2 ^ d, and Y
module _ (X x Y d : ℕ) (even : X ≡ 2 * x) where
  abbrev u : ℕ
  u = 2 ^ suc d

  abbrev A : ℕ
  A = Y / u

  abbrev r : ℕ
  r = Y % u

  Y-is : A * u + r ≡ Y
  Y-is = div-add-mod' Y u

  r_lt : r < u
  r_lt = mod-lt Y (pow_pos (suc d))

  X-is : X * 2 ^ d ≡ x * u
  X-is = ap (λ (y : ℕ). y * 2 ^ d) (even ∙ mul_comm 2 x) ∙ mul_assoc x 2 (2 ^ d) ∙ ap (λ (y : ℕ). x * y) (sym (pow-succ' 2 d))

  pub jam_add : X + jam Y d ≡ jam (X * 2 ^ d + Y) d
  jam_add = plain A x (min 1 r) X even ∙ sym (jam_at (X * 2 ^ d + Y) d (x + A) r (ap (λ (y : ℕ). y + Y) X-is ∙ sum (x * u) A) r_lt)
    where
      plain : (A x s X : ℕ) → X ≡ 2 * x → X + (2 * A + s) ≡ 2 * (x + A) + s
      plain A x s X e = omega arith

      sum : (z A' : ℕ) → x * u + Y ≡ (x + A) * u + r
      sum z A' = omega (arith, Y-is)

  -- the order is the exact one
  pub more_is : jam Y d < X → Y < X * 2 ^ d
  more_is h =
      let l : suc A * u ≤ x * u = mul-le-mul_right u (half A x (min 1 r) X even h) in
      lt_of_lt_of_le (omega (arith, Y-is, r_lt)) (le_of_eq (sym X-is))
    where
      half : (A x s X : ℕ) → X ≡ 2 * x → 2 * A + s < X → A < x
      half A x s X e h = omega arith

  pub jam_more : jam Y d < X → X - jam Y d ≡ jam (X * 2 ^ d - Y) d
  jam_more h = go (eq-zero-or-pos r)
    where
      go : (r ≡ 0) ⊎ (0 < r) → X - jam Y d ≡ jam (X * 2 ^ d - Y) d
      go (inl z) =
          let k = x - A in
          let e : (A + k) * u ≡ x * u = ap (λ (y : ℕ). y * u) (whole A x (min 1 r) X even h) in
          flat A x r X even z h
          ∙ sym (jam_at (X * 2 ^ d - Y) d k 0 (ap (λ (y : ℕ). y - Y) X-is ∙ omega (arith, Y-is)) (pow_pos (suc d)))
        where
          whole : (A x s X : ℕ) → X ≡ 2 * x → 2 * A + s < X → A + (x - A) ≡ x
          whole A x s X e h = omega arith

          flat : (A x r X : ℕ) → X ≡ 2 * x → r ≡ 0 → 2 * A + min 1 r < X → X - (2 * A + min 1 r) ≡ 2 * (x - A) + min 1 0
          flat A x r X e z h = omega arith
      go (inr p) =
          let k = x - A - 1 in
          let e : (A + 1 + k) * u ≡ x * u = ap (λ (y : ℕ). y * u) (whole A x r X even p h) in
          over A x r u X even p r_lt h
          ∙ sym (jam_at (X * 2 ^ d - Y) d k (u - r) (ap (λ (y : ℕ). y - Y) X-is ∙ omega (arith, Y-is, r_lt)) (omega (arith, r_lt)))
        where
          whole : (A x r X : ℕ) → X ≡ 2 * x → 0 < r → 2 * A + min 1 r < X → A + 1 + (x - A - 1) ≡ x
          whole A x r X e p h = omega arith

          over : (A x r u X : ℕ) → X ≡ 2 * x → 0 < r → r < u → 2 * A + min 1 r < X → X - (2 * A + min 1 r) ≡ 2 * (x - A - 1) + min 1 (u - r)
          over A x r u X e p l h = omega arith

  at_most : X ≤ jam Y d → x ≤ A
  at_most h = half A x (min 1 r) X (one r) even h
    where
      one : (r : ℕ) → min 1 r ≤ 1
      one r = omega arith

      half : (A x s X : ℕ) → s ≤ 1 → X ≡ 2 * x → X ≤ 2 * A + s → x ≤ A
      half A x s X o e h = omega arith

  pub less_is : X < jam Y d → X * 2 ^ d < Y
  less_is h = subst (λ (y : ℕ). y < Y) (sym X-is) (go (eq-or-lt_of_le (at_most (omega arith))))
    where
      some : (A x r X : ℕ) → X ≡ 2 * x → x ≡ A → X < 2 * A + min 1 r → 0 < r
      some A x r X e f h = omega arith

      go : (x ≡ A) ⊎ (x < A) → x * u < Y
      go (inl e) = let f : x * u ≡ A * u = ap (λ (y : ℕ). y * u) e in let p : 0 < r = some A x r X even e h in omega (arith, Y-is)
      go (inr l) = let f : suc x * u ≤ A * u = mul-le-mul_right u l in let p : 0 < u = pow_pos (suc d) in omega (arith, Y-is)

  pub jam_less : X < jam Y d → jam Y d - X ≡ jam (Y - X * 2 ^ d) d
  jam_less h =
      let k = A - x in
      let g : x ≤ A = at_most (omega arith) in
      let e : (x + k) * u ≡ A * u = ap (λ (y : ℕ). y * u) (add-sub_of_le g) in
      plain A x (min 1 r) X even g
      ∙ sym (jam_at (Y - X * 2 ^ d) d k r (ap (λ (y : ℕ). Y - y) X-is ∙ omega (arith, Y-is)) r_lt)
    where
      plain : (A x s X : ℕ) → X ≡ 2 * x → x ≤ A → 2 * A + s - X ≡ 2 * (A - x) + s
      plain A x s X e g = omega arith

  pub none_is : X ≡ jam Y d → X * 2 ^ d ≡ Y
  none_is h =
      X-is
      ∙ ap (λ (y : ℕ). y * u) (same A x r X even h)
      ∙ omega (arith, Y-is, nought A x r X even h)
    where
      same : (A x r X : ℕ) → X ≡ 2 * x → X ≡ 2 * A + min 1 r → x ≡ A
      same A x r X e h = omega arith

      nought : (A x r X : ℕ) → X ≡ 2 * x → X ≡ 2 * A + min 1 r → r ≡ 0
      nought A x r X e h = omega arith

  -- where nothing of Y is lost, nothing of the sum or the difference is
  pub whole_add : r ≡ 0 → (X * 2 ^ d + Y) % u ≡ 0
  whole_add z = ap (λ (y : ℕ). y % u) (ap (λ (y : ℕ). y + Y) X-is ∙ even_sum) ∙ native.Mathlib.Nat.mul-mod_left (x + A) u
    where
      even_sum : x * u + Y ≡ (x + A) * u
      even_sum = omega (arith, Y-is)

  pub whole_more : r ≡ 0 → jam Y d < X → (X * 2 ^ d - Y) % u ≡ 0
  whole_more z h = ap (λ (y : ℕ). y % u) (ap (λ (y : ℕ). y - Y) X-is ∙ diff (x - A) (part A x (min 1 r) X even h)) ∙ native.Mathlib.Nat.mul-mod_left (x - A) u
    where
      part : (A x s X : ℕ) → X ≡ 2 * x → 2 * A + s < X → A + (x - A) ≡ x
      part A x s X e h = omega arith

      diff : (k : ℕ) → A + k ≡ x → x * u - Y ≡ k * u
      diff k e = let f : (A + k) * u ≡ x * u = ap (λ (y : ℕ). y * u) e in omega (arith, Y-is)

  pub whole_less : r ≡ 0 → X < jam Y d → (Y - X * 2 ^ d) % u ≡ 0
  whole_less z h = ap (λ (y : ℕ). y % u) (ap (λ (y : ℕ). Y - y) X-is ∙ diff (A - x) (part (at_most (omega arith)))) ∙ native.Mathlib.Nat.mul-mod_left (A - x) u
    where
      part : x ≤ A → x + (A - x) ≡ A
      part g = omega arith

      diff : (k : ℕ) → x + k ≡ A → Y - x * u ≡ k * u
      diff k e = let f : (x + k) * u ≡ A * u = ap (λ (y : ℕ). y * u) e in omega (arith, Y-is)
