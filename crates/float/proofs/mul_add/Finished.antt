-- What `finish` rounds is the exact number: D is the exact S cut by `jam`, and shifting D to the left before
-- the next cut is shifting S, if nothing was lost of S or the shift is by a word at most.
--
use Rattle.std.proofs.Common.{◌≡◌, ℕ, suc, ◌+◌, ◌-◌, ◌*◌, ◌/◌, ◌%◌, ◌^◌, ◌<◌, ◌≤◌, min, Bool, ◌⊎◌, sym, ap, ◌∙◌, subst, inl, inr, le_trans}
use Rattle.std.proofs.Common.{le_of_suc-le-suc, mul-le-mul_right, mod-lt, mul_assoc, mul_comm, eq-zero-or-pos, mul-le-mul_left}
use Rattle.std.proofs.Common.{mul-lt-mul_of_pos_right, mul-pos, lt_of_not-le, div-add-mod', sub-add_cancel, mul_right_comm, not-le_of_lt}
use Rattle.std.proofs.Common.{arith, pow_pos, pow_mono, pow-add}
use lib.Arith.{digits_lt}
use lib.Ieee.{Float, binary64, round}
use lib.Ieee.Scale.{round_same}
use Rattle.float.specs.Promises.Jam.{jam}
use Rattle.float.proofs.wide.Jammed.{jam_at, some_times}
use Rattle.float.proofs.mul_add.Left.{jam_top, jam_under, shift_lt}
use Rattle.float.proofs.Rounded.{round_jam}
use Rattle.float.specs.Promises.Parts.{Shifts, Finishes}

-- ---- a shift to the left of what a cut left
module _ (S d L : ℕ) where
  abbrev b : ℕ
  b = 2 ^ suc d

  abbrev A : ℕ
  A = S / b

  abbrev r : ℕ
  r = S % b

  S-is : A * b + r ≡ S
  S-is = div-add-mod' S b

  -- the unit of the second cut: 2 ^ 64 of D's, and so 2 ^ (d + 64) of S's
  unit : 2 ^ suc (d + 64) ≡ 2 ^ 64 * b
  unit = ap (λ (x : ℕ). 2 ^ x) (rearranged d) ∙ pow-add 2 64 (suc d)
    where
      rearranged : (d : ℕ) → suc (d + 64) ≡ 64 + suc d
      rearranged d = omega arith

  -- where nothing was lost, D * 2 ^ d is S
  exact : r ≡ 0 → jam (jam S d * 2 ^ L) 64 ≡ jam (S * 2 ^ L) (d + 64)
  exact z =
      let p = 2 ^ L in
      let Q = A * p in
      let t = Q / 2 ^ 64 in
      let q = Q % 2 ^ 64 in
      let e : t * 2 ^ 64 + q ≡ Q = div-add-mod' Q (2 ^ 64) in
      let l : q < 2 ^ 64 = mod-lt Q (pow_pos 64) in
      jam_at (jam S d * p) 64 t (2 * q) (ap (λ (x : ℕ). (2 * A + min 1 x) * p) z ∙ twice A p t q e) (half q l)
      ∙ ap (λ (x : ℕ). 2 * t + x) (two q ∙ sym (some_times q (suc d)))
      ∙ sym (jam_at (S * p) (d + 64) t (q * b)
      (subst (λ (x : ℕ). S * p ≡ t * x + q * b) (sym unit) (scaled t q (ap (λ (x : ℕ). x * b) e)))
      (subst (λ (x : ℕ). q * b < x) (sym unit) (mul-lt-mul_of_pos_right l (pow_pos (suc d)))))
    where
      twice : (A p t q : ℕ) → t * 2 ^ 64 + q ≡ A * p → (2 * A + min 1 0) * p ≡ t * 2 ^ 65 + 2 * q
      twice A p t q e = omega arith

      half : (q : ℕ) → q < 2 ^ 64 → 2 * q < 2 ^ 65
      half q l = omega arith

      two : (q : ℕ) → min 1 (2 * q) ≡ min 1 q
      two q = omega arith

      scaled : (t q : ℕ) → (t * 2 ^ 64 + q) * b ≡ A * 2 ^ L * b → S * 2 ^ L ≡ t * (2 ^ 64 * b) + q * b
      scaled t q f = let g : (A * b + r) * 2 ^ L ≡ S * 2 ^ L = ap (λ (x : ℕ). x * 2 ^ L) S-is in shape t q (2 ^ 64) (2 ^ L) b A r (S * 2 ^ L) f g z
        where
          shape : (t q N p b A r z : ℕ) → (t * N + q) * b ≡ A * p * b → (A * b + r) * p ≡ z → r ≡ 0 → z ≡ t * (N * b) + q * b
          shape t q N p b A r z f g h = let k : r * p ≡ 0 * p = ap (λ (x : ℕ). x * p) h in omega arith

  -- where something was lost, and the shift is by a word at most, what was lost stays below the second cut
  lossy : 0 < r → L ≤ 64 → jam (jam S d * 2 ^ L) 64 ≡ jam (S * 2 ^ L) (d + 64)
  lossy h le =
      let p = 2 ^ L in
      let m = 2 ^ (64 - L) in
      let t = A / m in
      let q = A % m in
      let e : t * m + q ≡ A = div-add-mod' A m in
      let l : q < m = mod-lt A (pow_pos (64 - L)) in
      let mp : m * p ≡ 2 ^ 64 = sym (pow-add 2 (64 - L) L) ∙ ap (λ (x : ℕ). 2 ^ x) (sub-add_cancel le) in
      let P : 0 < p = pow_pos L in
      let g : r < b = mod-lt S (pow_pos (suc d)) in
      let sl : suc q * p ≤ m * p = mul-le-mul_right p l in
      jam_at (jam S d * p) 64 t (2 * (q * p) + p)
      (ap (λ (x : ℕ). (2 * A + x) * p) (one r h) ∙ upper A p t q m (2 ^ 64) e mp)
      (subst (λ (x : ℕ). 2 * (q * p) + p < 2 * x) mp (omega arith))
      ∙ ap (λ (x : ℕ). 2 * t + x) (both (2 * (q * p) + p) ((q * b + r) * p) (omega arith) (mul-pos (omega arith) P))
      ∙ sym (jam_at (S * p) (d + 64) t ((q * b + r) * p)
      (subst (λ (x : ℕ). S * p ≡ t * x + (q * b + r) * p) (sym unit)
      (subst (λ (x : ℕ). S * p ≡ t * (x * b) + (q * b + r) * p) mp (lower S A p t q m b r e S-is)))
      (subst (λ (x : ℕ). (q * b + r) * p < x) (ap (λ (x : ℕ). x * b) mp ∙ sym unit)
      (subst (λ (x : ℕ). (q * b + r) * p < x) (mul_right_comm m b p) (mul-lt-mul_of_pos_right (digits_lt l g) P))))
    where
      one : (r : ℕ) → 0 < r → min 1 r ≡ 1
      one r h = omega arith

      both : (x y : ℕ) → 0 < x → 0 < y → min 1 x ≡ min 1 y
      both x y h k = omega arith

      upper : (A p t q m N : ℕ) → t * m + q ≡ A → m * p ≡ N → (2 * A + 1) * p ≡ t * (2 * N) + (2 * (q * p) + p)
      upper A p t q m N e f = let x : (t * m + q) * p ≡ A * p = ap (λ (y : ℕ). y * p) e in let z : t * (m * p) ≡ t * N = ap (λ (y : ℕ). t * y) f in omega arith

      lower : (S A p t q m b r : ℕ) → t * m + q ≡ A → A * b + r ≡ S → S * p ≡ t * (m * p * b) + (q * b + r) * p
      lower S A p t q m b r e f =
          let x : (t * m + q) * b ≡ A * b = ap (λ (y : ℕ). y * b) e in
          let y : ((t * m + q) * b + r) * p ≡ S * p = ap (λ (y : ℕ). y * p) (ap (λ (y : ℕ). y + r) x ∙ f) in
          omega arith

  jam_left : (r ≡ 0) ⊎ (L ≤ 64) → jam (jam S d * 2 ^ L) 64 ≡ jam (S * 2 ^ L) (d + 64)
  jam_left c = elim (eq-zero-or-pos r) [ inl z ↦ exact z | inr p ↦ go p c ]
    where
      go : 0 < r → (r ≡ 0) ⊎ (L ≤ 64) → jam (jam S d * 2 ^ L) 64 ≡ jam (S * 2 ^ L) (d + 64)
      go p (inl z) = exact z
      go p (inr l) = lossy p l

-- ---- the shift is by a word at most
short_shift : (D y s : ℕ) → Shifts D y s → (y ≤ 64) ⊎ (2 ^ 64 ≤ D) → s ≤ 64
short_shift D y s h (inl l) = le_trans h.within l
short_shift D y s h (inr g) = le_of_suc-le-suc
    (lt_of_not-le (λ (k : 65 ≤ s). not-le_of_lt h.top (le_trans (le_trans (lib.Dec.lit≤ tt) (mul-le-mul_left (2 ^ 64) (pow_mono k)))
    (mul-le-mul_right (2 ^ s) g))))

-- ---- the exact number, rounded
module _ (neg : Bool) (D y : ℕ) (v : Float) (F : Finishes neg D y v) (S d f c : ℕ) (cut : D ≡ jam S d) (place : c + y ≡ f + d + 1149)
    (safe : (S % 2 ^ suc d ≡ 0) ⊎ ((y ≤ 64) ⊎ (2 ^ 64 ≤ D))) where
  abbrev s : ℕ
  s = F.shift

  s_lt : s < 128
  s_lt = shift_lt D y s F.some F.shifts

  word : jam (D * 2 ^ s) 64 ≡ jam (S * 2 ^ s) (d + 64)
  word = ap (λ (x : ℕ). jam (x * 2 ^ s) 64) cut ∙ jam_left S d s (go safe)
    where
      go : (S % 2 ^ suc d ≡ 0) ⊎ ((y ≤ 64) ⊎ (2 ^ 64 ≤ D)) → (S % 2 ^ suc d ≡ 0) ⊎ (s ≤ 64)
      go (inl z) = inl z
      go (inr g) = inr (short_shift D y s F.shifts g)

  same : S * 2 ^ f * 2 ^ (c + 128) ≡ S * 2 ^ s * 2 ^ (f + 128 - s) * 2 ^ c
  same =
      ap (λ (x : ℕ). S * 2 ^ f * x) (pow-add 2 c 128)
      ∙ rearranged S (2 ^ f) (2 ^ c) (2 ^ 128)
      ∙ ap (λ (x : ℕ). S * x * 2 ^ c) (sym (pow-add 2 f 128) ∙ ap (λ (x : ℕ). 2 ^ x) (whole f s s_lt) ∙ pow-add 2 s (f + 128 - s))
      ∙ ap (λ (x : ℕ). x * 2 ^ c) (sym (mul_assoc S (2 ^ s) (2 ^ (f + 128 - s))))
    where
      whole : (f s : ℕ) → s < 128 → f + 128 ≡ s + (f + 128 - s)
      whole f s h = omega arith

      rearranged : (a b c d : ℕ) → a * b * (c * d) ≡ a * (b * d) * c
      rearranged a b c d = simp (mul_assoc, mul_comm)

  pub finished : v ≡ round binary64 neg (S * 2 ^ f) (2 ^ c)
  finished =
      F.is
      ∙ sym (round_jam neg (S * 2 ^ s) (f + 128 - s) (c + 128) (d + 64) (y - s) (jam (D * 2 ^ s) 64)
      (exponents c y f d s place s_lt F.shifts.within) word (jam_under (D * 2 ^ s) F.shifts.top)
      (λ (h : 0 < y - s). jam_top (D * 2 ^ s) (F.shifts.full (below y s h))))
      ∙ sym (round_same binary64 neg (S * 2 ^ f) (2 ^ c) (S * 2 ^ s * 2 ^ (f + 128 - s)) (2 ^ (c + 128)) (pow_pos c) (pow_pos (c + 128)) same)
    where
      exponents : (c y f d s : ℕ) → c + y ≡ f + d + 1149 → s < 128 → s ≤ y → c + 128 + (y - s) ≡ f + 128 - s + (d + 64) + 1085
      exponents c y f d s e h l = omega arith

      below : (y s : ℕ) → 0 < y - s → s < y
      below y s h = omega arith
