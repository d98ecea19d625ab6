-- `round` at binary64 from a number cut to 64 digits: a fraction S * 2 ^ e / 2 ^ c whose S is cut by `jam` to
-- a w below 2 ^ 64 rounds to w's upper 53 digits, moved up where the lower 11 say so.
--
use Rattle.std.proofs.Common.{◌≡◌, ℕ, zero, suc, ◌+◌, ◌-◌, ◌*◌, ◌/◌, ◌%◌, ◌^◌, ◌<◌, ◌≤◌, min, Bool, sym, ap, ◌∙◌, subst, le_trans, le_of_eq}
use Rattle.std.proofs.Common.{lt_of_lt_of_le, mul-le-mul_right, mod-lt, zero-lt-suc, mul_assoc, mul_comm, div-lt_iff_lt-mul, mul-lt-mul_of_pos_right}
use Rattle.std.proofs.Common.{mul-pos, div-add-mod', le-div_iff_mul-le, mul_left_comm, arith, pow_pos, pow-add}
use lib.Ieee.{binary64, size, units, round}
use lib.Ieee.Digits.{size-le}
use lib.Ieee.Fits.{round_is}
use lib.Ieee.Nearest.{closest, closest_same}
use lib.Ieee.Order.{drop}
use Rattle.float.specs.Promises.Jam.{jam}
use Rattle.float.specs.Laws.Near.{size_gt}
use Rattle.float.specs.Laws.Cut.{closest_jam}

-- ---- how many digits are dropped

-- n has k digits more than p, or no more than p where k is 0
pub size_is : (p n k : ℕ) → n < 2 ^ suc p * 2 ^ k → (0 < k → 2 ^ p * 2 ^ k ≤ n) → size n - suc p ≡ k
size_is p n k a b = go k (size-le n (suc p + k) (lt_of_lt_of_le a (le_of_eq (sym (pow-add 2 (suc p) k)))))
    (λ (h : 0 < k). size_gt n (p + k) (le_trans (le_of_eq (pow-add 2 p k)) (b h)))
  where
    go : (k : ℕ) → size n ≤ suc p + k → (0 < k → p + k < size n) → size n - suc p ≡ k
    go zero x y = omega arith
    go (suc k) x y = let z : p + suc k < size n = y (zero-lt-suc k) in omega arith

drop_is : (p n den k : ℕ) → 0 < den → n < 2 ^ suc p * (den * 2 ^ k) → (0 < k → 2 ^ p * (den * 2 ^ k) ≤ n) → drop (suc p) n den ≡ k
drop_is p n den k D a b =
    size_is p (n / den) k
    ((div-lt_iff_lt-mul D).1 (lt_of_lt_of_le a (le_of_eq (rearranged (2 ^ suc p)))))
    (λ (h : 0 < k). (le-div_iff_mul-le D).1 (le_trans (le_of_eq (sym (rearranged (2 ^ p)))) (b h)))
  where
    rearranged : (x : ℕ) → x * (den * 2 ^ k) ≡ x * 2 ^ k * den
    rearranged x = simp (mul_assoc, mul_comm, mul_left_comm)

-- `round` at a k that is known to be the number of digits dropped
round_at : (s : Bool) (num den k : ℕ) → 0 < den → num * 2 ^ 1074 < 2 ^ 53 * (den * 2 ^ k) → (0 < k → 2 ^ 52 * (den * 2 ^ k) ≤ num * 2 ^ 1074)
    → round binary64 s num den ≡ units binary64 s (closest (num * 2 ^ 1074) (den * 2 ^ k)) k
round_at s num den k D a b =
    round_is binary64 s num den
    ∙ ap (λ (x : ℕ). units binary64 s (closest (num * 2 ^ 1074) (den * 2 ^ x)) x) (drop_is 52 (num * 2 ^ 1074) den k D a b)

-- ---- a number that was cut to 64 digits

-- n * g in units of u, where u is 2 ^ (d + 1) * 2 ^ 10 times g
module _ (n d g u w : ℕ) (U : u ≡ g * (2 ^ suc d * 2 ^ 10)) (G : 0 < g) (W : w ≡ jam n d) where
  abbrev b : ℕ
  b = 2 ^ suc d

  upper : w < 2 ^ 64 → n < 2 ^ 63 * b
  upper h =
      let e : n / b * b + n % b ≡ n = div-add-mod' n b in
      let r : n % b < b = mod-lt n (pow_pos (suc d)) in
      let x : suc (n / b) * b ≤ 2 ^ 63 * b = mul-le-mul_right b (half (n / b) (n % b) w W h) in
      omega arith
    where
      half : (q r w : ℕ) → w ≡ 2 * q + min 1 r → w < 2 ^ 64 → q < 2 ^ 63
      half q r w e h = omega arith

  lower : 2 ^ 63 ≤ w → 2 ^ 62 * b ≤ n
  lower h =
      let e : n / b * b + n % b ≡ n = div-add-mod' n b in
      let x : 2 ^ 62 * b ≤ n / b * b = mul-le-mul_right b (half (n / b) (n % b) w W h) in
      omega arith
    where
      half : (q r w : ℕ) → w ≡ 2 * q + min 1 r → 2 ^ 63 ≤ w → 2 ^ 62 ≤ q
      half q r w e h = omega arith

  scaled_upper : w < 2 ^ 64 → n * g < 2 ^ 53 * u
  scaled_upper h =
      lt_of_lt_of_le (mul-lt-mul_of_pos_right (upper h) G)
      (le_of_eq (ap (λ (x : ℕ). x * g) (mul_comm (2 ^ 63) b) ∙ rearranged ∙ ap (λ (x : ℕ). 2 ^ 53 * x) (sym U)))
    where
      rearranged : b * 2 ^ 63 * g ≡ 2 ^ 53 * (g * (b * 2 ^ 10))
      rearranged = omega arith

  scaled_lower : 2 ^ 63 ≤ w → 2 ^ 52 * u ≤ n * g
  scaled_lower h = le_trans (le_of_eq (ap (λ (x : ℕ). 2 ^ 52 * x) U ∙ rearranged)) (mul-le-mul_right g (lower h))
    where
      rearranged : 2 ^ 52 * (g * (b * 2 ^ 10)) ≡ 2 ^ 62 * b * g
      rearranged = omega arith

  scaled_closest : closest (n * g) u ≡ closest w (2 ^ 11)
  scaled_closest =
      closest_same (n * g) u n (b * 2 ^ 10) (subst (λ (x : ℕ). 0 < x) (sym U) (mul-pos G (mul-pos (pow_pos (suc d)) (pow_pos 10))))
      (mul-pos (pow_pos (suc d)) (pow_pos 10))
      (mul_assoc n g (b * 2 ^ 10) ∙ ap (λ (x : ℕ). n * x) (sym U))
      ∙ closest_jam n d (2 ^ 9) (pow_pos 9)
      ∙ ap (λ (x : ℕ). closest x (2 ^ 11)) (sym W)

-- the powers of two: c + k is e + d + 1085
place : (c k e d : ℕ) → c + k ≡ e + d + 1085 → 2 ^ c * 2 ^ k ≡ 2 ^ e * 2 ^ 1074 * (2 ^ suc d * 2 ^ 10)
place c k e d h =
    sym (pow-add 2 c k)
    ∙ ap (λ (x : ℕ). 2 ^ x) (h ∙ regroup)
    ∙ pow-add 2 (e + 1074) (suc d + 10)
    ∙ ap (λ (x : ℕ). x * 2 ^ (suc d + 10)) (pow-add 2 e 1074)
    ∙ ap (λ (x : ℕ). 2 ^ e * 2 ^ 1074 * x) (pow-add 2 (suc d) 10)
  where
    regroup : e + d + 1085 ≡ e + 1074 + (suc d + 10)
    regroup = omega arith

-- S * 2 ^ e / 2 ^ c, whose w is S cut by d digits
pub round_jam : (s : Bool) (S e c d k w : ℕ) → c + k ≡ e + d + 1085 → w ≡ jam S d → w < 2 ^ 64 → (0 < k → 2 ^ 63 ≤ w)
    → round binary64 s (S * 2 ^ e) (2 ^ c) ≡ units binary64 s (closest w (2 ^ 11)) k
round_jam s S e c d k w h W a b =
    let g = 2 ^ e * 2 ^ 1074 in
    let u = 2 ^ c * 2 ^ k in
    let U : u ≡ g * (2 ^ suc d * 2 ^ 10) = place c k e d h in
    let G : 0 < g = mul-pos (pow_pos e) (pow_pos 1074) in
    let n : S * 2 ^ e * 2 ^ 1074 ≡ S * g = mul_assoc S (2 ^ e) (2 ^ 1074) in
    round_at s (S * 2 ^ e) (2 ^ c) k (pow_pos c)
    (subst (λ (x : ℕ). x < 2 ^ 53 * u) (sym n) (scaled_upper S d g u w U G W a))
    (λ (z : 0 < k). subst (λ (x : ℕ). 2 ^ 52 * u ≤ x) (sym n) (scaled_lower S d g u w U G W (b z)))
    ∙ ap (λ (x : ℕ). units binary64 s (closest x u) k) n
    ∙ ap (λ (x : ℕ). units binary64 s x k) (scaled_closest S d g u w U G W)
