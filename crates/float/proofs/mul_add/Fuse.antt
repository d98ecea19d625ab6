-- The two ways of `mul_add` from the parts of three finite operands: the product p, 2 ^ 20 times that of the
-- digits, at the place m, and the addend h, 2 ^ 73 times its digits, at the place l.
-- The one at the lower place is cut to the other's.
use Rattle.std.proofs.Common.{◌≡◌, ℕ, suc, ◌+◌, ◌-◌, ◌*◌, ◌%◌, ◌^◌, ◌<◌, ◌≤◌, Bool, ◌⊎◌, sym, refl, ap, ◌∙◌, subst, inl, inr, le_trans, le_of_eq}
use Rattle.std.proofs.Common.{lt_of_lt_of_le, le-add_right, lt_of_le_of_lt, le_of_lt, mul-le-mul_right, mul_assoc, mul_comm, eq-zero-or-pos}
use Rattle.std.proofs.Common.{lt_of_mul-lt-mul_right, mul-le-mul_left, mul-lt-mul_of_pos_right, mul-pos, one-mul, mul-one, sub-add_cancel}
use Rattle.std.proofs.Common.{mul_left_comm, le-add_left, arith, lit≤, pow_pos, pow_mono, pow-add}
use native.Mathlib.Nat.{mul-mod_left}
use lib.Ieee.{Float, binary64, unlike, sum}
use Rattle.float.specs.MulAdd.{mul_add}
use Rattle.float.specs.Promises.Jam.{jam}
use Rattle.float.specs.Laws.Compare.{lt_or_le}
use Rattle.float.specs.Promises.Parts.{Splits, Combines}
use Rattle.float.specs.Laws.Zero.{sum_comm}
use Rattle.float.proofs.mul_add.Aligned.{jam_le, jam_some, jam_below}
use Rattle.float.proofs.mul_add.Sums.{combined}
use Rattle.float.proofs.mul_add.Special.{mul_add_at}

-- whatever is ±X ± W, where W is what is left of the other number at the place of X, is a * b + c
pub record Orders (a b c : Float) (s : Bool) (X : ℕ) (t : Bool) (W y : ℕ) : Type 0 where
  pub some : 0 < X + W
  pub room : X + W < 2 ^ 128
  pub ends : (r : Float) → Combines s X t W y r → r ≡ mul_add binary64 a b c

-- ---- numbers
-- a multiple of 2 ^ j is one of 2 ^ suc d for a d below j
whole : (n j d : ℕ) → d < j → n * 2 ^ j % 2 ^ suc d ≡ 0
whole n j d h =
    ap (λ (x : ℕ). n * x % 2 ^ suc d) (ap (λ (k : ℕ). 2 ^ k) (split j d h) ∙ pow-add 2 (j - suc d) (suc d))
    ∙ ap (λ (x : ℕ). x % 2 ^ suc d) (sym (mul_assoc n (2 ^ (j - suc d)) (2 ^ suc d)))
    ∙ mul-mod_left (n * 2 ^ (j - suc d)) (2 ^ suc d)
  where
    split : (j d : ℕ) → d < j → j ≡ j - suc d + suc d
    split j d h = omega arith

-- a number n below N * M, cut by d digits, with 2 ^ d at least M, is below N + 2
cut_small : (n d N M : ℕ) → n < N * M → M ≤ 2 ^ d → jam n d < N + 2
cut_small n d N M h g =
    let p = 2 ^ d in
    let a : N * M ≤ N * p = mul-le-mul_left N g in
    let b : jam n d * p ≤ n + p = jam_below n d in
    lt_of_mul-lt-mul_right p (bound (jam n d * p) n (N * M) N p a b h (pow_pos d))
  where
    bound : (x n y N p : ℕ) → y ≤ N * p → x ≤ n + p → n < y → 0 < p → x < (N + 2) * p
    bound x n y N p a b h q = omega arith

-- the product of the digits, of which one has all 53
large : (a b j k : ℕ) → 0 < a → 0 < b → 0 < j + k → (0 < j → 2 ^ 52 ≤ a) → (0 < k → 2 ^ 52 ≤ b) → 2 ^ 52 ≤ a * b
large a b j k A B h f g = go (eq-zero-or-pos j)
  where
    other : j ≡ 0 → 0 < k
    other z = omega arith

    go : (j ≡ 0) ⊎ (0 < j) → 2 ^ 52 ≤ a * b
    go (inl z) = le_trans (g (other z)) (le_trans (le_of_eq (sym (one-mul b))) (mul-le-mul_right b A))
    go (inr p) = le_trans (f p) (le_trans (le_of_eq (sym (mul-one a))) (mul-le-mul_left a B))

-- two numbers with room between them, of which one is cut
fits : (X Y d : ℕ) → X < 2 ^ 126 → Y < 2 ^ 126 → X + jam Y d < 2 ^ 128
fits X Y d a b = omega (arith, jam_le Y d)

module _ (a b c : Float) (sa : Bool) (qa ka : ℕ) (sb : Bool) (qb kb : ℕ) (sc : Bool) (qc kc : ℕ)
    (A : Splits a sa qa ka) (B : Splits b sb qb kb) (C : Splits c sc qc kc) (someA : 0 < qa) (someB : 0 < qb) where
  -- the product and the addend, and their places
  abbrev pub P : ℕ
  P = qa * 2 ^ 10 * (qb * 2 ^ 10)

  abbrev pub H : ℕ
  H = qc * 2 ^ 73

  abbrev pub m : ℕ
  m = ka + kb

  abbrev pub l : ℕ
  l = kc + 1021

  P-is : P ≡ qa * qb * 2 ^ 20
  P-is = shape qa qb
    where
      shape : (x y : ℕ) → x * 2 ^ 10 * (y * 2 ^ 10) ≡ x * y * 2 ^ 20
      shape x y = omega arith

  P-some : 0 < P
  P-some = mul-pos (mul-pos someA (pow_pos 10)) (mul-pos someB (pow_pos 10))

  P-lt : P < 2 ^ 126
  P-lt = lt_of_lt_of_le (lt_of_le_of_lt (mul-le-mul_left (qa * 2 ^ 10) (le_of_lt (ten qb B.short)))
      (mul-lt-mul_of_pos_right (ten qa A.short) (pow_pos 63))) (lit≤ tt)
    where
      ten : (q : ℕ) → q < 2 ^ 53 → q * 2 ^ 10 < 2 ^ 63
      ten q h = omega arith

  H-lt : H < 2 ^ 126
  H-lt = mul-lt-mul_of_pos_right C.short (pow_pos 73)

  P-even : P ≡ 2 * (qa * 2 ^ 9 * (qb * 2 ^ 10))
  P-even = shape qa qb
    where
      shape : (x y : ℕ) → x * 2 ^ 10 * (y * 2 ^ 10) ≡ 2 * (x * 2 ^ 9 * (y * 2 ^ 10))
      shape x y = omega arith

  H-even : H ≡ 2 * (qc * 2 ^ 72)
  H-even = shape qc
    where
      shape : (x : ℕ) → x * 2 ^ 73 ≡ 2 * (x * 2 ^ 72)
      shape x = omega arith

  -- ---- the operands' fractions at the denominator 2 ^ 2168
  product : (p : ℕ) → p ≡ P * 2 ^ m → qa * 2 ^ ka * (qb * 2 ^ kb) * 2 ^ 2168 ≡ p * (2 ^ 1074 * 2 ^ 1074)
  product p e =
      ap (λ (x : ℕ). qa * 2 ^ ka * (qb * 2 ^ kb) * x) (pow-add 2 20 2148)
      ∙ shape qa (2 ^ ka) qb (2 ^ kb) (2 ^ 20) (2 ^ 2148)
      ∙ ap (λ (x : ℕ). x * (2 ^ ka * 2 ^ kb) * 2 ^ 2148) (sym P-is)
      ∙ ap (λ (x : ℕ). P * x * 2 ^ 2148) (sym (pow-add 2 ka kb))
      ∙ ap (λ (x : ℕ). x * 2 ^ 2148) (sym e)
      ∙ ap (λ (x : ℕ). p * x) (pow-add 2 1074 1074)
    where
      shape : (x i y j t g : ℕ) → x * i * (y * j) * (t * g) ≡ x * y * t * (i * j) * g
      shape x i y j t g = simp (mul_assoc, mul_comm, mul_left_comm)

  addend : (q : ℕ) → q ≡ H * 2 ^ l → qc * 2 ^ kc * 2 ^ 2168 ≡ q * 2 ^ 1074
  addend q e =
      ap (λ (x : ℕ). qc * 2 ^ kc * x) (pow-add 2 1094 1074 ∙ ap (λ (x : ℕ). x * 2 ^ 1074) (pow-add 2 73 1021))
      ∙ shape qc (2 ^ kc) (2 ^ 73) (2 ^ 1021) (2 ^ 1074)
      ∙ ap (λ (x : ℕ). H * x * 2 ^ 1074) (sym (pow-add 2 kc 1021))
      ∙ ap (λ (x : ℕ). x * 2 ^ 1074) (sym e)
    where
      shape : (x i t j g : ℕ) → x * i * (t * j * g) ≡ x * t * (i * j) * g
      shape x i t j g = simp (mul_assoc, mul_left_comm)

  exact : (p q : ℕ) → p ≡ P * 2 ^ m → q ≡ H * 2 ^ l → mul_add binary64 a b c ≡ sum binary64 (unlike sa sb) p sc q (2 ^ 2168)
  exact p q e f =
      mul_add_at a b c sa (qa * 2 ^ ka) (2 ^ 1074) sb (qb * 2 ^ kb) (2 ^ 1074) sc (qc * 2 ^ kc) (2 ^ 1074) p q (2 ^ 2168)
      (pow_pos 1074) (pow_pos 1074) (pow_pos 1074) (pow_pos 2168) A.value B.value C.value (product p e) (addend q f)

  -- 2 ^ i is 2 ^ (i - j) at 2 ^ j
  apart : (x i j : ℕ) → j ≤ i → x * 2 ^ (i - j) * 2 ^ j ≡ x * 2 ^ i
  apart x i j h = mul_assoc x (2 ^ (i - j)) (2 ^ j) ∙ ap (λ (y : ℕ). x * y) (sym (pow-add 2 (i - j) j) ∙ ap (λ (k : ℕ). 2 ^ k) (sub-add_cancel h))

  -- ---- the product stands higher: the addend is cut
  module _ (h : l ≤ m) (W : ℕ) (cut : W ≡ jam H (m - l)) where
    safe_high : (H % 2 ^ suc (m - l) ≡ 0) ⊎ ((m - 1019 ≤ 64) ⊎ (W + 2 ^ 64 ≤ P))
    safe_high = go (lt_or_le (m - l) 73)
      where
        sum : (w p : ℕ) → w < 2 ^ 53 + 2 → 2 ^ 72 ≤ p → w + 2 ^ 64 ≤ p
        sum w p x y = omega arith

        places : (kc m : ℕ) → 73 ≤ m - (kc + 1021) → 0 < m
        places kc m g = omega arith

        go : (m - l < 73) ⊎ (73 ≤ m - l) → (H % 2 ^ suc (m - l) ≡ 0) ⊎ ((m - 1019 ≤ 64) ⊎ (W + 2 ^ 64 ≤ P))
        go (inl g) = inl (whole qc 73 (m - l) g)
        go (inr g) = inr (inr (sum W P
            (subst (λ (w : ℕ). w < 2 ^ 53 + 2) (sym cut) (cut_small H (m - l) (2 ^ 53) (2 ^ 73) (lt_of_lt_of_le H-lt (lit≤ tt)) (pow_mono g)))
            (le_trans (mul-le-mul_right (2 ^ 20) (large qa qb ka kb someA someB (places kc m g) A.full B.full)) (le_of_eq (sym P-is)))))

    high_way : (r : Float) → Combines (unlike sa sb) P sc W (m - 1019) r → r ≡ mul_add binary64 a b c
    high_way r R =
        combined (unlike sa sb) P sc H W (m - 1019) (m - l) l 2168 r R (qa * 2 ^ 9 * (qb * 2 ^ 10)) P-even cut (place kc m h) safe_high
        ∙ sym (exact (P * 2 ^ (m - l) * 2 ^ l) (H * 2 ^ l) (apart P m l h) refl)
      where
        place : (kc m : ℕ) → kc + 1021 ≤ m → 2168 + (m - 1019) ≡ kc + 1021 + (m - (kc + 1021)) + 1149
        place kc m h = omega arith

  -- ---- the addend stands higher: the product is cut
  module _ (h : m < l) (W : ℕ) (cut : W ≡ jam P (l - m)) where
    safe_low : (P % 2 ^ suc (l - m) ≡ 0) ⊎ ((l - 1019 ≤ 64) ⊎ (W + 2 ^ 64 ≤ H))
    safe_low = go (lt_or_le (l - m) 20) (eq-zero-or-pos kc)
      where
        near : (k : ℕ) → k ≡ 0 → k + 1021 - 1019 ≤ 64
        near k z = omega arith

        sum : (w p : ℕ) → w < 2 ^ 106 + 2 → 2 ^ 110 ≤ p → w + 2 ^ 64 ≤ p
        sum w p x y = omega arith

        go : (l - m < 20) ⊎ (20 ≤ l - m) → (kc ≡ 0) ⊎ (0 < kc) → (P % 2 ^ suc (l - m) ≡ 0) ⊎ ((l - 1019 ≤ 64) ⊎ (W + 2 ^ 64 ≤ H))
        go (inl g) k = inl (ap (λ (x : ℕ). x % 2 ^ suc (l - m)) P-is ∙ whole (qa * qb) 20 (l - m) g)
        go (inr g) (inl z) = inr (inl (near kc z))
        go (inr g) (inr p) = inr (inr (sum W H
            (subst (λ (w : ℕ). w < 2 ^ 106 + 2) (sym cut) (cut_small P (l - m) (2 ^ 106) (2 ^ 20) (lt_of_lt_of_le P-lt (lit≤ tt)) (pow_mono g)))
            (le_trans (lit≤ tt) (mul-le-mul_right (2 ^ 73) (C.full p)))))

    low_way : (r : Float) → Combines sc H (unlike sa sb) W (l - 1019) r → r ≡ mul_add binary64 a b c
    low_way r R =
        combined sc H (unlike sa sb) P W (l - 1019) (l - m) m 2168 r R (qc * 2 ^ 72) H-even cut (place kc m h) safe_low
        ∙ sum_comm sc (H * 2 ^ (l - m) * 2 ^ m) (unlike sa sb) (P * 2 ^ m) (2 ^ 2168) (pow_pos 2168)
        ∙ sym (exact (P * 2 ^ m) (H * 2 ^ (l - m) * 2 ^ m) refl (apart H l m (le_of_lt h)))
      where
        place : (kc m : ℕ) → m < kc + 1021 → 2168 + (kc + 1021 - 1019) ≡ m + (kc + 1021 - m) + 1149
        place kc m h = omega arith

  -- ---- both ways, from the numbers as the program has them: x and y have the factors' digits, and z the addend's
  module _ (x y z : ℕ) (x_is : x ≡ qa * 2 ^ 10 % 2 ^ 64) (y_is : y ≡ qb * 2 ^ 10 % 2 ^ 64) (z_is : z ≡ qc) (W : ℕ) where
    P_has : P ≡ x * y
    P_has = λ i. ten qa x A.short x_is i * ten qb y B.short y_is i
      where
        ten : (q x : ℕ) → q < 2 ^ 53 → x ≡ q * 2 ^ 10 % 2 ^ 64 → q * 2 ^ 10 ≡ x
        ten q x h e = omega arith

    H_has : H ≡ z * 2 ^ 73 % 2 ^ 128
    H_has = same qc z C.short z_is
      where
        same : (q z : ℕ) → q < 2 ^ 53 → z ≡ q → q * 2 ^ 73 ≡ z * 2 ^ 73 % 2 ^ 128
        same q z h e = omega arith

    pub high_orders : l ≤ m → W ≡ jam (z * 2 ^ 73 % 2 ^ 128) (m - l) → Orders a b c (unlike sa sb) (x * y) sc W (m - 1019)
    high_orders g e =
        let cut : W ≡ jam H (m - l) = e ∙ ap (λ (n : ℕ). jam n (m - l)) (sym H_has) in
        subst (λ (n : ℕ). Orders a b c (unlike sa sb) n sc W (m - 1019)) P_has (record {
          some = lt_of_lt_of_le P-some (le-add_right P W);
          room = subst (λ (w : ℕ). P + w < 2 ^ 128) (sym cut) (fits P H (m - l) P-lt H-lt);
          ends = λ r R. high_way g W cut r R;
        })

    pub low_orders : m < l → W ≡ jam (x * y) (l - m) → Orders a b c sc (z * 2 ^ 73 % 2 ^ 128) (unlike sa sb) W (l - 1019)
    low_orders g e =
        let cut : W ≡ jam P (l - m) = e ∙ ap (λ (n : ℕ). jam n (l - m)) (sym P_has) in
        subst (λ (n : ℕ). Orders a b c sc n (unlike sa sb) W (l - 1019)) H_has (record {
          some = lt_of_lt_of_le (subst (λ (w : ℕ). 0 < w) (sym cut) (jam_some P (l - m) P-some)) (le-add_left W H);
          room = subst (λ (w : ℕ). H + w < 2 ^ 128) (sym cut) (fits H P (l - m) H-lt P-lt);
          ends = λ r R. low_way g W cut r R;
        })
