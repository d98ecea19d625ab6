-- Veltkamp's split of a binary64 value by 2 ^ 27 + 1 is exact. For a = A * 2 ^ i units with 2 ^ 52
-- ≤ A < 2 ^ 53 the high half is h * 2 ^ 27 * 2 ^ i units with h ≤ 2 ^ 26,
-- and the low half is the rest, A - h * 2 ^ 27, of size at most 2 ^ 26.
use Rattle.std.proofs.Common.{◌≡◌, ℕ, suc, ◌+◌, ◌-◌, ◌*◌, ◌^◌, ◌<◌, ◌≤◌, Bool, true, false, not, T, ltb, sym, refl, subst, inl, inr, le_of_suc-le-suc}
use Rattle.std.proofs.Common.{lt_irrefl, mul_assoc, le_antisymm, eq-or-lt_of_le, lt_of_not-le, arith, ltb→lt, nltb→le, pow_pos}
use lib.Ieee.{Float, binary64, sub, mul}
use lib.Ieee.Nearest.{closest}
use Rattle.float.specs.Promises.Halves.{splitter, high_half, low_half}
use Rattle.float.specs.Laws.Units.{Is, Is-sub, Is-shift, Is-unit, Is-ununit}
use Rattle.float.specs.Laws.Near.{closest_near, mul_near, sub_near}

abbrev pub scaled : Float → Float
scaled a = mul binary64 splitter a

splitter_is : Is binary64 splitter 134217729 0 1074
splitter_is = record { real = tt; value = refl }

-- ---- C * a, rounded: a multiple of 2 ^ 27 within 2 ^ 27 of C * A, and exact for A = 2 ^ 52
record Scaled (a : Float) (A i : ℕ) : Type 0 where
  K : ℕ
  is : Is binary64 (scaled a) (K * 2 ^ 27) 0 i
  over : K * 2 ^ 27 ≤ 134217729 * A + 2 ^ 27
  under : 134217729 * A ≤ K * 2 ^ 27 + 2 ^ 27
  least : A ≡ 2 ^ 52 → K * 2 ^ 27 ≡ 134217729 * A

-- two multiples of 2 ^ 27 that are less than 2 ^ 27 apart are one
pinned : (K M : ℕ) → K * 2 ^ 27 < M * 2 ^ 27 + 2 ^ 27 → M * 2 ^ 27 < K * 2 ^ 27 + 2 ^ 27 → K ≡ M
pinned K M h k = le_antisymm (go K M h) (go M K k)
  where
    go : (x y : ℕ) → x * 2 ^ 27 < y * 2 ^ 27 + 2 ^ 27 → x ≤ y
    go x y h = le_of_suc-le-suc (lt_of_not-le (λ (g : suc y ≤ x). lt_irrefl 0 (omega arith)))

least_is : (K A : ℕ) → A ≡ 2 ^ 52 → K * 2 ^ 27 * 2 ≤ 134217729 * A * 2 + 2 ^ 27 → 134217729 * A * 2 ≤ K * 2 ^ 27 * 2 + 2 ^ 27 → K * 2 ^ 27 ≡ 134217729 * A
least_is K A e h k =
    let p : K ≡ 2 ^ 52 + 2 ^ 25 = pinned K (2 ^ 52 + 2 ^ 25) (omega arith) (omega arith) in
    omega arith

scaled_is : (a : Float) (A i : ℕ) → 2 ^ 52 ≤ A → A < 2 ^ 53 → i < 2000 → Is binary64 a A 0 i → Scaled a A i
scaled_is a A i lo hi r h = go (ltb (134217729 * A) (2 ^ 80)) (ltb→lt (134217729 * A) (2 ^ 80)) (nltb→le (134217729 * A) (2 ^ 80))
  where
    go : (b : Bool) → (T b → 134217729 * A < 2 ^ 80) → (T (not b) → 2 ^ 80 ≤ 134217729 * A) → Scaled a A i
    go true x y =
        let u : 134217729 * A < 2 ^ 80 = x tt in
        let q = closest (134217729 * A) (2 ^ 27) in
        let n = closest_near (134217729 * A) (2 ^ 27) (pow_pos 27) in
        record {
          K = q;
          is = mul_near binary64 splitter a 134217729 A 27 1074 i i refl (omega arith) u (omega arith) splitter_is h;
          over = omega arith;
          under = omega arith;
          least = λ (e : A ≡ 2 ^ 52). least_is q A e n.0 n.1;
        }
    go false x y =
        let u : 2 ^ 80 ≤ 134217729 * A = y tt in
        let q = closest (134217729 * A) (2 ^ 28) in
        let n = closest_near (134217729 * A) (2 ^ 28) (pow_pos 28) in
        record {
          K = q * 2;
          is = subst (λ (z : ℕ). Is binary64 (scaled a) z 0 i) (sym (mul_assoc q 2 (2 ^ 27)))
              (mul_near binary64 splitter a 134217729 A 28 1074 i i refl u (omega arith) (omega arith) splitter_is h);
          over = omega arith;
          under = omega arith;
          least = λ (e : A ≡ 2 ^ 52). omega arith;
        }

-- ---- C * a - a, rounded: a multiple of 2 ^ 27 within 2 ^ 26
record Less (a : Float) (A i K : ℕ) : Type 0 where
  D : ℕ
  is : Is binary64 (sub binary64 (scaled a) a) (D * 2 ^ 27) 0 i
  over : D * 2 ^ 27 * 2 + A * 2 ≤ K * 2 ^ 27 * 2 + 2 ^ 27
  under : K * 2 ^ 27 * 2 ≤ D * 2 ^ 27 * 2 + A * 2 + 2 ^ 27

-- what is left is from 2 ^ 79 up, and 2 ^ 80 at most
left_ge : (A K : ℕ) → 2 ^ 52 ≤ A → 134217729 * A ≤ K * 2 ^ 27 + 2 ^ 27 → (A ≡ 2 ^ 52 → K * 2 ^ 27 ≡ 134217729 * A) → 2 ^ 79 + A ≤ K * 2 ^ 27
left_ge A K lo u l = elim (eq-or-lt_of_le lo) [
  | inl e ↦ (let k : K * 2 ^ 27 ≡ 134217729 * A = l (sym e) in omega arith)
  | inr g ↦ omega arith
]

less_is : (a : Float) (A i : ℕ) → 2 ^ 52 ≤ A → A < 2 ^ 53 → i < 2000 → Is binary64 a A 0 i → (s : Scaled a A i) → Less a A i s.K
less_is a A i lo hi r h s = go (ltb Z (2 ^ 80)) (ltb→lt Z (2 ^ 80)) (nltb→le Z (2 ^ 80))
  where
    K : ℕ
    K = s.K

    Z : ℕ
    Z = s.K * 2 ^ 27 - A

    ge : 2 ^ 79 + A ≤ s.K * 2 ^ 27
    ge = left_ge A s.K lo s.under s.least

    le80 : s.K * 2 ^ 27 ≤ A + 2 ^ 80
    le80 = let u = s.over in omega arith

    eq : s.K * 2 ^ 27 ≡ A + (s.K * 2 ^ 27 - A)
    eq = let u = ge in omega arith

    low79 : 2 ^ 79 ≤ s.K * 2 ^ 27 - A
    low79 = let u = ge in omega arith

    go : (b : Bool) → (T b → s.K * 2 ^ 27 - A < 2 ^ 80) → (T (not b) → 2 ^ 80 ≤ s.K * 2 ^ 27 - A) → Less a A i s.K
    go true x y =
        let q = closest (s.K * 2 ^ 27 - A) (2 ^ 27) in
        let n = closest_near (s.K * 2 ^ 27 - A) (2 ^ 27) (pow_pos 27) in
        let g = ge in
        record {
          D = q;
          is = sub_near binary64 (scaled a) a (s.K * 2 ^ 27) A (s.K * 2 ^ 27 - A) 27 i eq low79 (x tt) (omega arith) s.is h;
          over = omega arith;
          under = omega arith;
        }
    go false x y =
        let q = closest (s.K * 2 ^ 27 - A) (2 ^ 28) in
        let n = closest_near (s.K * 2 ^ 27 - A) (2 ^ 28) (pow_pos 28) in
        let g = ge in
        let u = le80 in
        let w : 2 ^ 80 ≤ s.K * 2 ^ 27 - A = y tt in
        let e : q * 2 ≡ 2 ^ 53 = even q (omega arith) (omega arith) in
        record {
          D = q * 2;
          is = subst (λ (z : ℕ). Is binary64 (sub binary64 (scaled a) a) z 0 i) (sym (mul_assoc q 2 (2 ^ 27)))
              (sub_near binary64 (scaled a) a (s.K * 2 ^ 27) A (s.K * 2 ^ 27 - A) 28 i eq w (omega arith) (omega arith) s.is h);
          over = omega arith;
          under = omega arith;
        }
      where
        even : (q : ℕ) → q * 2 ^ 28 * 2 ≤ 2 ^ 80 * 2 + 2 ^ 28 → 2 ^ 80 * 2 ≤ q * 2 ^ 28 * 2 + 2 ^ 28 → q * 2 ≡ 2 ^ 53
        even q h k = pinned (q * 2) (2 ^ 53) (omega arith) (omega arith)

-- ---- the halves
pub record Halves (a : Float) (A i h : ℕ) : Type 0 where
  pub top : Is binary64 (high_half a) h 0 (i + 27)
  pub low : Is binary64 (low_half a) A (h * 2 ^ 27) i
  pub few : h ≤ 2 ^ 26
  pub some : 0 < h
  pub over : A ≤ h * 2 ^ 27 + 2 ^ 26
  pub under : h * 2 ^ 27 ≤ A + 2 ^ 26

pub halves : (a : Float) (A i : ℕ) → 2 ^ 52 ≤ A → A < 2 ^ 53 → i < 2000 → Is binary64 a A 0 i → (h : ℕ) × Halves a A i h
halves a A i lo hi r k =
    let s = scaled_is a A i lo hi r k in
    let d = less_is a A i lo hi r k s in
    let o = d.over in
    let u = d.under in
    let h = s.K - d.D in
    let le : d.D ≤ s.K = at_most d.D s.K (omega arith) in
    let few : h ≤ 2 ^ 26 = at_most h (2 ^ 26) (omega arith) in
    let top : Is binary64 (high_half a) h 0 (i + 27) =
    Is-shift binary64 (high_half a) (s.K + 0) (0 + d.D) h 0 (i + 27) (omega arith)
    (Is-sub binary64 (scaled a) (sub binary64 (scaled a) a) s.K 0 d.D 0 (i + 27) (omega arith) (omega arith) (omega arith)
    (Is-ununit binary64 (scaled a) s.K 0 i 27 s.is) (Is-ununit binary64 (sub binary64 (scaled a) a) d.D 0 i 27 d.is)) in
    let over : A ≤ h * 2 ^ 27 + 2 ^ 26 = omega arith in
    let under : h * 2 ^ 27 ≤ A + 2 ^ 26 = omega arith in (
      h,
      record {
        top = top;
        low = Is-shift binary64 (low_half a) (A + 0) (0 + h * 2 ^ 27) A (h * 2 ^ 27) i (omega arith)
            (Is-sub binary64 a (high_half a) A 0 (h * 2 ^ 27) 0 i (omega arith) (omega arith) (omega arith) k
            (Is-unit binary64 (high_half a) h 0 i 27 top));
        few = few;
        some = omega arith;
        over = over;
        under = under;
      },
    )
  where
    at_most : (x y : ℕ) → x * 2 ^ 27 < y * 2 ^ 27 + 2 ^ 27 → x ≤ y
    at_most x y h = le_of_suc-le-suc (lt_of_not-le (λ (g : suc y ≤ x). lt_irrefl 0 (omega arith)))
