-- The order of `total_cmp` on floats, and Rust's `==` beside it: the laws that sorting and `dedup` rest on. They hold for every value,
-- NaN and values that no format holds included; only `total-le-antisym` asks that the values fit.
-- Three values at a time are mapped to numbers, their places on a line, such that `total-le` is `≤` of the places and `eq` their equality after
-- the places of -0 and +0 are made one.
use Rattle.std.specs.Prelude.{◌≡◌, ℕ, ◌+◌, ◌-◌, ◌*◌, ◌/◌, ◌^◌, ◌<◌, ◌≤◌, min, Bool, true, false, cond, not, ◌&&◌, ◌||◌, T, ltb, ℤ, ◌==◌, ◌≢◌}
use Rattle.std.specs.Prelude.{from_bits, nat_eq, nat_le, nat_lt, Float}
use Rattle.std.proofs.Math.Path.{refl, sym}
use Rattle.std.proofs.Common.{ap, subst, ◌∙◌, le_antisymm, zero-mul, add-mul, mul_right_comm, mul-lt-mul_of_pos_right, mul-le-mul_right, arith, lt-ltb}
use Rattle.std.proofs.Common.{le-ltb, le-leb, eq-eqb, ne_eqb, leb-false, leb→le, le→leb, eqb→eq}
use Rattle.std.specs.Bool.{beq}
use Rattle.std.proofs.Math.Decide.{dec_lt}
use Rattle.std.proofs.lemmas.Bool.{lt-leb}
use Rattle.std.specs.Float.Ieee.{nan, lt, eq, is_nan, up, down, below, level, fits, size, top, hid, to_bits}
use Rattle.std.specs.Float.{inf, fin, binary64}
use Rattle.std.specs.Float.Ieee.Nearest.{div_same}
use Rattle.std.specs.Float.Ieee.Bits.{is_true, of_bits-to_bits}
use Rattle.std.specs.Float.Ieee.Fits.{and_i, and_l, and_r, eq→eqb, down_pos}
use Rattle.std.specs.Float.Ieee.Positive.{num, den, den_pos}
use Rattle.float.specs.Number.{total_le, negative}

-- the place of x, whose magnitude is X at the common scale, for magnitudes up to B
abbrev pub place : ℕ → ℕ → Float → ℕ
place B X nan = B + B + 4
place B X (inf true) = 0
place B X (inf false) = B + B + 3
place B X (fin true m e) = B + 1 - X
place B X (fin false m e) = B + 2 + X

-- the places B + 1 of -0 and B + 2 of +0 made one
abbrev pub joined : ℕ → ℕ → ℕ
joined B k = min k (B + 1) + (k - (B + 2))

-- ---- how two numbers stand to each other
data Stand (a b : ℕ) : Type 0 where
  less : a < b → Stand a b
  same : a ≡ b → Stand a b
  more : b < a → Stand a b

stand : (a b : ℕ) → Stand a b
stand a b = elim (dec_lt a b) [ yes l ↦ less l | no n ↦ elim (dec_lt b a) [ yes l ↦ more l | no n' ↦ same (omega arith) ] ]

-- ---- two finite values whose magnitudes are X and Y
abbrev pub at : ℕ → Bool → ℕ → ℕ
at B true X = B + 1 - X
at B false X = B + 2 + X

off : (a b : ℕ) → a < b → a ≢ b
off a b h e = omega arith

off' : (a b : ℕ) → b < a → a ≢ b
off' a b h e = omega arith

either : (b c : Bool) → cond b c c ≡ c
either true c = refl
either false c = refl

total_le_fin : (B X Y : ℕ) (s t : Bool) → X ≤ B → Y ≤ B → cond (level s X t Y) (s || not t) (below s X t Y || false) ≡ nat_le (at B s X) (at B t Y)
total_le_fin B X Y false false hx hy = elim (stand X Y) [
  | less h ↦ simp (ne_eqb X Y (off X Y h), lt-ltb X Y h, le-leb (B + 2 + X) (B + 2 + Y) (omega arith))
  | same e ↦ simp (eq-eqb X Y e, le-leb (B + 2 + X) (B + 2 + Y) (omega arith))
  | more h ↦ simp (ne_eqb X Y (off' X Y h), le-ltb X Y (omega arith), lt-leb (B + 2 + X) (B + 2 + Y) (omega arith))
]
total_le_fin B X Y true true hx hy = elim (stand X Y) [
  | less h ↦ simp (ne_eqb X Y (off X Y h), le-ltb Y X (omega arith), lt-leb (B + 1 - X) (B + 1 - Y) (omega arith))
  | same e ↦ simp (eq-eqb X Y e, le-leb (B + 1 - X) (B + 1 - Y) (omega arith))
  | more h ↦ simp (ne_eqb X Y (off' X Y h), lt-ltb Y X h, le-leb (B + 1 - X) (B + 1 - Y) (omega arith))
]
total_le_fin B X Y true false hx hy = elim (dec_lt 0 (X + Y)) [
  | yes h ↦ simp (lt-ltb 0 (X + Y) h, either (level true X false Y) true, le-leb (B + 1 - X) (B + 2 + Y) (omega arith))
  | no h ↦ simp (eq-eqb X Y (omega arith), eq-eqb X 0 (omega arith), le-leb (B + 1 - X) (B + 2 + Y) (omega arith))
]
total_le_fin B X Y false true hx hy = simp (either (level false X true Y) false, lt-leb (B + 2 + X) (B + 1 - Y) (omega arith))

-- a level of unlike signs is at zero
pub apart : (X Y : ℕ) → 0 < X + Y → (X == Y) && (X == 0) ≡ false
apart X Y h = elim (stand X Y) [
  | less l ↦ simp (ne_eqb X Y (off X Y l))
  | same e ↦ simp (eq-eqb X Y e, ne_eqb X 0 (omega arith))
  | more l ↦ simp (ne_eqb X Y (off' X Y l))
]

eq_fin : (B X Y : ℕ) (s t : Bool) → X ≤ B → Y ≤ B → level s X t Y ≡ (joined B (at B s X) == joined B (at B t Y))
eq_fin B X Y false false hx hy = elim (stand X Y) [
  | less h ↦ simp (ne_eqb X Y (off X Y h), ne_eqb (joined B (B + 2 + X)) (joined B (B + 2 + Y)) (omega arith))
  | same e ↦ simp (eq-eqb X Y e, eq-eqb (joined B (B + 2 + X)) (joined B (B + 2 + Y)) (omega arith))
  | more h ↦ simp (ne_eqb X Y (off' X Y h), ne_eqb (joined B (B + 2 + X)) (joined B (B + 2 + Y)) (omega arith))
]
eq_fin B X Y true true hx hy = elim (stand X Y) [
  | less h ↦ simp (ne_eqb X Y (off X Y h), ne_eqb (joined B (B + 1 - X)) (joined B (B + 1 - Y)) (omega arith))
  | same e ↦ simp (eq-eqb X Y e, eq-eqb (joined B (B + 1 - X)) (joined B (B + 1 - Y)) (omega arith))
  | more h ↦ simp (ne_eqb X Y (off' X Y h), ne_eqb (joined B (B + 1 - X)) (joined B (B + 1 - Y)) (omega arith))
]
eq_fin B X Y true false hx hy = elim (dec_lt 0 (X + Y)) [
  | yes h ↦ apart X Y h ∙ sym (ne_eqb (joined B (B + 1 - X)) (joined B (B + 2 + Y)) (omega arith))
  | no h ↦ simp (eq-eqb X Y (omega arith), eq-eqb X 0 (omega arith), eq-eqb (joined B (B + 1 - X)) (joined B (B + 2 + Y)) (omega arith))
]
eq_fin B X Y false true hx hy = elim (dec_lt 0 (X + Y)) [
  | yes h ↦ apart X Y h ∙ sym (ne_eqb (joined B (B + 2 + X)) (joined B (B + 1 - Y)) (omega arith))
  | no h ↦ simp (eq-eqb X Y (omega arith), eq-eqb X 0 (omega arith), eq-eqb (joined B (B + 2 + X)) (joined B (B + 1 - Y)) (omega arith))
]

-- ---- a common factor k changes no test
module _ (a b k : ℕ) (K : 0 < k) where
  ltb_scale : ltb a b ≡ nat_lt (a * k) (b * k)
  ltb_scale = elim (dec_lt a b) [
    | yes h ↦ lt-ltb a b h ∙ sym (lt-ltb (a * k) (b * k) (mul-lt-mul_of_pos_right h K))
    | no h ↦ le-ltb a b (omega arith) ∙ sym (le-ltb (a * k) (b * k) (mul-le-mul_right k (omega arith)))
  ]

  eqb_scale : nat_eq a b ≡ (a * k == b * k)
  eqb_scale = elim (stand a b) [
    | less h ↦ ne_eqb a b (off a b h) ∙ sym (ne_eqb (a * k) (b * k) (off (a * k) (b * k) (mul-lt-mul_of_pos_right h K)))
    | same e ↦ eq-eqb a b e ∙ sym (eq-eqb (a * k) (b * k) (ap (λ (n : ℕ). n * k) e))
    | more h ↦ ne_eqb a b (off' a b h) ∙ sym (ne_eqb (a * k) (b * k) (off' (a * k) (b * k) (mul-lt-mul_of_pos_right h K)))
  ]

below_scale : (s t : Bool) (a b k : ℕ) → 0 < k → below s a t b ≡ below s (a * k) t (b * k)
below_scale false false a b k K = ltb_scale a b k K
below_scale false true a b k K = refl
below_scale true false a b k K = ltb_scale 0 (a + b) k K ∙ simp (zero-mul, add-mul)
below_scale true true a b k K = ltb_scale b a k K

level_scale : (s t : Bool) (a b k : ℕ) → 0 < k → level s a t b ≡ level s (a * k) t (b * k)
level_scale s t a b k K =
    ap (λ (p : Bool). p && (beq s t || a == 0)) (eqb_scale a b k K)
    ∙ ap (λ (p : Bool). (a * k == b * k) && (beq s t || p)) (eqb_scale a 0 k K ∙ simp zero-mul)

-- ---- two values at a scale: k is what the third value adds to the common denominator
module _ (B k : ℕ) (K : 0 < k) where
  total_le_two : (s t : Bool) (a b X Y : ℕ) → a * k ≡ X → b * k ≡ Y → X ≤ B → Y ≤ B
      → cond (level s a t b) (s || not t) (below s a t b || false) ≡ nat_le (at B s X) (at B t Y)
  total_le_two s t a b X Y p q hx hy =
      ap (λ (l : Bool). cond l (s || not t) (below s a t b || false)) (level_scale s t a b k K)
      ∙ ap (λ (l : Bool). cond (level s (a * k) t (b * k)) (s || not t) (l || false)) (below_scale s t a b k K)
      ∙ subst (λ (b' : ℕ). cond (level s (a * k) t b') (s || not t) (below s (a * k) t b' || false) ≡ nat_le (at B s X) (at B t Y)) (sym q)
      (subst (λ (a' : ℕ). cond (level s a' t Y) (s || not t) (below s a' t Y || false) ≡ nat_le (at B s X) (at B t Y)) (sym p) (total_le_fin B X Y s t hx hy))

  eq_two : (s t : Bool) (a b X Y : ℕ) → a * k ≡ X → b * k ≡ Y → X ≤ B → Y ≤ B → level s a t b ≡ (joined B (at B s X) == joined B (at B t Y))
  eq_two s t a b X Y p q hx hy =
      level_scale s t a b k K
      ∙ subst (λ (b' : ℕ). level s (a * k) t b' ≡ (joined B (at B s X) == joined B (at B t Y))) (sym q)
      (subst (λ (a' : ℕ). level s a' t Y ≡ (joined B (at B s X) == joined B (at B t Y))) (sym p) (eq_fin B X Y s t hx hy))

  total_le_place : (x y : Float) (X Y : ℕ) → num x * den y * k ≡ X → num y * den x * k ≡ Y → X ≤ B → Y ≤ B → total_le x y ≡ nat_le (place B X x) (place B Y y)
  unfolding total_le lt eq is_nan
  total_le_place nan nan X Y p q hx hy = sym (le-leb (B + B + 4) (B + B + 4) (omega arith))
  total_le_place nan (inf true) X Y p q hx hy = sym (lt-leb (B + B + 4) 0 (omega arith))
  total_le_place nan (inf false) X Y p q hx hy = sym (lt-leb (B + B + 4) (B + B + 3) (omega arith))
  total_le_place nan (fin true n d) X Y p q hx hy = sym (lt-leb (B + B + 4) (B + 1 - Y) (omega arith))
  total_le_place nan (fin false n d) X Y p q hx hy = sym (lt-leb (B + B + 4) (B + 2 + Y) (omega arith))
  total_le_place (inf true) nan X Y p q hx hy = sym (le-leb 0 (B + B + 4) (omega arith))
  total_le_place (inf true) (inf true) X Y p q hx hy = refl
  total_le_place (inf true) (inf false) X Y p q hx hy = sym (le-leb 0 (B + B + 3) (omega arith))
  total_le_place (inf true) (fin true n d) X Y p q hx hy = sym (le-leb 0 (B + 1 - Y) (omega arith))
  total_le_place (inf true) (fin false n d) X Y p q hx hy = sym (le-leb 0 (B + 2 + Y) (omega arith))
  total_le_place (inf false) nan X Y p q hx hy = sym (le-leb (B + B + 3) (B + B + 4) (omega arith))
  total_le_place (inf false) (inf true) X Y p q hx hy = sym (lt-leb (B + B + 3) 0 (omega arith))
  total_le_place (inf false) (inf false) X Y p q hx hy = sym (le-leb (B + B + 3) (B + B + 3) (omega arith))
  total_le_place (inf false) (fin true n d) X Y p q hx hy = sym (lt-leb (B + B + 3) (B + 1 - Y) (omega arith))
  total_le_place (inf false) (fin false n d) X Y p q hx hy = sym (lt-leb (B + B + 3) (B + 2 + Y) (omega arith))
  total_le_place (fin true m e) nan X Y p q hx hy = sym (le-leb (B + 1 - X) (B + B + 4) (omega arith))
  total_le_place (fin false m e) nan X Y p q hx hy = sym (le-leb (B + 2 + X) (B + B + 4) (omega arith))
  total_le_place (fin true m e) (inf true) X Y p q hx hy = sym (lt-leb (B + 1 - X) 0 (omega arith))
  total_le_place (fin true m e) (inf false) X Y p q hx hy = sym (le-leb (B + 1 - X) (B + B + 3) (omega arith))
  total_le_place (fin false m e) (inf true) X Y p q hx hy = sym (lt-leb (B + 2 + X) 0 (omega arith))
  total_le_place (fin false m e) (inf false) X Y p q hx hy = sym (le-leb (B + 2 + X) (B + B + 3) (omega arith))
  total_le_place (fin true m e) (fin true n d) X Y p q hx hy = total_le_two true true (m * up e * down d) (n * up d * down e) X Y p q hx hy
  total_le_place (fin true m e) (fin false n d) X Y p q hx hy = total_le_two true false (m * up e * down d) (n * up d * down e) X Y p q hx hy
  total_le_place (fin false m e) (fin true n d) X Y p q hx hy = total_le_two false true (m * up e * down d) (n * up d * down e) X Y p q hx hy
  total_le_place (fin false m e) (fin false n d) X Y p q hx hy = total_le_two false false (m * up e * down d) (n * up d * down e) X Y p q hx hy

  eq_place : (x y : Float) (X Y : ℕ) → num x * den y * k ≡ X → num y * den x * k ≡ Y → X ≤ B → Y ≤ B
      → eq x y ≡ not (is_nan x) && joined B (place B X x) == joined B (place B Y y)
  unfolding eq is_nan
  eq_place nan y X Y p q hx hy = refl
  eq_place (inf true) nan X Y p q hx hy = sym (ne_eqb (joined B (0)) (joined B (B + B + 4)) (omega arith))
  eq_place (inf true) (inf true) X Y p q hx hy = sym (eq-eqb (joined B (0)) (joined B (0)) refl)
  eq_place (inf true) (inf false) X Y p q hx hy = sym (ne_eqb (joined B (0)) (joined B (B + B + 3)) (omega arith))
  eq_place (inf true) (fin true n d) X Y p q hx hy = sym (ne_eqb (joined B (0)) (joined B (B + 1 - Y)) (omega arith))
  eq_place (inf true) (fin false n d) X Y p q hx hy = sym (ne_eqb (joined B (0)) (joined B (B + 2 + Y)) (omega arith))
  eq_place (inf false) nan X Y p q hx hy = sym (ne_eqb (joined B (B + B + 3)) (joined B (B + B + 4)) (omega arith))
  eq_place (inf false) (inf true) X Y p q hx hy = sym (ne_eqb (joined B (B + B + 3)) (joined B (0)) (omega arith))
  eq_place (inf false) (inf false) X Y p q hx hy = sym (eq-eqb (joined B (B + B + 3)) (joined B (B + B + 3)) refl)
  eq_place (inf false) (fin true n d) X Y p q hx hy = sym (ne_eqb (joined B (B + B + 3)) (joined B (B + 1 - Y)) (omega arith))
  eq_place (inf false) (fin false n d) X Y p q hx hy = sym (ne_eqb (joined B (B + B + 3)) (joined B (B + 2 + Y)) (omega arith))
  eq_place (fin true m e) nan X Y p q hx hy = sym (ne_eqb (joined B (B + 1 - X)) (joined B (B + B + 4)) (omega arith))
  eq_place (fin true m e) (inf true) X Y p q hx hy = sym (ne_eqb (joined B (B + 1 - X)) (joined B (0)) (omega arith))
  eq_place (fin true m e) (inf false) X Y p q hx hy = sym (ne_eqb (joined B (B + 1 - X)) (joined B (B + B + 3)) (omega arith))
  eq_place (fin true m e) (fin true n d) X Y p q hx hy = eq_two true true (m * up e * down d) (n * up d * down e) X Y p q hx hy
  eq_place (fin true m e) (fin false n d) X Y p q hx hy = eq_two true false (m * up e * down d) (n * up d * down e) X Y p q hx hy
  eq_place (fin false m e) nan X Y p q hx hy = sym (ne_eqb (joined B (B + 2 + X)) (joined B (B + B + 4)) (omega arith))
  eq_place (fin false m e) (inf true) X Y p q hx hy = sym (ne_eqb (joined B (B + 2 + X)) (joined B (0)) (omega arith))
  eq_place (fin false m e) (inf false) X Y p q hx hy = sym (ne_eqb (joined B (B + 2 + X)) (joined B (B + B + 3)) (omega arith))
  eq_place (fin false m e) (fin true n d) X Y p q hx hy = eq_two false true (m * up e * down d) (n * up d * down e) X Y p q hx hy
  eq_place (fin false m e) (fin false n d) X Y p q hx hy = eq_two false false (m * up e * down d) (n * up d * down e) X Y p q hx hy

-- NaN has the last place to itself
place_number : (B X : ℕ) (x : Float) → X ≤ B → T (not (is_nan x)) → place B X x < B + B + 4
unfolding is_nan
place_number B X nan h t = absurd t
place_number B X (inf true) h t = omega arith
place_number B X (inf false) h t = omega arith
place_number B X (fin true m e) h t = omega arith
place_number B X (fin false m e) h t = omega arith

number_place : (B X : ℕ) (x : Float) → place B X x < B + B + 4 → T (not (is_nan x))
unfolding is_nan
number_place B X nan h = absurd (omega arith)
number_place B X (inf s) h = tt
number_place B X (fin s m e) h = tt

module _ (x y z : Float) where
  abbrev X : ℕ
  X = num x * den y * den z

  abbrev Y : ℕ
  Y = num y * den x * den z

  abbrev Z : ℕ
  Z = num z * den x * den y

  abbrev most : ℕ
  most = X + Y + Z

  abbrev P : ℕ
  P = place most X x

  abbrev Q : ℕ
  Q = place most Y y

  abbrev R : ℕ
  R = place most Z z

  hx : X ≤ most
  hx = omega arith

  hy : Y ≤ most
  hy = omega arith

  hz : Z ≤ most
  hz = omega arith

  total_le_xy : total_le x y ≡ nat_le P Q
  total_le_xy = total_le_place most (den z) (den_pos z) x y X Y refl refl hx hy

  total_le_yx : total_le y x ≡ nat_le Q P
  total_le_yx = total_le_place most (den z) (den_pos z) y x Y X refl refl hy hx

  total_le_yz : total_le y z ≡ nat_le Q R
  total_le_yz = total_le_place most (den x) (den_pos x) y z Y Z (mul_right_comm (num y) (den z) (den x)) (mul_right_comm (num z) (den y) (den x)) hy hz

  total_le_xz : total_le x z ≡ nat_le P R
  total_le_xz = total_le_place most (den y) (den_pos y) x z X Z (mul_right_comm (num x) (den z) (den y)) refl hx hz

  eq_xy : eq x y ≡ not (is_nan x) && joined most P == joined most Q
  eq_xy = eq_place most (den z) (den_pos z) x y X Y refl refl hx hy

  eq_yx : eq y x ≡ not (is_nan y) && joined most Q == joined most P
  eq_yx = eq_place most (den z) (den_pos z) y x Y X refl refl hy hx

  eq_zy : eq z y ≡ not (is_nan z) && joined most R == joined most Q
  eq_zy = eq_place most (den x) (den_pos x) z y Z Y (mul_right_comm (num z) (den y) (den x)) (mul_right_comm (num y) (den z) (den x)) hz hy

  eq_xz : eq x z ≡ not (is_nan x) && joined most P == joined most R
  eq_xz = eq_place most (den y) (den_pos y) x z X Z (mul_right_comm (num x) (den z) (den y)) refl hx hz

  eq_zx : eq z x ≡ not (is_nan z) && joined most R == joined most P
  eq_zx = eq_place most (den y) (den_pos y) z x Z X refl (mul_right_comm (num x) (den z) (den y)) hz hx

  -- of two, one does not come after the other
  total_le_total' : total_le x y ≡ false → T (total_le y x)
  total_le_total' h = subst T (sym total_le_yx) (le→leb Q P (let l : Q < P = leb-false P Q (sym total_le_xy ∙ h) in omega arith))

  pub total_le_trans : T (total_le x y) → T (total_le y z) → T (total_le x z)
  total_le_trans p q =
      let a : P ≤ Q = leb→le P Q (subst T total_le_xy p) in
      let b : Q ≤ R = leb→le Q R (subst T total_le_yz q) in
      subst T (sym total_le_xz) (le→leb P R (omega arith))

  -- what an equality says of the places
  of_eq_zx : T (eq z x) → (R < most + most + 4) × (joined most R ≡ joined most P)
  of_eq_zx t =
      let b : T (not (is_nan z) && joined most R == joined most P) = subst T eq_zx t in
      (place_number most Z z hz (and_l (not (is_nan z)) _ b), eqb→eq (joined most R) (joined most P) (and_r (not (is_nan z)) _ b))

  -- what stands between two equals equals both
  pub between_low : T (total_le x y) → T (total_le y z) → T (eq z x) → T (eq y x)
  between_low p q e =
      let a : P ≤ Q = leb→le P Q (subst T total_le_xy p) in
      let b : Q ≤ R = leb→le Q R (subst T total_le_yz q) in
      let c = of_eq_zx e in
      let l : R < most + most + 4 = c.0 in
      let j : joined most R ≡ joined most P = c.1 in
      let same' : joined most Q ≡ joined most P = omega arith in
      subst T (sym eq_yx) (and_i (not (is_nan y)) (joined most Q == joined most P) (number_place most Y y (omega arith)) (eq→eqb same'))

  eq_trans' : T (eq z x) → T (eq x y) → T (eq z y)
  eq_trans' p q =
      let b : T (not (is_nan x) && joined most P == joined most Q) = subst T eq_xy q in
      let c = of_eq_zx p in
      let l : R < most + most + 4 = c.0 in
      let j : joined most R ≡ joined most P = c.1 in
      let j' : joined most P ≡ joined most Q = eqb→eq (joined most P) (joined most Q) (and_r (not (is_nan x)) _ b) in
      let same' : joined most R ≡ joined most Q = omega arith in
      subst T (sym eq_zy) (and_i (not (is_nan z)) (joined most R == joined most Q) (number_place most Z z (omega arith)) (eq→eqb same'))

  eq_sym' : T (eq z x) → T (eq x z)
  eq_sym' p =
      let c = of_eq_zx p in
      let l : R < most + most + 4 = c.0 in
      let j : joined most R ≡ joined most P = c.1 in
      let same' : joined most P ≡ joined most R = omega arith in
      subst T (sym eq_xz) (and_i (not (is_nan x)) (joined most P == joined most R) (number_place most X x (omega arith)) (eq→eqb same'))

pub total_le_total : (x y : Float) → total_le x y ≡ false → T (total_le y x)
total_le_total x y h = total_le_total' x y x h

pub eq_sym : (x y : Float) → T (eq x y) → T (eq y x)
eq_sym x y h = eq_sym' y x x h

pub eq_trans : (x y z : Float) → T (eq x y) → T (eq y z) → T (eq x z)
eq_trans x y z p q = eq_trans' y z x p q

-- ---- tests
bool_ext : (a b : Bool) → (T a → T b) → (T b → T a) → a ≡ b
bool_ext true true f g = refl
bool_ext true false f g = absurd (f tt)
bool_ext false true f g = absurd (g tt)
bool_ext false false f g = refl

pub eq_comm : (x y : Float) → eq x y ≡ eq y x
eq_comm x y = bool_ext (eq x y) (eq y x) (eq_sym x y) (eq_sym y x)

-- equals are equal to the same values
pub eq_cong : (z x y : Float) → T (eq x y) → eq z x ≡ eq z y
eq_cong z x y h = bool_ext (eq z x) (eq z y) (λ t. eq_trans z x y t h) (λ t. eq_trans z y x t (eq_sym x y h))

-- ---- two values that a format holds, and that `total_cmp` does not tell apart, are one
is_nan_lem : (x : Float) → T (is_nan x) → x ≡ nan
unfolding is_nan
is_nan_lem nan t = refl
is_nan_lem (inf s) t = absurd t
is_nan_lem (fin s m e) t = absurd t

bits_same : (s t : Bool) (m : ℕ) (e : ℤ) (n : ℕ) (d : ℤ) → s ≡ t → m * up e * down d ≡ n * up d * down e
    → to_bits binary64 (fin s m e) ≡ to_bits binary64 (fin t n d)
unfolding to_bits
bits_same s t m e n d p q =
    let l : ℕ = 2 ^ 1074 in
    let r : m * up e * l / down e ≡ n * up d * l / down d =
    div_same (m * up e * l) (down e) (n * up d * l) (down d) (down_pos e) (down_pos d)
    (mul_right_comm (m * up e) l (down d) ∙ ap (λ (k : ℕ). k * l) q ∙ mul_right_comm (n * up d) (down e) l) in
    λ i. cond (p i) (top binary64) 0 + (size (r i) - 53) * hid binary64 + r i / 2 ^ (size (r i) - 53)

eq_same : (x y : Float) → T (fits binary64 x) → T (fits binary64 y) → T (eq x y) → negative x ≡ negative y → x ≡ y
unfolding eq
eq_same nan y fx fy h n = absurd h
eq_same (inf s) nan fx fy h n = absurd h
eq_same (inf s) (inf t) fx fy h n = ap inf n
eq_same (inf s) (fin t n d) fx fy h _ = absurd h
eq_same (fin s m e) nan fx fy h n = absurd h
eq_same (fin s m e) (inf t) fx fy h n = absurd h
eq_same (fin s m e) (fin t n d) fx fy h p =
    sym (of_bits-to_bits binary64 (fin s m e) fx)
    ∙ ap (from_bits binary64) (bits_same s t m e n d p (eqb→eq (m * up e * down d) (n * up d * down e) (and_l (m * up e * down d == n * up d * down e) _ h)))
    ∙ of_bits-to_bits binary64 (fin t n d) fy

-- of equals, one is before the other by its sign alone
pub total_le_eq : (x y : Float) → T (eq x y) → total_le x y ≡ negative x || not (negative y)
unfolding total_le
total_le_eq x y h = ap (λ (b : Bool). cond b (negative x || not (negative y)) (lt x y || is_nan y)) (is_true (eq x y) h)

signs : (a b : Bool) → T (a || not b) → T (b || not a) → a ≡ b
signs true true p q = refl
signs true false p q = absurd q
signs false true p q = absurd p
signs false false p q = refl

-- neither comes after the other: they are equal, or both NaN
pub eq_both : (x y : Float) → T (total_le x y) → T (total_le y x) → T (not (is_nan x)) → T (eq x y)
eq_both x y p q n =
    let a : P x y x ≤ Q x y x = leb→le (P x y x) (Q x y x) (subst T (total_le_xy x y x) p) in
    let b : Q x y x ≤ P x y x = leb→le (Q x y x) (P x y x) (subst T (total_le_yx x y x) q) in
    let j : joined (most x y x) (P x y x) ≡ joined (most x y x) (Q x y x) = ap (joined (most x y x)) (le_antisymm a b) in
    subst T (sym (eq_xy x y x)) (and_i (not (is_nan x)) _ n (eq→eqb j))

nan_last : (y : Float) → T (total_le nan y) → T (is_nan y)
unfolding total_le lt eq
nan_last y h = h

pub total_le_antisym : (x y : Float) → T (fits binary64 x) → T (fits binary64 y) → T (total_le x y) → T (total_le y x) → x ≡ y
total_le_antisym x y fx fy p q = go (is_nan x) refl
  where
    go : (n : Bool) → is_nan x ≡ n → x ≡ y
    go true e =
        let n : x ≡ nan = is_nan_lem x (subst T (sym e) tt) in
        n ∙ sym (is_nan_lem y (nan_last y (subst (λ (z : Float). T (total_le z y)) n p)))
    go false e =
        let h : T (eq x y) = eq_both x y p q (subst (λ (n : Bool). T (not n)) (sym e) tt) in
        eq_same x y fx fy h (signs (negative x) (negative y) (subst T (total_le_eq x y h) p) (subst T (total_le_eq y x (eq_sym x y h)) q))

pub total_le_refl : (x : Float) → T (total_le x x)
total_le_refl x = go (total_le x x) refl
  where
    go : (b : Bool) → total_le x x ≡ b → T (total_le x x)
    go true e = subst T (sym e) tt
    go false e = total_le_total x x e

pub eq_refl : (x : Float) → T (not (is_nan x)) → T (eq x x)
eq_refl x n = eq_both x x (total_le_refl x) (total_le_refl x) n
