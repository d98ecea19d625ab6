-- Bounds on the size of a result. `Within B x`: x is finite and |x| ≤ |B|. `Beyond B x`: x is finite and |B| ≤ |x|. B is mostly a numeral.
-- A rule for an operation takes bounds of the operands and any B that the format holds and that the
-- exact bound does not pass: rounding does not cross a value of the format.
-- For numerals X, Y, B each test is closed, so `tt` proves it by computation.
use Rattle.std.specs.Prelude.{◌≡◌, ℕ, zero, suc, ◌+◌, ◌-◌, ◌*◌, ◌%◌, ◌^◌, ◌<◌, ◌≤◌, Bool, true, false, cond, not, ◌&&◌, T, ltb, leb, ℤ, pos, negsuc}
use Rattle.std.specs.Prelude.{◌==◌, ◌≢◌, nat_eq, nat_le, nat_lt, refl, Float}
use Rattle.std.proofs.Common.{sym, ap, ap₂, ◌∙◌, subst, le_trans, le_of_eq, lt_of_lt_of_le, lt_of_le_of_lt, zero-mul, mul-one, one-mul, mul-pos}
use Rattle.std.proofs.Common.{mul_assoc, mul_comm, mul_left_comm, mul_right_comm, add-mul, zero-lt-suc, lt_irrefl, le_of_mul-le-mul_right}
use Rattle.std.proofs.Common.{mul-le-mul_right, mul-le-mul, mul-lt-mul_of_pos_right, lt_of_mul-lt-mul_right, sub-add_cancel, add-le-add, arith, ltb→lt}
use Rattle.std.proofs.Common.{lt→ltb, leb→le, le→leb, eqb→eq, pow-add, pow_pos}
use Rattle.std.proofs.Math.Nat.{mul-sub}
use Rattle.std.specs.Bool.{beq}
use Rattle.std.proofs.Math.Dec.{nleb→lt}
use Rattle.std.proofs.Math.Pow.{pow-lt}
use Rattle.std.specs.Float.{nan, inf, fin, Format}
use Rattle.std.specs.Float.Ieee.{prec, emax, low, unlike, up, down, round, neg, sum, add, sub, mul, div, le, fits}
use Rattle.std.specs.Float.Ieee.Fits.{down_pos, and_l, and_r, and_i}
use Rattle.std.specs.Float.Ieee.Exact.{HasValue, round_exact}
use Rattle.std.specs.Float.Ieee.Order.{round_mono}
use Rattle.std.specs.Float.Ieee.Scale.{finite, overflow}
use Rattle.std.specs.Float.Ieee.Positive.{num, den, den_pos, through}
use Rattle.float.specs.Laws.Sign.{round_neg, neg_neg}
use Rattle.float.specs.Promises.Order.{pl, mi, Le}
use Rattle.float.specs.Laws.Le.{le→Le, neg_Le, plain, round_plain, neg_finite}
use Rattle.float.specs.Promises.Order.{Within}

pub record Beyond (B x : Float) : Type 0 where
  pub real : T (finite x)
  pub size : num B * den x ≤ num x * den B

-- ---- a value that the format holds rounds to itself
-- `fits` without its demand on the way of writing, and for finite values only: 4 may be written `fin false 4 (pos 0)`. It computes with no `unfolding` line.
abbrev pub held : Format → Float → Bool
held f nan = false
held f (inf s) = false
held f (fin s m e) = nat_lt m (2 ^ prec f) && (nat_le (down e) (2 ^ low f) && nat_lt (m * up e) (2 ^ suc (emax f) * down e))

one_of : (e : ℤ) → up e * down e ≡ 1 → (up e ≡ 1) × (down e ≡ 1)
one_of (pos k) h = (sym (mul-one (2 ^ k)) ∙ h, refl)
one_of (negsuc k) h = (refl, sym (one-mul (2 ^ suc k)) ∙ h)

pub fits→held : (f : Format) (x : Float) → T (fits f x) → T (finite x) → T (held f x)
unfolding fits
fits→held f nan t p = absurd p
fits→held f (inf s) t p = absurd p
fits→held f (fin s zero e) t p =
    let k = one_of e (eqb→eq (up e * down e) 1 t) in
    and_i (nat_lt 0 (2 ^ prec f)) (nat_le (down e) (2 ^ low f) && nat_lt (0 * up e) (2 ^ suc (emax f) * down e)) (lt→ltb 0 (2 ^ prec f) (pow_pos (prec f)))
    (and_i (nat_le (down e) (2 ^ low f)) (nat_lt (0 * up e) (2 ^ suc (emax f) * down e))
    (le→leb (down e) (2 ^ low f) (le_trans (le_of_eq k.1) (pow_pos (low f))))
    (lt→ltb (0 * up e) (2 ^ suc (emax f) * down e) (lt_of_le_of_lt (le_of_eq (zero-mul (up e))) (mul-pos (pow_pos (suc (emax f))) (down_pos e)))))
fits→held f (fin s (suc m) e) t p =
    let a = nat_eq (suc m % 2) 1 in
    let b = ltb (suc m) (2 ^ prec f) in
    let c = leb (down e) (2 ^ low f) in
    let d = ltb (suc m * up e) (2 ^ suc (emax f) * down e) in
    and_i b (c && d) (and_r a b (and_l (a && b) c (and_l (a && b && c) d t))) (and_i c d (and_r (a && b) c (and_l (a && b && c) d t)) (and_r (a && b && c) d t))

pub held_finite : (f : Format) (x : Float) → T (held f x) → T (finite x)
held_finite f nan t = t
held_finite f (inf s) t = t
held_finite f (fin s m e) t = tt

-- an exponent as a shift from the format's smallest value: 2 ^ low * up e = 2 ^ j * down e
pub drop_pow : (k l : ℕ) → 2 ^ k ≤ 2 ^ l → k ≤ l
drop_pow k l h = go (nat_le k l) (leb→le k l) (nleb→lt k l)
  where
    go : (b : Bool) → (T b → k ≤ l) → (T (not b) → l < k) → k ≤ l
    go true p q = p tt
    go false p q = absurd (lt_irrefl (2 ^ l) (lt_of_lt_of_le (pow-lt (q tt)) h))

pub shift : (e : ℤ) (l : ℕ) → down e ≤ 2 ^ l → (j : ℕ) × (up e * 2 ^ l ≡ 2 ^ j * down e)
shift (pos k) l h = (l + k, mul_comm (2 ^ k) (2 ^ l) ∙ sym (pow-add 2 l k) ∙ sym (mul-one (2 ^ (l + k))))
shift (negsuc k) l h =
    let q : suc k ≤ l = drop_pow (suc k) l h in
    (l - suc k, one-mul (2 ^ l) ∙ sym (ap (λ (z : ℕ). 2 ^ z) (sub-add_cancel q)) ∙ pow-add 2 (l - suc k) (suc k))

-- such a value as a number of units, β * 2 ^ j
pub record Held (f : Format) (x : Float) : Type 0 where
  pub β : ℕ
  pub j : ℕ
  pub short : β < 2 ^ prec f
  pub is : num x * 2 ^ low f ≡ β * 2 ^ j * den x
  pub top : β * 2 ^ j < overflow f

pub held_units : (f : Format) (x : Float) → T (held f x) → Held f x
held_units f nan t = absurd t
held_units f (inf s) t = absurd t
held_units f (fin s m e) t =
    let b = ltb m (2 ^ prec f) in
    let c = leb (down e) (2 ^ low f) in
    let d = ltb (m * up e) (2 ^ suc (emax f) * down e) in
    let i = shift e (low f) (leb→le (down e) (2 ^ low f) (and_l c d (and_r b (c && d) t))) in
    let v : m * up e * 2 ^ low f ≡ m * 2 ^ i.0 * down e = mul_assoc m (up e) (2 ^ low f) ∙ ap (λ (z : ℕ). m * z) i.1
    ∙ sym (mul_assoc m (2 ^ i.0) (down e)) in
    record {
      β = m;
      j = i.0;
      short = ltb→lt m (2 ^ prec f) (and_l b (c && d) t);
      is = v;
      top = under i.0 v (ltb→lt (m * up e) (2 ^ suc (emax f) * down e) (and_r c d (and_r b (c && d) t)));
    }
  where
    under : (j : ℕ) → m * up e * 2 ^ low f ≡ m * 2 ^ j * down e → m * up e < 2 ^ suc (emax f) * down e → m * 2 ^ j < overflow f
    under j v h =
        lt_of_mul-lt-mul_right (down e)
        (subst (λ (z : ℕ). z < overflow f * down e) v
        (lt_of_lt_of_le (mul-lt-mul_of_pos_right h (pow_pos (low f)))
        (le_of_eq (mul_right_comm (2 ^ suc (emax f)) (down e) (2 ^ low f)
        ∙ ap (λ (z : ℕ). z * down e) (mul_comm (2 ^ suc (emax f)) (2 ^ low f) ∙ sym (pow-add 2 (low f) (suc (emax f))))))))

pub exact_self : (f : Format) (s : Bool) (x : Float) → T (held f x) → HasValue (round f s (num x) (den x)) s (num x) (den x)
exact_self f s x t = let h = held_units f x t in round_exact f s (num x) (den x) h.β h.j (den_pos x) h.short h.top h.is

-- ---- the size of a rounded fraction does not see its sign
neg_num : (x : Float) → num (neg x) ≡ num x
unfolding neg
neg_num nan = refl
neg_num (inf s) = refl
neg_num (fin s m e) = refl

neg_den : (x : Float) → den (neg x) ≡ den x
unfolding neg
neg_den nan = refl
neg_den (inf s) = refl
neg_den (fin s m e) = refl

pub neg_within : {B x : Float} → Within B x → Within B (neg x)
neg_within {B} {x} h = record { real = neg_finite x h.real; size = rw (neg_num, neg_den) h.size }

pub neg_beyond : {B x : Float} → Beyond B x → Beyond B (neg x)
neg_beyond {B} {x} h = record { real = neg_finite x h.real; size = rw (neg_num, neg_den) h.size }

pl_num : (x : Float) → T (plain x) → (pl x ≡ num x) × (mi x ≡ 0)
pl_num nan p = absurd p
pl_num (inf s) p = (refl, refl)
pl_num (fin true m e) p = absurd p
pl_num (fin false m e) p = (refl, refl)

-- two values with no minus sign, by their fractions
plain_Le : (x y : Float) → T (plain x) → T (plain y) → Le x y → num x * den y ≤ num y * den x
plain_Le x y p q h =
    let a = pl_num x p in
    let b = pl_num y q in
    let k : num x * den y + 0 * den x ≤ num y * den x + 0 * den y = subst (λ (z : ℕ). z * den y + 0 * den x ≤ num y * den x + 0 * den y) a.0
    (subst (λ (z : ℕ). pl x * den y + z * den x ≤ num y * den x + 0 * den y) b.1
    (subst (λ (z : ℕ). pl x * den y + mi y * den x ≤ z * den x + 0 * den y) b.0
    (subst (λ (z : ℕ). pl x * den y + mi y * den x ≤ pl y * den x + z * den y) a.1 h.cross))) in
    omega arith

-- what lies below a finite value is finite, if it has no minus sign
pub plain_finite : (x y : Float) → T (plain x) → T (finite y) → T (le x y) → T (finite x)
unfolding le
plain_finite nan y p q h = absurd p
plain_finite (inf true) y p q h = absurd p
plain_finite (inf false) nan p q h = absurd q
plain_finite (inf false) (inf t) p q h = absurd q
plain_finite (inf false) (fin t n d) p q h = absurd h
plain_finite (fin s m e) y p q h = tt

pub value_finite : (x : Float) (s : Bool) (a c : ℕ) → HasValue x s a c → T (finite x)
value_finite nan s a c h = absurd h
value_finite (inf t) s a c h = absurd h
value_finite (fin t m e) s a c h = tt

pub value_cross : (x : Float) (s : Bool) (a c : ℕ) → HasValue x s a c → num x * c ≡ a * den x
value_cross nan s a c h = absurd h
value_cross (inf t) s a c h = absurd h
value_cross (fin t m e) s a c h = h.1

-- x / p ≤ y / q with y / q = z / r
swap_right : (x p y q z r : ℕ) → 0 < q → x * q ≤ y * p → y * r ≡ z * q → x * r ≤ z * p
swap_right x p y q z r Q h e = through x y z p q r Q h (le_of_eq e)

-- ---- rounding does not cross a value of the format
plain_within : (f : Format) (a c : ℕ) (B : Float) → 0 < c → T (held f B) → a * den B ≤ num B * c → Within B (round f false a c)
plain_within f a c B C t h =
    let S = round f false (num B) (den B) in
    let R = round f false a c in
    let w : HasValue S false (num B) (den B) = exact_self f false B t in
    let l : T (le R S) = round_mono f a c (num B) (den B) C (den_pos B) h in
    let q : T (finite S) = value_finite S false (num B) (den B) w in
    let r : T (finite R) = plain_finite R S (round_plain f a c) q l in
    record {
      real = r;
      size = swap_right (num R) (den R) (num S) (den S) (num B) (den B) (den_pos S)
          (plain_Le R S (round_plain f a c) (round_plain f (num B) (den B)) (le→Le R S r q l)) (value_cross S false (num B) (den B) w);
    }

pub round_within : (f : Format) (s : Bool) (a c : ℕ) (B : Float) → 0 < c → T (held f B) → a * den B ≤ num B * c → Within B (round f s a c)
round_within f false a c B C t h = plain_within f a c B C t h
round_within f true a c B C t h = subst (λ (z : Float). Within B z) (sym (round_neg f false a c)) (neg_within (plain_within f a c B C t h))

plain_beyond : (f : Format) (a c : ℕ) (B : Float) → 0 < c → T (held f B) → T (finite (round f false a c)) → num B * c ≤ a * den B → Beyond B (round f false a c)
plain_beyond f a c B C t r h =
    let S = round f false (num B) (den B) in
    let R = round f false a c in
    let w : HasValue S false (num B) (den B) = exact_self f false B t in
    let l : T (le S R) = round_mono f (num B) (den B) a c (den_pos B) C h in
    let q : T (finite S) = value_finite S false (num B) (den B) w in
    record {
      real = r;
      size = through (num B) (num S) (num R) (den B) (den S) (den R) (den_pos S) (le_of_eq (sym (value_cross S false (num B) (den B) w)))
          (plain_Le S R (round_plain f (num B) (den B)) (round_plain f a c) (le→Le S R q r l));
    }

unneg_finite : (x : Float) → T (finite (neg x)) → T (finite x)
unfolding neg
unneg_finite nan p = p
unneg_finite (inf s) p = p
unneg_finite (fin s m e) p = tt

pub round_beyond : (f : Format) (s : Bool) (a c : ℕ) (B : Float) → 0 < c → T (held f B) → T (finite (round f s a c)) → num B * c ≤ a * den B
    → Beyond B (round f s a c)
round_beyond f false a c B C t r h = plain_beyond f a c B C t r h
round_beyond f true a c B C t r h =
    subst (λ (z : Float). Beyond B z) (sym (round_neg f false a c))
    (neg_beyond (plain_beyond f a c B C t (unneg_finite (round f false a c) (subst (λ (z : Float). T (finite z)) (round_neg f false a c) r)) h))

-- ---- weaker bounds, and numerals
pub weaken : (B : Float) {X x : Float} → T (nat_le (num X * den B) (num B * den X)) → Within X x → Within B x
weaken B {X} {x} t h = record {
  real = h.real;
  size = through (num x) (num X) (num B) (den x) (den X) (den B) (den_pos X) h.size
      (leb→le (num X * den B) (num B * den X) t);
}

pub numeral : (B x : Float) → T (finite x && nat_le (num x * den B) (num B * den x)) → Within B x
numeral B x t = record {
  real = and_l (finite x) (nat_le (num x * den B) (num B * den x)) t;
  size = leb→le (num x * den B) (num B * den x) (and_r (finite x) (nat_le (num x * den B) (num B * den x)) t);
}

pub numeral_beyond : (B x : Float) → T (finite x && nat_le (num B * den x) (num x * den B)) → Beyond B x
numeral_beyond B x t = record {
  real = and_l (finite x) (nat_le (num B * den x) (num x * den B)) t;
  size = leb→le (num B * den x) (num x * den B) (and_r (finite x) (nat_le (num B * den x) (num x * den B)) t);
}

-- ---- a sum: any B that is no less than X + Y
abbrev pub add_test : Format → Float → Float → Float → Bool
add_test f X Y B = held f B && nat_le ((num X * den Y + num Y * den X) * den B) (num B * (den X * den Y))

pub sum_within : (f : Format) (s : Bool) (a : ℕ) (t : Bool) (b c : ℕ) (B : Float) → 0 < c → T (held f B) → (a + b) * den B ≤ num B * c
    → Within B (sum f s a t b c)
unfolding sum
sum_within f s a t b c B C h k = pick (beq s t) (nat_lt a b)
  where
    one : b - a ≤ a + b
    one = omega arith

    two : a - b ≤ a + b
    two = omega arith

    pick : (x y : Bool) → Within B (cond x (round f s (a + b) c) (cond y (round f t (b - a) c) (round f (s && nat_lt b a) (a - b) c)))
    pick true y = round_within f s (a + b) c B C h k
    pick false true = round_within f t (b - a) c B C h (le_trans (mul-le-mul_right (den B) one) k)
    pick false false = round_within f (s && nat_lt b a) (a - b) c B C h (le_trans (mul-le-mul_right (den B) two) k)

-- x ≤ X / p', y ≤ Y / q' and X + Y ≤ B, as fractions
pub add_bound : (x p y q X P Y Q B D : ℕ) → 0 < P → 0 < Q → x * P ≤ X * p → y * Q ≤ Y * q → (X * Q + Y * P) * D ≤ B * (P * Q)
    → (x * q + y * p) * D ≤ B * (p * q)
add_bound x p y q X P Y Q B D pp qq h k l =
    le_of_mul-le-mul_right
    (le_trans (le_of_eq e1) (le_trans (mul-le-mul_right D (add-le-add h1 k1))
    (le_trans (le_of_eq e2) (le_trans (mul-le-mul_right (p * q) l) (le_of_eq (mul_right_comm B (P * Q) (p * q)))))))
    (mul-pos pp qq)
  where
    h1 : x * P * (q * Q) ≤ X * p * (q * Q)
    h1 = mul-le-mul_right (q * Q) h

    k1 : y * Q * (p * P) ≤ Y * q * (p * P)
    k1 = mul-le-mul_right (p * P) k

    e1 : (x * q + y * p) * D * (P * Q) ≡ (x * P * (q * Q) + y * Q * (p * P)) * D
    e1 = simp (add-mul, mul_assoc, mul_comm, mul_left_comm)

    e2 : (X * p * (q * Q) + Y * q * (p * P)) * D ≡ (X * Q + Y * P) * D * (p * q)
    e2 = simp (add-mul, mul_assoc, mul_comm, mul_left_comm)

pub add_within : (f : Format) (B : Float) {X Y x y : Float} → T (add_test f X Y B) → Within X x → Within Y y → Within B (add f x y)
unfolding add
add_within f B {x = nan} {y} t h k = absurd h.real
add_within f B {x = inf s} {y} t h k = absurd h.real
add_within f B {x = fin s m e} {y = nan} t h k = absurd k.real
add_within f B {x = fin s m e} {y = inf r} t h k = absurd k.real
add_within f B {X} {Y} {x = fin s m e} {y = fin r n d} t h k =
    let l = leb ((num X * den Y + num Y * den X) * den B) (num B * (den X * den Y)) in
    sum_within f s (m * up e * down d) r (n * up d * down e) (down e * down d) B (mul-pos (down_pos e) (down_pos d)) (and_l (held f B) l t)
    (add_bound (m * up e) (down e) (n * up d) (down d) (num X) (den X) (num Y) (den Y) (num B) (den B) (den_pos X) (den_pos Y) h.size k.size
    (leb→le ((num X * den Y + num Y * den X) * den B) (num B * (den X * den Y)) (and_r (held f B) l t)))

pub sub_within : (f : Format) (B : Float) {X Y x y : Float} → T (add_test f X Y B) → Within X x → Within Y y → Within B (sub f x y)
unfolding sub
sub_within f B t h k = add_within f B t h (neg_within k)

-- ---- a product
abbrev pub mul_test : Format → Float → Float → Float → Bool
mul_test f X Y B = held f B && nat_le (num X * num Y * den B) (num B * (den X * den Y))

mul_bound : (x p y q X P Y Q B D : ℕ) → 0 < P → 0 < Q → x * P ≤ X * p → y * Q ≤ Y * q → X * Y * D ≤ B * (P * Q) → x * y * D ≤ B * (p * q)
mul_bound x p y q X P Y Q B D pp qq h k l =
    le_of_mul-le-mul_right
    (le_trans (le_of_eq e1) (le_trans (mul-le-mul_right D (mul-le-mul h k))
    (le_trans (le_of_eq e2) (le_trans (mul-le-mul_right (p * q) l) (le_of_eq (mul_right_comm B (P * Q) (p * q)))))))
    (mul-pos pp qq)
  where
    e1 : x * y * D * (P * Q) ≡ x * P * (y * Q) * D
    e1 = simp (mul_assoc, mul_comm, mul_left_comm)

    e2 : X * p * (Y * q) * D ≡ X * Y * D * (p * q)
    e2 = simp (mul_assoc, mul_comm, mul_left_comm)

pub mul_within : (f : Format) (B : Float) {X Y x y : Float} → T (mul_test f X Y B) → Within X x → Within Y y → Within B (mul f x y)
unfolding mul
mul_within f B {x = nan} {y} t h k = absurd h.real
mul_within f B {x = inf s} {y} t h k = absurd h.real
mul_within f B {x = fin s m e} {y = nan} t h k = absurd k.real
mul_within f B {x = fin s m e} {y = inf r} t h k = absurd k.real
mul_within f B {X} {Y} {x = fin s m e} {y = fin r n d} t h k =
    let l = leb (num X * num Y * den B) (num B * (den X * den Y)) in
    round_within f (unlike s r) (m * up e * (n * up d)) (down e * down d) B (mul-pos (down_pos e) (down_pos d)) (and_l (held f B) l t)
    (mul_bound (m * up e) (down e) (n * up d) (down d) (num X) (den X) (num Y) (den Y) (num B) (den B) (den_pos X) (den_pos Y) h.size k.size
    (leb→le (num X * num Y * den B) (num B * (den X * den Y)) (and_r (held f B) l t)))

-- ---- a quotient by what is L or more in size
abbrev pub div_test : Format → Float → Float → Float → Bool
div_test f X L B = held f B && (nat_lt 0 (num L) && nat_le (num X * den L * den B) (num B * (den X * num L)))

div_bound : (x p y q X P L R B D : ℕ) → 0 < P → 0 < L → x * P ≤ X * p → L * q ≤ y * R → X * R * D ≤ B * (P * L) → x * q * D ≤ B * (p * y)
div_bound x p y q X P L R B D pp ll h k l =
    le_of_mul-le-mul_right
    (le_trans (le_of_eq e1) (le_trans (mul-le-mul_right D (mul-le-mul h k))
    (le_trans (le_of_eq e2) (le_trans (mul-le-mul_right (p * y) l) (le_of_eq (mul_right_comm B (P * L) (p * y)))))))
    (mul-pos pp ll)
  where
    e1 : x * q * D * (P * L) ≡ x * P * (L * q) * D
    e1 = simp (mul_assoc, mul_comm, mul_left_comm)

    e2 : X * p * (y * R) * D ≡ X * R * D * (p * y)
    e2 = simp (mul_assoc, mul_comm, mul_left_comm)

-- L / R ≤ y / q with L above 0: y is above 0
pub pos_of : (L R y q : ℕ) → 0 < L → 0 < q → L * q ≤ y * R → 0 < y
pos_of L R y q l Q h = go y h
  where
    go : (y : ℕ) → L * q ≤ y * R → 0 < y
    go zero h = absurd (lt_irrefl 0 (lt_of_lt_of_le (mul-pos l Q) (le_trans h (le_of_eq (zero-mul R)))))
    go (suc y) h = zero-lt-suc y

pub not_none : (n : ℕ) (d : ℤ) → 0 < n * up d → n ≢ 0
not_none n d h k = lt_irrefl 0 (subst (λ (v : ℕ). 0 < v) (ap (λ (v : ℕ). v * up d) k ∙ zero-mul (up d)) h)

-- a quotient, from the exact sizes
pub div_exact : (f : Format) (B x y : Float) → T (held f B) → T (finite x) → T (finite y) → 0 < num y
    → num x * den y * den B ≤ num B * (num y * den x) → Within B (div f x y)
unfolding div
div_exact f B nan y t p q z h = absurd p
div_exact f B (inf s) y t p q z h = absurd p
div_exact f B (fin s m e) nan t p q z h = absurd q
div_exact f B (fin s m e) (inf r) t p q z h = absurd q
div_exact f B (fin s m e) (fin r n d) t p q z h = go (n == 0) (eqb→eq n 0)
  where
    go : (b : Bool) → (T b → n ≡ 0) → Within B (cond b (cond (m == 0) nan (inf (unlike s r))) (round f (unlike s r) (m * up e * down d) (n * up d * down e)))
    go true k = absurd (not_none n d z (k tt))
    go false k = round_within f (unlike s r) (m * up e * down d) (n * up d * down e) B (mul-pos z (down_pos e)) t h

pub div_within : (f : Format) (B : Float) {X L x y : Float} → T (div_test f X L B) → Within X x → Beyond L y → Within B (div f x y)
div_within f B {X} {L} {x} {y} t h k =
    let a = ltb 0 (num L) in
    let b = leb (num X * den L * den B) (num B * (den X * num L)) in
    let u = and_r (held f B) (a && b) t in
    let l : 0 < num L = ltb→lt 0 (num L) (and_l a b u) in
    div_exact f B x y (and_l (held f B) (a && b) t) h.real k.real (pos_of (num L) (den L) (num y) (den y) l (den_pos y) k.size)
    (le_trans (div_bound (num x) (den x) (num y) (den y) (num X) (den X) (num L) (den L) (num B) (den B) (den_pos X) l h.size k.size
    (leb→le (num X * den L * den B) (num B * (den X * num L)) (and_r a b u)))
    (le_of_eq (ap (λ (v : ℕ). num B * v) (mul_comm (den x) (num y)))))

-- ---- a sum from below: |x| ≥ L and |y| ≤ Y give |x + y| ≥ B, for B + Y ≤ L
abbrev pub away_test : Format → Float → Float → Float → Bool
away_test f L Y B = held f B && nat_le ((num B * den Y + num Y * den B) * den L) (num L * (den B * den Y))

sum_beyond : (f : Format) (s : Bool) (a : ℕ) (t : Bool) (b c : ℕ) (B : Float) → 0 < c → T (held f B) → T (finite (sum f s a t b c))
    → num B * c + b * den B ≤ a * den B → Beyond B (sum f s a t b c)
unfolding sum
sum_beyond f s a t b c B C h r k = pick (beq s t) (nat_lt a b) (ltb→lt a b) r
  where
    one : num B * c ≤ (a + b) * den B
    one = let e : (a + b) * den B ≡ a * den B + b * den B = add-mul a b (den B) in omega arith

    two : num B * c ≤ (a - b) * den B
    two = let e : (a - b) * den B ≡ a * den B - b * den B = mul_comm (a - b) (den B) ∙ mul-sub (den B) a b
        ∙ ap₂ (λ (x y : ℕ). x - y) (mul_comm (den B) a) (mul_comm (den B) b) in omega arith

    no_way : a < b → num B * c ≤ (b - a) * den B
    no_way l =
        let u : a * den B + 1 * den B ≤ b * den B = le_trans (le_of_eq (sym (add-mul a 1 (den B)))) (mul-le-mul_right (den B) (omega arith)) in
        let v : 1 * den B ≡ den B = one-mul (den B) in
        let w : 0 < den B = den_pos B in
        absurd (lt_irrefl 0 (omega arith))

    pick : (x y : Bool) → (T y → a < b) → T (finite (cond x (round f s (a + b) c) (cond y (round f t (b - a) c) (round f (s && nat_lt b a) (a - b) c))))
        → Beyond B (cond x (round f s (a + b) c) (cond y (round f t (b - a) c) (round f (s && nat_lt b a) (a - b) c)))
    pick true y l r = round_beyond f s (a + b) c B C h r one
    pick false true l r = round_beyond f t (b - a) c B C h r (no_way (l tt))
    pick false false l r = round_beyond f (s && nat_lt b a) (a - b) c B C h r two

-- L ≤ x, y ≤ Y and B + Y ≤ L, as fractions
away_bound : (x p y q L R Y Q B D : ℕ) → 0 < R → 0 < Q → L * p ≤ x * R → y * Q ≤ Y * q → (B * Q + Y * D) * R ≤ L * (D * Q) → B * (p * q) + y * p * D ≤ x * q * D
away_bound x p y q L R Y Q B D rr qq h k l =
    le_of_mul-le-mul_right
    (le_trans (le_of_eq e1) (le_trans (add_two (B * (p * q) * (R * Q)) k1)
    (le_trans (le_of_eq e2) (le_trans l1 (le_trans (le_of_eq e3) (le_trans h1 (le_of_eq e4)))))))
    (mul-pos rr qq)
  where
    k1 : y * Q * (p * D * R) ≤ Y * q * (p * D * R)
    k1 = mul-le-mul_right (p * D * R) k

    add_two : (a : ℕ) {c d : ℕ} → c ≤ d → a + c ≤ a + d
    add_two a u = omega arith

    l1 : (B * Q + Y * D) * R * (p * q) ≤ L * (D * Q) * (p * q)
    l1 = mul-le-mul_right (p * q) l

    h1 : L * p * (D * Q * q) ≤ x * R * (D * Q * q)
    h1 = mul-le-mul_right (D * Q * q) h

    e1 : (B * (p * q) + y * p * D) * (R * Q) ≡ B * (p * q) * (R * Q) + y * Q * (p * D * R)
    e1 = simp (add-mul, mul_assoc, mul_comm, mul_left_comm)

    e2 : B * (p * q) * (R * Q) + Y * q * (p * D * R) ≡ (B * Q + Y * D) * R * (p * q)
    e2 = simp (add-mul, mul_assoc, mul_comm, mul_left_comm)

    e3 : L * (D * Q) * (p * q) ≡ L * p * (D * Q * q)
    e3 = simp (mul_assoc, mul_comm, mul_left_comm)

    e4 : x * R * (D * Q * q) ≡ x * q * D * (R * Q)
    e4 = simp (mul_assoc, mul_comm, mul_left_comm)

pub add_beyond : (f : Format) (B : Float) {L Y W x y : Float} → T (away_test f L Y B) → Beyond L x → Within Y y → Within W (add f x y) → Beyond B (add f x y)
unfolding add
add_beyond f B {x = nan} {y} t h k w = absurd h.real
add_beyond f B {x = inf s} {y} t h k w = absurd h.real
add_beyond f B {x = fin s m e} {y = nan} t h k w = absurd k.real
add_beyond f B {x = fin s m e} {y = inf r} t h k w = absurd k.real
add_beyond f B {L} {Y} {x = fin s m e} {y = fin r n d} t h k w =
    let l = leb ((num B * den Y + num Y * den B) * den L) (num L * (den B * den Y)) in
    sum_beyond f s (m * up e * down d) r (n * up d * down e) (down e * down d) B (mul-pos (down_pos e) (down_pos d)) (and_l (held f B) l t) w.real
    (away_bound (m * up e) (down e) (n * up d) (down d) (num L) (den L) (num Y) (den Y) (num B) (den B) (den_pos L) (den_pos Y) h.size k.size
    (leb→le ((num B * den Y + num Y * den B) * den L) (num L * (den B * den Y)) (and_r (held f B) l t)))

-- ---- from and to the order
pub within→Le : {B x : Float} → T (finite B) → T (plain B) → Within B x → Le x B × Le (neg B) x
unfolding neg
within→Le {B = nan} p q h = absurd p
within→Le {B = inf s} p q h = absurd p
within→Le {B = fin true m e} p q h = absurd q
within→Le {B = fin false m e} {x = nan} p q h = absurd h.real
within→Le {B = fin false m e} {x = inf s} p q h = absurd h.real
within→Le {B = fin false m e} {x = fin true n d} p q h = (
  record { first = tt; second = tt; cross = let k = h.size in omega arith },
  record { first = tt; second = tt; cross = let k = h.size in omega arith },
)
within→Le {B = fin false m e} {x = fin false n d} p q h = (
  record { first = tt; second = tt; cross = let k = h.size in omega arith },
  record { first = tt; second = tt; cross = let k = h.size in omega arith },
)

pub Le→within : {B x : Float} → T (plain B) → Le x B → Le (neg B) x → Within B x
unfolding neg
Le→within {B = nan} q h k = absurd q
Le→within {B = inf s} q h k = absurd h.second
Le→within {B = fin true m e} q h k = absurd q
Le→within {B = fin false m e} {x = nan} q h k = absurd h.first
Le→within {B = fin false m e} {x = inf s} q h k = absurd h.first
Le→within {B = fin false m e} {x = fin true n d} q h k = record { real = tt; size = let l = k.cross in omega arith }
Le→within {B = fin false m e} {x = fin false n d} q h k = record { real = tt; size = let l = h.cross in omega arith }

pub Le→beyond : {B x : Float} → T (plain B) → Le B x → Beyond B x
Le→beyond {B = nan} p h = absurd p
Le→beyond {B = inf s} p h = absurd h.first
Le→beyond {B = fin true m e} p h = absurd p
Le→beyond {B = fin false m e} {x = nan} p h = absurd h.second
Le→beyond {B = fin false m e} {x = inf s} p h = absurd h.second
Le→beyond {B = fin false m e} {x = fin true n d} p h = record { real = tt; size = let l = h.cross in omega arith }
Le→beyond {B = fin false m e} {x = fin false n d} p h = record { real = tt; size = let l = h.cross in omega arith }

pub Le→beyond-neg : {B x : Float} → T (plain B) → Le x (neg B) → Beyond B x
Le→beyond-neg {B} {x} p h = subst (λ (z : Float). Beyond B z) (neg_neg x)
    (neg_beyond (Le→beyond p (subst (λ (z : Float). Le z (neg x)) (neg_neg B) (neg_Le h))))

pub beyond→Le : {B x : Float} → T (finite B) → T (plain B) → T (plain x) → Beyond B x → Le B x
beyond→Le {B = nan} p q r h = absurd p
beyond→Le {B = inf s} p q r h = absurd p
beyond→Le {B = fin true m e} p q r h = absurd q
beyond→Le {B = fin false m e} {x = nan} p q r h = absurd r
beyond→Le {B = fin false m e} {x = inf s} p q r h = absurd h.real
beyond→Le {B = fin false m e} {x = fin true n d} p q r h = absurd r
beyond→Le {B = fin false m e} {x = fin false n d} p q r h = record { first = tt; second = tt; cross = let k = h.size in omega arith }
