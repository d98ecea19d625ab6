-- The order of finite values with signs, and that `add`, `sub`, `neg`, a product and a quotient by what is not negative keep it, rounding included.
-- A finite value is (pl - mi) / den: `pl` is its size where it is not negative and 0 otherwise, `mi` the other way round. So an order of values is an
-- inequality of sums of products. `srnd` rounds such a difference; a sum is that, but for the sign of a zero.
use Rattle.std.specs.Prelude.{◌≡◌, ℕ, zero, suc, ◌+◌, ◌-◌, ◌*◌, ◌^◌, ◌<◌, ◌≤◌, Bool, true, false, cond, not, ◌&&◌, ◌||◌, T, ◌⊎◌, ◌==◌, nat_le, nat_lt}
use Rattle.std.proofs.Common.{sym, ap, ap₂, ◌∙◌, subst, inl, inr, le_of_lt, zero-mul, one-mul, mul-pos, mul_assoc, mul_comm, mul_left_comm, add-mul}
use Rattle.std.proofs.Common.{zero-lt-suc, lt_irrefl, eq-or-lt_of_le, le_of_mul-le-mul_right, mul-le-mul_right, arith, ltb→lt, lt→ltb, nltb→le, leb→le}
use Rattle.std.proofs.Common.{eqb→eq}
use Rattle.std.proofs.Math.Path.{subst⁻¹}
use Rattle.std.proofs.Math.Nat.{mul-sub}
use Rattle.std.proofs.Math.Dec.{nleb→lt}
use lib.Ieee.{Float, nan, inf, fin, Format, unlike, up, down, below, level, odd, units, round, neg, sum, add, sub, mul, div, le}
use Rattle.std.specs.Float.Ieee.Fits.{down_pos, and_l, and_r, and_i, eq→eqb}
use Rattle.std.specs.Float.Ieee.Order.{round_mono}
use Rattle.std.specs.Float.Ieee.Scale.{finite}
use Rattle.std.specs.Float.Ieee.Positive.{num, den, den_pos}
use Rattle.float.specs.Laws.Sign.{strip, Alike, round_zero, round_neg}
use Rattle.float.specs.Laws.Like.{zero_l}
use Rattle.float.specs.Promises.Order.{pl, mi, Le}

-- ---- `le` says the same
pub yes_of : {b : Bool} → b ≡ true → T b
yes_of e = subst⁻¹ T e tt

pub or_l : (a b : Bool) → T a → T (a || b)
or_l true b t = tt
or_l false b t = absurd t

pub or_r : (a b : Bool) → T b → T (a || b)
or_r true b t = tt
or_r false b t = t

pub or_split : (a b : Bool) → T (a || b) → T a ⊎ T b
or_split true b t = inl tt
or_split false b t = inr t

-- magnitudes a and b over one denominator, with their signs
said : (s t : Bool) (a b : ℕ) → T (below s a t b || level s a t b) → cond s 0 a + cond t b 0 ≤ cond t 0 b + cond s a 0
said false false a b h = elim (or_split (nat_lt a b) (a == b && true) h) [
  | inl u ↦ (let k : a < b = ltb→lt a b u in omega arith)
  | inr u ↦ (let k : a ≡ b = eqb→eq a b (and_l (a == b) true u) in omega arith)
]
said false true a b h =
    let p : a ≡ b = eqb→eq a b (and_l (a == b) (a == 0) h) in
    let q : a ≡ 0 = eqb→eq a 0 (and_r (a == b) (a == 0) h) in
    omega arith
said true false a b h = omega arith
said true true a b h = elim (or_split (nat_lt b a) (a == b && true) h) [
  | inl u ↦ (let k : b < a = ltb→lt b a u in omega arith)
  | inr u ↦ (let k : a ≡ b = eqb→eq a b (and_l (a == b) true u) in omega arith)
]

say : (s t : Bool) (a b : ℕ) → cond s 0 a + cond t b 0 ≤ cond t 0 b + cond s a 0 → T (below s a t b || level s a t b)
say false false a b h = elim (eq-or-lt_of_le (two a b h)) [
  | inl e ↦ or_r (nat_lt a b) (a == b && true) (and_i (a == b) true (eq→eqb e) tt)
  | inr l ↦ or_l (nat_lt a b) (a == b && true) (lt→ltb a b l)
]
  where
    two : (a b : ℕ) → a + 0 ≤ b + 0 → a ≤ b
    two a b h = omega arith
say false true a b h = and_i (a == b) (a == 0) (eq→eqb (p a b h)) (eq→eqb (q a b h))
  where
    p : (a b : ℕ) → a + b ≤ 0 + 0 → a ≡ b
    p a b h = omega arith

    q : (a b : ℕ) → a + b ≤ 0 + 0 → a ≡ 0
    q a b h = omega arith
say true false a b h = go (nat_lt 0 (a + b)) (lt→ltb 0 (a + b)) (nltb→le 0 (a + b))
  where
    go : (x : Bool) → (0 < a + b → T x) → (T (not x) → a + b ≤ 0) → T (x || (a == b && a == 0))
    go true h k = tt
    go false h k = let z : a + b ≤ 0 = k tt in and_i (a == b) (a == 0) (eq→eqb {a = a} {b = b} (omega arith)) (eq→eqb {a = a} {b = 0} (omega arith))
say true true a b h = elim (eq-or-lt_of_le (two a b h)) [
  | inl e ↦ or_r (nat_lt b a) (a == b && true) (and_i (a == b) true (eq→eqb (sym e)) tt)
  | inr l ↦ or_l (nat_lt b a) (a == b && true) (lt→ltb b a l)
]
  where
    two : (a b : ℕ) → 0 + b ≤ 0 + a → b ≤ a
    two a b h = omega arith

pub le→Le : (x y : Float) → T (finite x) → T (finite y) → T (le x y) → Le x y
unfolding le
le→Le nan y p q h = absurd p
le→Le (inf s) y p q h = absurd p
le→Le (fin s m e) nan p q h = absurd q
le→Le (fin s m e) (inf t) p q h = absurd q
le→Le (fin s m e) (fin t n d) p q h = record { first = tt; second = tt; cross = go s t h }
  where
    go : (s t : Bool) → T (below s (m * up e * down d) t (n * up d * down e) || level s (m * up e * down d) t (n * up d * down e))
        → pl (fin s m e) * down d + mi (fin t n d) * down e ≤ pl (fin t n d) * down e + mi (fin s m e) * down d
    go true true h = let k = said true true (m * up e * down d) (n * up d * down e) h in omega arith
    go true false h = omega arith
    go false true h = let k = said false true (m * up e * down d) (n * up d * down e) h in omega arith
    go false false h = let k = said false false (m * up e * down d) (n * up d * down e) h in omega arith

pub Le→le : {x y : Float} → Le x y → T (le x y)
unfolding le
Le→le {x = nan} {y} h = absurd h.first
Le→le {x = inf s} {y} h = absurd h.first
Le→le {x = fin s m e} {y = nan} h = absurd h.second
Le→le {x = fin s m e} {y = inf t} h = absurd h.second
Le→le {x = fin s m e} {y = fin t n d} h = go s t h.cross
  where
    go : (s t : Bool) → pl (fin s m e) * down d + mi (fin t n d) * down e ≤ pl (fin t n d) * down e + mi (fin s m e) * down d
        → T (below s (m * up e * down d) t (n * up d * down e) || level s (m * up e * down d) t (n * up d * down e))
    go true true h = say true true (m * up e * down d) (n * up d * down e) (omega arith)
    go true false h = say true false (m * up e * down d) (n * up d * down e) (omega arith)
    go false true h = say false true (m * up e * down d) (n * up d * down e) (omega arith)
    go false false h = say false false (m * up e * down d) (n * up d * down e) (omega arith)

-- ---- the order is turned round by `neg`
pub neg_finite : (x : Float) → T (finite x) → T (finite (neg x))
unfolding neg
neg_finite nan p = absurd p
neg_finite (inf s) p = absurd p
neg_finite (fin s m e) p = tt

pub neg_Le : {x y : Float} → Le x y → Le (neg y) (neg x)
unfolding neg
neg_Le {x = nan} {y} h = absurd h.first
neg_Le {x = inf s} {y} h = absurd h.first
neg_Le {x = fin s m e} {y = nan} h = absurd h.second
neg_Le {x = fin s m e} {y = inf t} h = absurd h.second
neg_Le {x = fin s m e} {y = fin t n d} h = record { first = tt; second = tt; cross = go s t h.cross }
  where
    go : (s t : Bool) → pl (fin s m e) * down d + mi (fin t n d) * down e ≤ pl (fin t n d) * down e + mi (fin s m e) * down d
        → pl (fin (not t) n d) * down e + mi (fin (not s) m e) * down d ≤ pl (fin (not s) m e) * down d + mi (fin (not t) n d) * down e
    go true true h = omega arith
    go true false h = omega arith
    go false true h = omega arith
    go false false h = omega arith

neg_anti : (x y : Float) → T (le x y) → T (le (neg y) (neg x))
unfolding le neg
neg_anti nan y h = absurd h
neg_anti (inf s) nan h = absurd h
neg_anti (inf true) (inf true) h = tt
neg_anti (inf true) (inf false) h = tt
neg_anti (inf false) (inf true) h = absurd h
neg_anti (inf false) (inf false) h = tt
neg_anti (inf true) (fin t n d) h = tt
neg_anti (inf false) (fin t n d) h = absurd h
neg_anti (fin s m e) nan h = absurd h
neg_anti (fin s m e) (inf true) h = absurd h
neg_anti (fin s m e) (inf false) h = tt
neg_anti (fin s m e) (fin t n d) h = Le→le (neg_Le (le→Le (fin s m e) (fin t n d) tt tt h))

-- ---- what `round f false` gives has no minus sign
abbrev pub plain : Float → Bool
plain nan = false
plain (inf s) = not s
plain (fin s m e) = not s

odd_plain : (d q k l : ℕ) → T (plain (odd d false q k l))
unfolding odd
odd_plain d zero k l = tt
odd_plain d (suc q) k l = tt

pub units_plain : (f : Format) (q k : ℕ) → T (plain (units f false q k))
unfolding units
units_plain f q k = go (nat_lt (q * 2 ^ k) (2 ^ (lib.Ieee.low f + suc (lib.Ieee.emax f))))
  where
    go : (b : Bool) → T (plain (cond b (odd (suc (lib.Ieee.prec f)) false q k (lib.Ieee.low f)) (inf false)))
    go true = odd_plain (suc (lib.Ieee.prec f)) q k (lib.Ieee.low f)
    go false = tt

pub round_plain : (f : Format) (a c : ℕ) → T (plain (round f false a c))
unfolding round
round_plain f a c = units_plain f _ _

minus_plus : (x y : Float) → T (plain x) → T (plain y) → T (le (neg x) y)
unfolding le neg
minus_plus nan y p q = absurd p
minus_plus (inf true) y p q = absurd p
minus_plus (inf false) nan p q = absurd q
minus_plus (inf false) (inf true) p q = absurd q
minus_plus (inf false) (inf false) p q = tt
minus_plus (inf false) (fin t n d) p q = tt
minus_plus (fin true m e) y p q = absurd p
minus_plus (fin false m e) nan p q = absurd q
minus_plus (fin false m e) (inf true) p q = absurd q
minus_plus (fin false m e) (inf false) p q = tt
minus_plus (fin false m e) (fin true n d) p q = absurd q
minus_plus (fin false m e) (fin false n d) p q = say true false (m * up e * down d) (n * up d * down e) (omega arith)

-- ---- (p - n) / c rounded
abbrev pub srnd : Format → ℕ → ℕ → ℕ → Float
srnd f p n c = cond (nat_le n p) (round f false (p - n) c) (round f true (n - p) c)

-- (a - b) * d ≤ (q - m) * c
differences : (p n c q m d : ℕ) → n ≤ p → m ≤ q → p * d + m * c ≤ q * c + n * d → (p - n) * d ≤ (q - m) * c
differences p n c q m d h k l =
    let a : (p - n) * d ≡ p * d - n * d = mul_comm (p - n) d ∙ mul-sub d p n ∙ ap₂ (λ (x y : ℕ). x - y) (mul_comm d p) (mul_comm d n) in
    let b : (q - m) * c ≡ q * c - m * c = mul_comm (q - m) c ∙ mul-sub c q m ∙ ap₂ (λ (x y : ℕ). x - y) (mul_comm c q) (mul_comm c m) in
    let x : n * d ≤ p * d = mul-le-mul_right d h in
    let y : m * c ≤ q * c = mul-le-mul_right c k in
    omega arith

crossed : (p n c q m d : ℕ) → 0 < d → 0 < c → n ≤ p → q < m → p * d + m * c ≤ q * c + n * d → ⊥
crossed p n c q m d D C h k l =
    let x : n * d ≤ p * d = mul-le-mul_right d h in
    let y : (q + 1) * c ≤ m * c = mul-le-mul_right c (omega arith) in
    let z : (q + 1) * c ≡ q * c + 1 * c = add-mul q 1 c in
    let w : 1 * c ≡ c = one-mul c in
    omega arith

pub srnd_mono : (f : Format) (p n c q m d : ℕ) → 0 < c → 0 < d → p * d + m * c ≤ q * c + n * d → T (le (srnd f p n c) (srnd f q m d))
srnd_mono f p n c q m d C D h = go (nat_le n p) (nat_le m q) (leb→le n p) (nleb→lt n p) (leb→le m q) (nleb→lt m q)
  where
    reversed : p < n → q < m → (m - q) * c ≤ (n - p) * d
    reversed k l = differences m q d n p c (le_of_lt l) (le_of_lt k) (omega arith)

    go : (x y : Bool) → (T x → n ≤ p) → (T (not x) → p < n) → (T y → m ≤ q) → (T (not y) → q < m)
        → T (le (cond x (round f false (p - n) c) (round f true (n - p) c)) (cond y (round f false (q - m) d) (round f true (m - q) d)))
    go true true a b u v = round_mono f (p - n) c (q - m) d C D (differences p n c q m d (a tt) (u tt) h)
    go true false a b u v = absurd (crossed p n c q m d D C (a tt) (v tt) h)
    go false true a b u v =
        subst (λ (z : Float). T (le z (round f false (q - m) d))) (sym (round_neg f false (n - p) c))
        (minus_plus (round f false (n - p) c) (round f false (q - m) d) (round_plain f (n - p) c) (round_plain f (q - m) d))
    go false false a b u v =
        subst (λ (z : Float). T (le z (round f true (m - q) d))) (sym (round_neg f false (n - p) c))
        (subst (λ (z : Float). T (le (neg (round f false (n - p) c)) z)) (sym (round_neg f false (m - q) d))
        (neg_anti (round f false (m - q) d) (round f false (n - p) c) (round_mono f (m - q) d (n - p) c D C (reversed (b tt) (v tt)))))

-- ---- the order does not see the sign of a zero
zero_below : (u v d p n : ℕ) → 0 < d → u ≡ 0 → v ≡ 0 → u + n * d ≤ p * d + v → n ≤ p
zero_below u v d p n D z w h = le_of_mul-le-mul_right (omega arith) D

zero_above : (u v d p n : ℕ) → 0 < d → u ≡ 0 → v ≡ 0 → p * d + u ≤ v + n * d → p ≤ n
zero_above u v d p n D z w h = le_of_mul-le-mul_right (omega arith) D

strip_Le_l : {x y : Float} → Le x y → Le (strip x) y
unfolding strip
strip_Le_l {x = nan} {y} h = absurd h.first
strip_Le_l {x = inf s} {y} h = absurd h.first
strip_Le_l {x = fin true zero e} {y} h =
    let k : mi y ≤ pl y = zero_below (0 * den y) (0 * up e * den y) (down e) (pl y) (mi y) (down_pos e) (zero-mul (den y)) (zero_l (up e) (den y)) h.cross in
    record { first = tt; second = h.second; cross = omega arith }
strip_Le_l {x = fin false zero e} {y} h =
    let k : mi y ≤ pl y = zero_below (0 * up e * den y) (0 * den y) (down e) (pl y) (mi y) (down_pos e) (zero_l (up e) (den y)) (zero-mul (den y)) h.cross in
    record { first = tt; second = h.second; cross = omega arith }
strip_Le_l {x = fin s (suc m) e} {y} h = h

strip_Le_r : {x y : Float} → Le x y → Le x (strip y)
unfolding strip
strip_Le_r {x} {y = nan} h = absurd h.second
strip_Le_r {x} {y = inf s} h = absurd h.second
strip_Le_r {x} {y = fin true zero e} h =
    let k : pl x ≤ mi x = zero_above (0 * up e * den x) (0 * den x) (down e) (pl x) (mi x) (down_pos e) (zero_l (up e) (den x)) (zero-mul (den x)) h.cross in
    record { first = h.first; second = tt; cross = omega arith }
strip_Le_r {x} {y = fin false zero e} h =
    let k : pl x ≤ mi x = zero_above (0 * den x) (0 * up e * den x) (down e) (pl x) (mi x) (down_pos e) (zero-mul (den x)) (zero_l (up e) (den x)) h.cross in
    record { first = h.first; second = tt; cross = omega arith }
strip_Le_r {x} {y = fin s (suc m) e} h = h

unstrip_Le_l : (x : Float) {y : Float} → Le (strip x) y → Le x y
unfolding strip
unstrip_Le_l nan h = h
unstrip_Le_l (inf s) h = h
unstrip_Le_l (fin true zero e) {y} h =
    let k : mi y * down e ≤ pl y * down e = mul-le-mul_right (down e)
    (zero_below (0 * den y) (0 * den y) 1 (pl y) (mi y) (zero-lt-suc 0) (zero-mul (den y)) (zero-mul (den y)) h.cross) in
    let z : 0 * up e * den y ≡ 0 = zero_l (up e) (den y) in
    record { first = tt; second = h.second; cross = omega arith }
unstrip_Le_l (fin false zero e) {y} h =
    let k : mi y * down e ≤ pl y * down e = mul-le-mul_right (down e)
    (zero_below (0 * den y) (0 * den y) 1 (pl y) (mi y) (zero-lt-suc 0) (zero-mul (den y)) (zero-mul (den y)) h.cross) in
    let z : 0 * up e * den y ≡ 0 = zero_l (up e) (den y) in
    record { first = tt; second = h.second; cross = omega arith }
unstrip_Le_l (fin s (suc m) e) h = h

pub unstrip_Le_r : {x : Float} (y : Float) → Le x (strip y) → Le x y
unfolding strip
unstrip_Le_r nan h = h
unstrip_Le_r (inf s) h = h
unstrip_Le_r {x} (fin true zero e) h =
    let k : pl x * down e ≤ mi x * down e = mul-le-mul_right (down e)
    (zero_above (0 * den x) (0 * den x) 1 (pl x) (mi x) (zero-lt-suc 0) (zero-mul (den x)) (zero-mul (den x)) h.cross) in
    let z : 0 * up e * den x ≡ 0 = zero_l (up e) (den x) in
    record { first = h.first; second = tt; cross = omega arith }
unstrip_Le_r {x} (fin false zero e) h =
    let k : pl x * down e ≤ mi x * down e = mul-le-mul_right (down e)
    (zero_above (0 * den x) (0 * den x) 1 (pl x) (mi x) (zero-lt-suc 0) (zero-mul (den x)) (zero-mul (den x)) h.cross) in
    let z : 0 * up e * den x ≡ 0 = zero_l (up e) (den x) in
    record { first = h.first; second = tt; cross = omega arith }
unstrip_Le_r (fin s (suc m) e) h = h

le_strip : (x y : Float) → T (le x y) → T (le (strip x) (strip y))
unfolding strip le
le_strip nan y h = absurd h
le_strip (inf s) nan h = absurd h
le_strip (inf s) (inf t) h = h
le_strip (inf s) (fin t zero d) h = h
le_strip (inf s) (fin t (suc n) d) h = h
le_strip (fin s zero e) nan h = absurd h
le_strip (fin s (suc m) e) nan h = absurd h
le_strip (fin s zero e) (inf t) h = h
le_strip (fin s (suc m) e) (inf t) h = h
le_strip (fin s m e) (fin t n d) h = Le→le (strip_Le_l (strip_Le_r (le→Le (fin s m e) (fin t n d) tt tt h)))

finite_unstrip : (x : Float) → T (finite (strip x)) → T (finite x)
unfolding strip
finite_unstrip nan p = p
finite_unstrip (inf s) p = p
finite_unstrip (fin s zero e) p = tt
finite_unstrip (fin s (suc m) e) p = tt

finite_strip : (x : Float) → T (finite x) → T (finite (strip x))
unfolding strip
finite_strip nan p = p
finite_strip (inf s) p = p
finite_strip (fin s zero e) p = tt
finite_strip (fin s (suc m) e) p = tt

pub finite_alike : (x y : Float) → Alike x y → T (finite x) → T (finite y)
finite_alike x y h p = finite_unstrip y (subst (λ (z : Float). T (finite z)) h (finite_strip x p))

le_unstrip : (x y : Float) → T (le (strip x) (strip y)) → T (le x y)
unfolding strip le
le_unstrip nan y h = h
le_unstrip (inf s) nan h = h
le_unstrip (inf s) (inf t) h = h
le_unstrip (inf s) (fin t zero d) h = h
le_unstrip (inf s) (fin t (suc n) d) h = h
le_unstrip (fin s zero e) nan h = h
le_unstrip (fin s (suc m) e) nan h = h
le_unstrip (fin s zero e) (inf t) h = h
le_unstrip (fin s (suc m) e) (inf t) h = h
le_unstrip (fin s m e) (fin t n d) h =
    Le→le (unstrip_Le_l (fin s m e) (unstrip_Le_r (fin t n d)
    (le→Le (strip (fin s m e)) (strip (fin t n d)) (finite_strip (fin s m e) tt) (finite_strip (fin t n d) tt) h)))

pub le_alike : (x x' y y' : Float) → Alike x x' → Alike y y' → T (le x y) → T (le x' y')
le_alike x x' y y' p q h = le_unstrip x' y' (subst (λ (z : Float). T (le (strip x') z)) q (subst (λ (z : Float). T (le z (strip y))) p (le_strip x y h)))

-- ---- a sum is a rounded difference
pub signed_pos : (f : Format) (v p n c : ℕ) → p ≡ n + v → Alike (round f false v c) (srnd f p n c)
signed_pos f v p n c h = go (nat_le n p) (nleb→lt n p)
  where
    is : p - n ≡ v
    is = omega arith

    no_way : p < n → ⊥
    no_way k = omega arith

    go : (b : Bool) → (T (not b) → p < n) → Alike (round f false v c) (cond b (round f false (p - n) c) (round f true (n - p) c))
    go true k = ap (λ (z : ℕ). strip (round f false z c)) (sym is)
    go false k = absurd (no_way (k tt))

pub signed_neg : (f : Format) (v p n c : ℕ) → 0 < c → n ≡ p + v → Alike (round f true v c) (srnd f p n c)
signed_neg f v p n c C h = go (nat_le n p) (leb→le n p)
  where
    is : n - p ≡ v
    is = omega arith

    nil : n ≤ p → v ≡ 0
    nil k = omega arith

    nil' : n ≤ p → p - n ≡ 0
    nil' k = omega arith

    go : (b : Bool) → (T b → n ≤ p) → Alike (round f true v c) (cond b (round f false (p - n) c) (round f true (n - p) c))
    go true k = round_zero f true v c C (nil (k tt)) ∙ sym (round_zero f false (p - n) c C (nil' (k tt)))
    go false k = ap (λ (z : ℕ). strip (round f true z c)) (sym is)

pub sum_srnd : (f : Format) (s : Bool) (a : ℕ) (t : Bool) (b c p n : ℕ) → 0 < c → p + (cond s a 0 + cond t b 0) ≡ n + (cond s 0 a + cond t 0 b)
    → Alike (sum f s a t b c) (srnd f p n c)
unfolding sum
sum_srnd f false a false b c p n C h = signed_pos f (a + b) p n c (omega arith)
sum_srnd f true a true b c p n C h = signed_neg f (a + b) p n c C (omega arith)
sum_srnd f false a true b c p n C h = go (nat_lt a b) (ltb→lt a b) (nltb→le a b)
  where
    go : (x : Bool) → (T x → a < b) → (T (not x) → b ≤ a) → Alike (cond x (round f true (b - a) c) (round f false (a - b) c)) (srnd f p n c)
    go true k l = let u : a < b = k tt in signed_neg f (b - a) p n c C (omega arith)
    go false k l = let u : b ≤ a = l tt in signed_pos f (a - b) p n c (omega arith)
sum_srnd f true a false b c p n C h = go (nat_lt a b) (nat_lt b a) (ltb→lt a b) (nltb→le a b) (nltb→le b a)
  where
    go : (x y : Bool) → (T x → a < b) → (T (not x) → b ≤ a) → (T (not y) → a ≤ b)
        → Alike (cond x (round f false (b - a) c) (round f y (a - b) c)) (srnd f p n c)
    go true y k l m = let u : a < b = k tt in signed_pos f (b - a) p n c (omega arith)
    go false true k l m = let u : b ≤ a = l tt in signed_neg f (a - b) p n c C (omega arith)
    go false false k l m = let u : b ≤ a = l tt in let w : a ≤ b = m tt in signed_pos f (a - b) p n c (omega arith)

pub add_srnd : (f : Format) (x y : Float) → T (finite x) → T (finite y)
    → Alike (add f x y) (srnd f (pl x * den y + pl y * den x) (mi x * den y + mi y * den x) (den x * den y))
unfolding add
add_srnd f nan y p q = absurd p
add_srnd f (inf s) y p q = absurd p
add_srnd f (fin s m e) nan p q = absurd q
add_srnd f (fin s m e) (inf t) p q = absurd q
add_srnd f (fin s m e) (fin t n d) p q = go s t
  where
    C : 0 < down e * down d
    C = mul-pos (down_pos e) (down_pos d)

    go : (s t : Bool) → Alike (sum f s (m * up e * down d) t (n * up d * down e) (down e * down d))
        (srnd f (pl (fin s m e) * down d + pl (fin t n d) * down e) (mi (fin s m e) * down d + mi (fin t n d) * down e) (down e * down d))
    go true true = sum_srnd f true (m * up e * down d) true (n * up d * down e) (down e * down d)
        (pl (fin true m e) * down d + pl (fin true n d) * down e) (mi (fin true m e) * down d + mi (fin true n d) * down e) C (omega arith)
    go true false = sum_srnd f true (m * up e * down d) false (n * up d * down e) (down e * down d)
        (pl (fin true m e) * down d + pl (fin false n d) * down e) (mi (fin true m e) * down d + mi (fin false n d) * down e) C (omega arith)
    go false true = sum_srnd f false (m * up e * down d) true (n * up d * down e) (down e * down d)
        (pl (fin false m e) * down d + pl (fin true n d) * down e) (mi (fin false m e) * down d + mi (fin true n d) * down e) C (omega arith)
    go false false = sum_srnd f false (m * up e * down d) false (n * up d * down e) (down e * down d)
        (pl (fin false m e) * down d + pl (fin false n d) * down e) (mi (fin false m e) * down d + mi (fin false n d) * down e) C (omega arith)

-- ---- so `add` and `sub` keep the order
grow : (p n d p' n' d' q m e q' m' e' : ℕ) → p * d' + n' * d ≤ p' * d + n * d' → q * e' + m' * e ≤ q' * e + m * e'
    → (p * e + q * d) * (d' * e') + (n' * e' + m' * d') * (d * e) ≤ (p' * e' + q' * d') * (d * e) + (n * e + m * d) * (d' * e')
grow p n d p' n' d' q m e q' m' e' h k =
    let a : (p * d' + n' * d) * (e * e') ≤ (p' * d + n * d') * (e * e') = mul-le-mul_right (e * e') h in
    let b : (q * e' + m' * e) * (d * d') ≤ (q' * e + m * e') * (d * d') = mul-le-mul_right (d * d') k in
    let x1 : (p * e + q * d) * (d' * e') ≡ p * d' * (e * e') + q * e' * (d * d') = simp (add-mul, mul_assoc, mul_comm, mul_left_comm) in
    let x2 : (n' * e' + m' * d') * (d * e) ≡ n' * d * (e * e') + m' * e * (d * d') = simp (add-mul, mul_assoc, mul_comm, mul_left_comm) in
    let x3 : (p' * e' + q' * d') * (d * e) ≡ p' * d * (e * e') + q' * e * (d * d') = simp (add-mul, mul_assoc, mul_comm, mul_left_comm) in
    let x4 : (n * e + m * d) * (d' * e') ≡ n * d' * (e * e') + m * e' * (d * d') = simp (add-mul, mul_assoc, mul_comm, mul_left_comm) in
    let y1 : (p * d' + n' * d) * (e * e') ≡ p * d' * (e * e') + n' * d * (e * e') = add-mul (p * d') (n' * d) (e * e') in
    let y2 : (p' * d + n * d') * (e * e') ≡ p' * d * (e * e') + n * d' * (e * e') = add-mul (p' * d) (n * d') (e * e') in
    let y3 : (q * e' + m' * e) * (d * d') ≡ q * e' * (d * d') + m' * e * (d * d') = add-mul (q * e') (m' * e) (d * d') in
    let y4 : (q' * e + m * e') * (d * d') ≡ q' * e * (d * d') + m * e' * (d * d') = add-mul (q' * e) (m * e') (d * d') in
    omega arith

pub add_mono : (f : Format) {x x' y y' : Float} → Le x x' → Le y y' → T (le (add f x y) (add f x' y'))
add_mono f {x} {x'} {y} {y'} h k =
    le_alike (srnd f (pl x * den y + pl y * den x) (mi x * den y + mi y * den x) (den x * den y)) (add f x y)
    (srnd f (pl x' * den y' + pl y' * den x') (mi x' * den y' + mi y' * den x') (den x' * den y')) (add f x' y')
    (sym (add_srnd f x y h.first k.first)) (sym (add_srnd f x' y' h.second k.second))
    (srnd_mono f (pl x * den y + pl y * den x) (mi x * den y + mi y * den x) (den x * den y) (pl x' * den y' + pl y' * den x')
    (mi x' * den y' + mi y' * den x') (den x' * den y')
    (mul-pos (den_pos x) (den_pos y)) (mul-pos (den_pos x') (den_pos y'))
    (grow (pl x) (mi x) (den x) (pl x') (mi x') (den x') (pl y) (mi y) (den y) (pl y') (mi y') (den y') h.cross k.cross))

pub sub_mono : (f : Format) {x x' y y' : Float} → Le x x' → Le y' y → T (le (sub f x y) (sub f x' y'))
unfolding sub
sub_mono f h k = add_mono f h (neg_Le k)

-- ---- a product by what is not negative
mul_srnd : (f : Format) (x y : Float) → T (finite x) → T (finite y) → T (plain y) → Alike (mul f x y) (srnd f (pl x * num y) (mi x * num y) (den x * den y))
unfolding mul
mul_srnd f nan y p q r = absurd p
mul_srnd f (inf s) y p q r = absurd p
mul_srnd f (fin s m e) nan p q r = absurd q
mul_srnd f (fin s m e) (inf t) p q r = absurd q
mul_srnd f (fin s m e) (fin true n d) p q r = absurd r
mul_srnd f (fin true m e) (fin false n d) p q r = signed_neg f (m * up e * (n * up d)) (0 * (n * up d)) (m * up e * (n * up d)) (down e * down d)
    (mul-pos (down_pos e) (down_pos d)) (omega arith)
mul_srnd f (fin false m e) (fin false n d) p q r = signed_pos f (m * up e * (n * up d)) (m * up e * (n * up d)) (0 * (n * up d)) (down e * down d) (omega arith)

scale : (p n d p' n' d' u v : ℕ) → p * d' + n' * d ≤ p' * d + n * d' → p * u * (d' * v) + n' * u * (d * v) ≤ p' * u * (d * v) + n * u * (d' * v)
scale p n d p' n' d' u v h =
    let a : (p * d' + n' * d) * (u * v) ≤ (p' * d + n * d') * (u * v) = mul-le-mul_right (u * v) h in
    let y1 : (p * d' + n' * d) * (u * v) ≡ p * d' * (u * v) + n' * d * (u * v) = add-mul (p * d') (n' * d) (u * v) in
    let y2 : (p' * d + n * d') * (u * v) ≡ p' * d * (u * v) + n * d' * (u * v) = add-mul (p' * d) (n * d') (u * v) in
    let x1 : p * u * (d' * v) ≡ p * d' * (u * v) = simp (mul_assoc, mul_left_comm) in
    let x2 : n' * u * (d * v) ≡ n' * d * (u * v) = simp (mul_assoc, mul_comm, mul_left_comm) in
    let x3 : p' * u * (d * v) ≡ p' * d * (u * v) = simp (mul_assoc, mul_comm, mul_left_comm) in
    let x4 : n * u * (d' * v) ≡ n * d' * (u * v) = simp (mul_assoc, mul_left_comm) in
    omega arith

pub mul_mono_by : (f : Format) {x x' : Float} (y : Float) → T (finite y) → T (plain y) → Le x x' → T (le (mul f x y) (mul f x' y))
mul_mono_by f {x} {x'} y q r h =
    le_alike (srnd f (pl x * num y) (mi x * num y) (den x * den y)) (mul f x y) (srnd f (pl x' * num y) (mi x' * num y) (den x' * den y)) (mul f x' y)
    (sym (mul_srnd f x y h.first q r)) (sym (mul_srnd f x' y h.second q r))
    (srnd_mono f (pl x * num y) (mi x * num y) (den x * den y) (pl x' * num y) (mi x' * num y) (den x' * den y) (mul-pos (den_pos x) (den_pos y))
    (mul-pos (den_pos x') (den_pos y))
    (scale (pl x) (mi x) (den x) (pl x') (mi x') (den x') (num y) (den y) h.cross))

-- ---- a quotient by what is above zero
pub div_srnd : (f : Format) (x y : Float) → T (finite x) → T (finite y) → T (plain y) → 0 < num y
    → Alike (div f x y) (srnd f (pl x * den y) (mi x * den y) (den x * num y))
unfolding div
div_srnd f nan y p q r z = absurd p
div_srnd f (inf s) y p q r z = absurd p
div_srnd f (fin s m e) nan p q r z = absurd q
div_srnd f (fin s m e) (inf t) p q r z = absurd q
div_srnd f (fin s m e) (fin true n d) p q r z = absurd r
div_srnd f (fin s m e) (fin false n d) p q r z = go s (n == 0) (eqb→eq n 0)
  where
    order : n * up d * down e ≡ down e * (n * up d)
    order = mul_comm (n * up d) (down e)

    gone : n ≡ 0 → ⊥
    gone k = lt_irrefl 0 (subst (λ (v : ℕ). 0 < v) (ap (λ (v : ℕ). v * up d) k ∙ zero-mul (up d)) z)

    go : (s : Bool) (b : Bool) → (T b → n ≡ 0)
        → Alike (cond b (cond (m == 0) nan (inf (unlike s false))) (round f (unlike s false) (m * up e * down d) (n * up d * down e)))
        (srnd f (pl (fin s m e) * down d) (mi (fin s m e) * down d) (down e * (n * up d)))
    go s true k = absurd (gone (k tt))
    go true false k = ap (λ (v : ℕ). strip (round f true (m * up e * down d) v)) order
        ∙ signed_neg f (m * up e * down d) (0 * down d) (m * up e * down d) (down e * (n * up d)) (mul-pos (down_pos e) z) (omega arith)
    go false false k = ap (λ (v : ℕ). strip (round f false (m * up e * down d) v)) order
        ∙ signed_pos f (m * up e * down d) (m * up e * down d) (0 * down d) (down e * (n * up d)) (omega arith)

pub div_mono_by : (f : Format) {x x' : Float} (y : Float) → T (finite y) → T (plain y) → 0 < num y → Le x x' → T (le (div f x y) (div f x' y))
div_mono_by f {x} {x'} y q r z h =
    le_alike (srnd f (pl x * den y) (mi x * den y) (den x * num y)) (div f x y) (srnd f (pl x' * den y) (mi x' * den y) (den x' * num y)) (div f x' y)
    (sym (div_srnd f x y h.first q r z)) (sym (div_srnd f x' y h.second q r z))
    (srnd_mono f (pl x * den y) (mi x * den y) (den x * num y) (pl x' * den y) (mi x' * den y) (den x' * num y) (mul-pos (den_pos x) z) (mul-pos (den_pos x') z)
    (scale (pl x) (mi x) (den x) (pl x') (mi x') (den x') (den y) (num y) h.cross))
