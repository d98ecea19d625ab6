-- Intervals of values, signs included: `In lo hi x` says that x is finite and lo ≤ x ≤ hi. Each
-- rule takes the ends of the operands' intervals to the ends of the result's,
-- which for numerals `tt` computes (the declaration says `unfolding add` and so on). The ends asked for may be wider than those computed.
use Rattle.std.specs.Prelude.{◌≡◌, ℕ, ◌+◌, ◌*◌, ◌<◌, ◌≤◌, Bool, true, false, not, ◌&&◌, T, ◌⊎◌, nat_le, Float}
use Rattle.std.proofs.Common.{ap, ◌∙◌, le_refl, le_of_lt, le_of_mul-le-mul_right, mul-le-mul_right, add-mul, mul_right_comm, arith, inl, inr, leb→le}
use Rattle.std.proofs.Math.Dec.{nleb→lt}
use Rattle.std.specs.Float.{nan, inf, fin, Format}
use Rattle.std.specs.Float.Ieee.{neg, add, sub, mul, le}
use Rattle.std.specs.Float.Ieee.Fits.{and_l, and_r}
use Rattle.std.specs.Float.Ieee.Scale.{finite}
use Rattle.std.specs.Float.Ieee.Positive.{den, den_pos}
use Rattle.float.specs.Promises.Order.{pl, mi, Le}
use Rattle.float.specs.Laws.Le.{le→Le, plain, add_mono, sub_mono, mul_mono_by}
use Rattle.float.specs.Promises.Order.{Within}
use Rattle.float.specs.Laws.Within.{Le→within, within→Le}

-- ---- the order is an order
pub Le-refl : (x : Float) → T (finite x) → Le x x
Le-refl x p = record { first = p; second = p; cross = le_refl (pl x * den x + mi x * den x) }

chain : (px nx dx py ny dy pz nz dz : ℕ) → 0 < dy → px * dy + ny * dx ≤ py * dx + nx * dy → py * dz + nz * dy ≤ pz * dy + ny * dz
    → px * dz + nz * dx ≤ pz * dx + nx * dz
chain px nx dx py ny dy pz nz dz D h k =
    let a : (px * dy + ny * dx) * dz ≤ (py * dx + nx * dy) * dz = mul-le-mul_right dz h in
    let b : (py * dz + nz * dy) * dx ≤ (pz * dy + ny * dz) * dx = mul-le-mul_right dx k in
    let a1 : (px * dy + ny * dx) * dz ≡ px * dz * dy + ny * dx * dz = add-mul (px * dy) (ny * dx) dz
    ∙ ap (λ (z : ℕ). z + ny * dx * dz) (mul_right_comm px dy dz) in
    let a2 : (py * dx + nx * dy) * dz ≡ py * dx * dz + nx * dz * dy = add-mul (py * dx) (nx * dy) dz
    ∙ ap (λ (z : ℕ). py * dx * dz + z) (mul_right_comm nx dy dz) in
    let b1 : (py * dz + nz * dy) * dx ≡ py * dx * dz + nz * dx * dy = add-mul (py * dz) (nz * dy) dx
    ∙ ap (λ (z : ℕ). z + nz * dy * dx) (mul_right_comm py dz dx) ∙ ap (λ (z : ℕ). py * dx * dz + z) (mul_right_comm nz dy dx) in
    let b2 : (pz * dy + ny * dz) * dx ≡ pz * dx * dy + ny * dx * dz = add-mul (pz * dy) (ny * dz) dx
    ∙ ap (λ (z : ℕ). z + ny * dz * dx) (mul_right_comm pz dy dx) ∙ ap (λ (z : ℕ). pz * dx * dy + z) (mul_right_comm ny dz dx) in
    let c1 : (px * dz + nz * dx) * dy ≡ px * dz * dy + nz * dx * dy = add-mul (px * dz) (nz * dx) dy in
    let c2 : (pz * dx + nx * dz) * dy ≡ pz * dx * dy + nx * dz * dy = add-mul (pz * dx) (nx * dz) dy in
    let s : (px * dz + nz * dx) * dy ≤ (pz * dx + nx * dz) * dy = omega arith in
    le_of_mul-le-mul_right s D

pub Le-trans : {x y z : Float} → Le x y → Le y z → Le x z
Le-trans {x} {y} {z} h k =
    record {
      first = h.first;
      second = k.second;
      cross = chain (pl x) (mi x) (den x) (pl y) (mi y) (den y) (pl z) (mi z) (den z) (den_pos y)
          h.cross k.cross;
    }

pub Le-total : (x y : Float) → T (finite x) → T (finite y) → Le x y ⊎ Le y x
Le-total x y p q = go (nat_le l r) (leb→le l r) (nleb→lt l r)
  where
    l : ℕ
    l = pl x * den y + mi y * den x

    r : ℕ
    r = pl y * den x + mi x * den y

    go : (b : Bool) → (T b → pl x * den y + mi y * den x ≤ pl y * den x + mi x * den y)
        → (T (not b) → pl y * den x + mi x * den y < pl x * den y + mi y * den x) → Le x y ⊎ Le y x
    go true a b = inl (record { first = p; second = q; cross = a tt })
    go false a b = inr (record { first = q; second = p; cross = le_of_lt (b tt) })

pub between_finite : (a x b : Float) → T (finite a) → T (finite b) → T (le a x) → T (le x b) → T (finite x)
unfolding le
between_finite nan x b p q h k = absurd p
between_finite (inf s) x b p q h k = absurd p
between_finite (fin s m e) nan b p q h k = absurd h
between_finite (fin s m e) (inf true) b p q h k = absurd h
between_finite (fin s m e) (inf false) nan p q h k = absurd q
between_finite (fin s m e) (inf false) (inf t) p q h k = absurd q
between_finite (fin s m e) (inf false) (fin t n d) p q h k = absurd k
between_finite (fin s m e) (fin t n d) b p q h k = tt

-- ---- intervals
pub record In (lo hi x : Float) : Type 0 where
  pub lower : Le lo x
  pub upper : Le x hi

pub in_of : (lo hi x : Float) → T (finite lo && finite hi) → T (le lo x) → T (le x hi) → In lo hi x
in_of lo hi x t h k =
    let p = and_l (finite lo) (finite hi) t in
    let q = and_r (finite lo) (finite hi) t in
    let r = between_finite lo x hi p q h k in
    record { lower = le→Le lo x p r h; upper = le→Le x hi r q k }

pub in_self : (x : Float) → T (finite x) → In x x x
in_self x p = record { lower = Le-refl x p; upper = Le-refl x p }

-- a wider interval; the test for numerals
abbrev pub wider : Float → Float → Float → Float → Bool
wider lo hi lo' hi' = (finite lo && finite hi) && ((finite lo' && finite hi') && (le lo' lo && le hi hi'))

pub in_wider : (lo' hi' : Float) {lo hi x : Float} → T (wider lo hi lo' hi') → In lo hi x → In lo' hi' x
in_wider lo' hi' {lo} {hi} t h =
    let a = finite lo && finite hi in
    let b = finite lo' && finite hi' in
    let c = le lo' lo && le hi hi' in
    let ta = and_l a (b && c) t in
    let tb = and_l b c (and_r a (b && c) t) in
    let tc = and_r b c (and_r a (b && c) t) in
    record {
      lower = Le-trans (le→Le lo' lo (and_l (finite lo') (finite hi') tb) (and_l (finite lo) (finite hi) ta) (and_l (le lo' lo) (le hi hi') tc)) h.lower;
      upper = Le-trans h.upper (le→Le hi hi' (and_r (finite lo) (finite hi) ta) (and_r (finite lo') (finite hi') tb) (and_r (le lo' lo) (le hi hi') tc));
    }

pub add_in : (f : Format) {a b c d x y : Float} → T (finite (add f a c) && finite (add f b d)) → In a b x → In c d y → In (add f a c) (add f b d) (add f x y)
add_in f {a} {b} {c} {d} {x} {y} t h k = in_of (add f a c) (add f b d) (add f x y) t (add_mono f h.lower k.lower) (add_mono f h.upper k.upper)

pub sub_in : (f : Format) {a b c d x y : Float} → T (finite (sub f a d) && finite (sub f b c)) → In a b x → In c d y → In (sub f a d) (sub f b c) (sub f x y)
sub_in f {a} {b} {c} {d} {x} {y} t h k = in_of (sub f a d) (sub f b c) (sub f x y) t (sub_mono f h.lower k.upper) (sub_mono f h.upper k.lower)

pub mul_in_by : (f : Format) (y : Float) {a b x : Float} → T (finite y && plain y) → T (finite (mul f a y) && finite (mul f b y)) → In a b x
    → In (mul f a y) (mul f b y) (mul f x y)
mul_in_by f y {a} {b} {x} p t h =
    in_of (mul f a y) (mul f b y) (mul f x y) t (mul_mono_by f y (and_l (finite y) (plain y) p) (and_r (finite y) (plain y) p) h.lower)
    (mul_mono_by f y (and_l (finite y) (plain y) p) (and_r (finite y) (plain y) p) h.upper)

pub in_within : {B x : Float} → T (plain B) → In (neg B) B x → Within B x
in_within q h = Le→within q h.upper h.lower

pub within_in : {B x : Float} → T (finite B) → T (plain B) → Within B x → In (neg B) B x
within_in p q h = let k = within→Le p q h in record { lower = k.1; upper = k.0 }
