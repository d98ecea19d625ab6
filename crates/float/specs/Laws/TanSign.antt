-- The sign of a tangent: for |y| ≤ 101/128, tan y is not below zero where y is not, and not above where y is not. The steps are those of `Trigonometry`:
-- k is −1, 0 or 1, at 0 the sine has the sign of r and the cosine is above zero, at ±1 it is the other way round.
use Rattle.std.specs.Prelude.{◌≡◌, ℕ, zero, suc, ◌+◌, ◌-◌, ◌*◌, ◌<◌, ◌≤◌, Bool, true, false, cond, not, ◌&&◌, T, ℤ, pos, negsuc, nat_le, nat_lt, Float}
use Rattle.std.proofs.Common.{le_of_eq, le_refl, lt_of_lt_of_le, lt_irrefl, mul-pos, mul_comm, mul_assoc, zero-mul, zero-lt-suc, arith, sym, ap, ◌∙◌}
use Rattle.std.proofs.Common.{subst, le→leb, ltb→lt, lit≤}
use Rattle.std.proofs.Math.Nat.{sub_self}
use Rattle.std.proofs.Math.Path.{refl}
use Rattle.std.specs.Bool.{beq}
use Rattle.std.specs.Float.{nan, inf, fin, binary64}
use Rattle.std.specs.Float.Ieee.{up, down, round, neg, add, sub, mul, le, of_int}
use Rattle.std.specs.Float.Ieee.Fits.{and_i, down_pos, sub-fits}
use Rattle.std.specs.Float.Ieee.Scale.{finite}
use Rattle.std.specs.Float.Ieee.Positive.{num, den}
use Rattle.float.specs.Number.{◌⊕◌, ◌⊖◌, ◌⊗◌, ◌⊘◌, zero_float, one_float, two_float}
use Rattle.float.specs.Trig.{I, H, L, half, widest, quarters, reduced, sine_series, sine, cosine, tan}
use Rattle.float.specs.declared.trig.SinCos.{SinCos}
use Rattle.float.specs.Laws.Sign.{strip, Alike, round_zero, neg_neg}
use Rattle.float.specs.Promises.Order.{Le, Within}
use Rattle.float.specs.Laws.Le.{le→Le, Le→le, neg_Le, plain, add_mono, sub_mono, div_mono_by, le_alike, neg_finite, srnd, div_srnd}
use Rattle.float.specs.Laws.Within.{held, fits→held, mul_within, weaken, within→Le}
use Rattle.float.specs.Laws.Interval.{Le-refl, Le-trans, In, in_wider, in_self, within_in, add_in, sub_in, mul_in_by}
use Rattle.float.specs.Laws.Floor.{Floor, floor_is}
use Rattle.float.specs.Laws.Reduce.{quad, quad_finite, reduce_within}
use Rattle.float.specs.Laws.Sine.{per, sine_series_within, cosine_series_within, sine_within}
use Rattle.float.specs.Laws.Trigonometry.{tan_widest, quad_near, near_above, near_below, at_one, at_minus, at, sin_cos_is, tan_within}

-- ---- a product with what is within 1 is within the other factor
shrink : {x y : Float} → T (held binary64 x) → {X : Float} → Within x X → Within one_float y → Within x (X ⊗ y)
shrink {x} t h k =
    mul_within binary64 x
    (and_i (held binary64 x) (nat_le (num x * 1 * den x) (num x * (den x * 1))) t
    (le→leb (num x * 1 * den x) (num x * (den x * 1)) (le_of_eq (mul_assoc (num x) 1 (den x) ∙ ap (λ (z : ℕ). num x * z) (mul_comm 1 (den x))))))
    h k

self_within : (x : Float) → T (finite x) → Within x x
self_within x p = record { real = p; size = le_refl (num x * den x) }

-- ---- |t| ≤ |r|: t is no less than -r for r ≥ 0, and no more for r ≤ 0
zero_left : (a d : ℕ) → 0 < d → 0 * d + a * 1 ≤ 0 * 1 + 0 * d → a ≡ 0
zero_left a d D h = omega arith

zero_right : (a d : ℕ) → 0 < d → a * 1 + 0 * d ≤ 0 * d + 0 * 1 → a ≡ 0
zero_right a d D h = omega arith

none : (a d : ℕ) → a ≡ 0 → a * d ≡ 0
none a d h = ap (λ (v : ℕ). v * d) h ∙ zero-mul d

minus_below : (r t : Float) → Le zero_float r → Within r t → Le (neg r) t
unfolding neg
minus_below nan t z h = absurd z.second
minus_below (inf s) t z h = absurd z.second
minus_below (fin s m e) nan z h = absurd h.real
minus_below (fin s m e) (inf u) z h = absurd h.real
minus_below (fin false m e) (fin true n d) z h = record { first = tt; second = tt; cross = let k = h.size in omega arith }
minus_below (fin false m e) (fin false n d) z h = record { first = tt; second = tt; cross = omega arith }
minus_below (fin true m e) (fin true n d) z h =
    let b = none (m * up e) (down d) (zero_left (m * up e) (down e) (down_pos e) z.cross) in record
    { first = tt; second = tt; cross = let k = h.size in omega arith }
minus_below (fin true m e) (fin false n d) z h =
    let b = none (m * up e) (down d) (zero_left (m * up e) (down e) (down_pos e) z.cross) in record { first = tt; second = tt; cross = omega arith }

minus_above : (r t : Float) → Le r zero_float → Within r t → Le t (neg r)
unfolding neg
minus_above nan t z h = absurd z.first
minus_above (inf s) t z h = absurd z.first
minus_above (fin s m e) nan z h = absurd h.real
minus_above (fin s m e) (inf u) z h = absurd h.real
minus_above (fin true m e) (fin true n d) z h = record { first = tt; second = tt; cross = omega arith }
minus_above (fin true m e) (fin false n d) z h = record { first = tt; second = tt; cross = let k = h.size in omega arith }
minus_above (fin false m e) (fin true n d) z h =
    let b = none (m * up e) (down d) (zero_right (m * up e) (down e) (down_pos e) z.cross) in record { first = tt; second = tt; cross = omega arith }
minus_above (fin false m e) (fin false n d) z h =
    let b = none (m * up e) (down d) (zero_right (m * up e) (down e) (down_pos e) z.cross) in record
    { first = tt; second = tt; cross = let k = h.size in omega arith }

-- x - x is zero
add_self : (x : Float) → T (finite x) → Alike (x ⊕ neg x) zero_float
unfolding add neg strip
add_self nan p = absurd p
add_self (inf s) p = absurd p
add_self (fin s m e) p = go s (nat_lt (m * up e * down e) (m * up e * down e)) (ltb→lt (m * up e * down e) (m * up e * down e))
  where
    C : 0 < down e * down e
    C = mul-pos (down_pos e) (down_pos e)

    z : m * up e * down e - m * up e * down e ≡ 0
    z = sub_self (m * up e * down e)

    go : (s : Bool) (b : Bool) → (T b → m * up e * down e < m * up e * down e)
        → Alike (cond (beq s (not s)) (round binary64 s (m * up e * down e + m * up e * down e) (down e * down e))
        (cond b (round binary64 (not s) (m * up e * down e - m * up e * down e) (down e * down e))
        (round binary64 (s && nat_lt (m * up e * down e) (m * up e * down e)) (m * up e * down e - m * up e * down e) (down e * down e)))) zero_float
    go s true h = absurd (lt_irrefl (m * up e * down e) (h tt))
    go true false h = round_zero binary64 (true && nat_lt (m * up e * down e) (m * up e * down e)) (m * up e * down e - m * up e * down e) (down e * down e) C z
    go false false h = round_zero binary64 false (m * up e * down e - m * up e * down e) (down e * down e) C z

-- a sum r + t with |t| ≤ |r| has the sign of r
keeps_plus : (r t : Float) → Le zero_float r → Within r t → T (finite (r ⊕ t)) → Le zero_float (r ⊕ t)
keeps_plus r t z h f =
    le→Le zero_float (r ⊕ t) tt f (le_alike (r ⊕ neg r) zero_float (r ⊕ t) (r ⊕ t) (add_self r z.second) refl
    (add_mono binary64 (Le-refl r z.second) (minus_below r t z h)))

keeps_minus : (r t : Float) → Le r zero_float → Within r t → T (finite (r ⊕ t)) → Le (r ⊕ t) zero_float
keeps_minus r t z h f =
    le→Le (r ⊕ t) zero_float f tt (le_alike (r ⊕ t) (r ⊕ t) (r ⊕ neg r) zero_float refl (add_self r z.first)
    (add_mono binary64 (Le-refl r z.first) (minus_above r t z h)))

-- ---- the sine has the sign of r
sine_rest : (r : Float) → T (held binary64 r) → Within one_float r → Within r ((r ⊗ (r ⊗ r)) ⊗ sine_series (r ⊗ r))
sine_rest r t h =
    let z : Within one_float (r ⊗ r) = mul_within binary64 one_float tt h h in
    shrink t (shrink t (self_within r h.real) z) (weaken one_float tt (sine_series_within (r ⊗ r) z))

sine_plus : (r : Float) → T (held binary64 r) → Within one_float r → Le zero_float r → Le zero_float (sine r)
unfolding sine
sine_plus r t h z = keeps_plus r ((r ⊗ (r ⊗ r)) ⊗ sine_series (r ⊗ r)) z (sine_rest r t h) (sine_within r h).real

sine_minus : (r : Float) → T (held binary64 r) → Within one_float r → Le r zero_float → Le (sine r) zero_float
unfolding sine
sine_minus r t h z = keeps_minus r ((r ⊗ (r ⊗ r)) ⊗ sine_series (r ⊗ r)) z (sine_rest r t h) (sine_within r h).real

-- ---- the cosine is above zero
cosine_in : (r : Float) → Within one_float r → In (per 7 4) (per 25 4) (cosine r)
unfolding cosine neg add le
cosine_in r h =
    let z : Within one_float (r ⊗ r) = mul_within binary64 one_float tt h h in
    in_wider (per 7 4) (per 25 4) tt (add_in binary64 tt (in_self one_float tt)
    (within_in tt tt (mul_within binary64 (per 9 4) tt z (cosine_series_within (r ⊗ r) z))))

-- ---- the sine at 3/4 to 203/256 is at least 1/2, and the other way round
sine_steep : (r : Float) → Within (per 203 8) r → Within (per 3 5) ((r ⊗ (r ⊗ r)) ⊗ sine_series (r ⊗ r))
sine_steep r h =
    let z : Within (per 161 8) (r ⊗ r) = mul_within binary64 (per 161 8) tt h h in
    mul_within binary64 (per 3 5) tt (mul_within binary64 (per 1 1) tt h z) (sine_series_within (r ⊗ r) (weaken one_float tt z))

sine_high : (r : Float) → Within (per 203 8) r → Le (per 3 2) r → Le (per 1 1) (sine r)
unfolding sine neg add le
sine_high r h l =
    (in_wider (per 1 1) (fin false 2 (pos 0)) tt (add_in binary64 tt (record { lower = l; upper = (within→Le tt tt h).0 })
    (within_in tt tt (sine_steep r h)))).lower

sine_deep : (r : Float) → Within (per 203 8) r → Le r (neg (per 3 2)) → Le (sine r) (neg (per 1 1))
unfolding sine neg add le
sine_deep r h l =
    (in_wider (fin true 2 (pos 0)) (fin true 1 (negsuc 0)) tt
    (add_in binary64 tt (record { lower = (within→Le tt tt h).1; upper = l }) (within_in tt tt (sine_steep r h)))).upper

-- ---- the sign of a quotient by what is B or more, above zero
above : (B x : Float) → T (plain B) → 0 < num B → Le B x → T (plain x) × (0 < num x)
above nan x p q h = absurd p
above (inf s) x p q h = absurd h.first
above (fin true m e) x p q h = absurd p
above (fin false m e) nan p q h = absurd h.second
above (fin false m e) (inf s) p q h = absurd h.second
above (fin false m e) (fin true n d) p q h = absurd (lt_irrefl 0 (lt_of_lt_of_le (mul-pos q (down_pos d)) (let k = h.cross in omega arith)))
above (fin false m e) (fin false n d) p q h = (tt, go (n * up d) (lt_of_lt_of_le (mul-pos q (down_pos d)) (let k = h.cross in omega arith)))
  where
    go : (v : ℕ) → 0 < v * down e → 0 < v
    go zero k = absurd (lt_irrefl 0 (lt_of_lt_of_le k (le_of_eq (zero-mul (down e)))))
    go (suc v) k = zero-lt-suc v

zero_div : (y : Float) → T (plain y) → T (finite y) → 0 < num y → Alike (zero_float ⊘ y) zero_float
zero_div y p q z = div_srnd binary64 zero_float y tt q p z ∙ srnd_zero (den y) (1 * num y) (mul-pos (zero-lt-suc 0) z)
  where
    srnd_zero : (d c : ℕ) → 0 < c → Alike (srnd binary64 (0 * d) (0 * d) c) zero_float
    srnd_zero d c C = ap (λ (v : ℕ). strip (srnd binary64 v v c)) (zero-mul d) ∙ round_zero binary64 false (0 - 0) c C refl ∙ unfold strip in refl

pub div_plus : (B x y : Float) → T (plain B) → 0 < num B → Le B y → T (finite (x ⊘ y)) → Le zero_float x → Le zero_float (x ⊘ y)
div_plus B x y b c l f h =
    let p = above B y b c l in
    le→Le zero_float (x ⊘ y) tt f (le_alike (zero_float ⊘ y) zero_float (x ⊘ y) (x ⊘ y) (zero_div y p.0 l.second p.1) refl
    (div_mono_by binary64 y l.second p.0 p.1 h))

pub div_minus : (B x y : Float) → T (plain B) → 0 < num B → Le B y → T (finite (x ⊘ y)) → Le x zero_float → Le (x ⊘ y) zero_float
div_minus B x y b c l f h =
    let p = above B y b c l in
    le→Le (x ⊘ y) zero_float f tt (le_alike (x ⊘ y) (x ⊘ y) (zero_float ⊘ y) zero_float refl (zero_div y p.0 l.second p.1)
    (div_mono_by binary64 y l.second p.0 p.1 h))

-- ---- at k = 0 the reduced value has the sign of y, and x·I + 0.5 lies on the same side of 1/2
reduced_plus : (y : Float) → Within tan_widest y → Le zero_float y → Le zero_float (reduced (pos 0) y)
unfolding neg sub mul le of_int
reduced_plus y h z =
    (in_wider zero_float one_float tt (sub_in binary64 tt (sub_in binary64 tt (record { lower = z; upper = (within→Le tt tt h).0 })
    (in_self (of_int binary64 (pos 0) ⊗ H) tt)) (in_self (of_int binary64 (pos 0) ⊗ L) tt))).lower

reduced_minus : (y : Float) → Within tan_widest y → Le y zero_float → Le (reduced (pos 0) y) zero_float
unfolding neg sub mul le of_int
reduced_minus y h z =
    (in_wider (fin true 1 (pos 0)) zero_float tt (sub_in binary64 tt
    (sub_in binary64 tt (record { lower = (within→Le tt tt h).1; upper = z }) (in_self (of_int binary64 (pos 0) ⊗ H) tt))
    (in_self (of_int binary64 (pos 0) ⊗ L) tt))).upper

quad_plus : (y : Float) → Within tan_widest y → Le zero_float y → Le half (quad y)
unfolding neg add mul le
quad_plus y h z =
    (in_wider half (fin false 2 (pos 0)) tt (add_in binary64 tt (mul_in_by binary64 I tt tt (record { lower = z; upper = (within→Le tt tt h).0 }))
    (in_self half tt))).lower

quad_minus : (y : Float) → Within tan_widest y → Le y zero_float → Le (quad y) half
unfolding neg add mul le
quad_minus y h z =
    (in_wider (fin true 2 (pos 0)) half tt (add_in binary64 tt (mul_in_by binary64 I tt tt (record { lower = (within→Le tt tt h).1; upper = z }))
    (in_self half tt))).upper

held_reduced : (k : ℤ) (y : Float) → T (finite (reduced k y)) → T (held binary64 (reduced k y))
held_reduced k y f = fits→held binary64 (reduced k y) (sub-fits binary64 (y ⊖ of_int binary64 k ⊗ H) (of_int binary64 k ⊗ L)) f

cosine_plus : (r : Float) → Within one_float r → Le zero_float (cosine r)
cosine_plus r h = Le-trans (record { first = tt; second = tt; cross = lit≤ tt }) (cosine_in r h).lower

minus_zero : (x : Float) → Le zero_float x → Le (neg x) zero_float
minus_zero x h =
    le→Le (neg x) zero_float (neg_finite x h.second) tt (le_alike (neg x) (neg x) (neg zero_float) zero_float refl (unfold neg strip in refl)
    (Le→le (neg_Le h)))

-- ---- the laws
plus_at : (k : ℤ) (y : Float) → Within tan_widest y → Le zero_float y → Floor (quad y) k → T (finite ((at k y).sine ⊘ (at k y).cosine))
    → Le zero_float ((at k y).sine ⊘ (at k y).cosine)
plus_at (pos zero) y h z fl f =
    let r = reduced (pos 0) y in
    let w = weaken one_float tt (reduce_within y (pos 0) (weaken widest tt h) fl) in
    div_plus (per 7 4) (sine r) (cosine r) tt (zero-lt-suc 6) (cosine_in r w).lower f (sine_plus r (held_reduced (pos 0) y w.real) w (reduced_plus y h z))
plus_at (pos (suc zero)) y h z fl f =
    let r = reduced (pos 1) y in
    let w = reduce_within y (pos 1) (weaken widest tt h) fl in
    let s : Le (per 1 1) (neg (sine r)) = subst (λ (x : Float). Le x (neg (sine r))) (neg_neg (per 1 1)) (neg_Le (sine_deep r w (at_one y h))) in
    div_plus (per 1 1) (cosine r) (neg (sine r)) tt (zero-lt-suc 0) s f (cosine_plus r (weaken one_float tt w))
plus_at (pos (suc (suc n))) y h z fl f = absurd (lt_irrefl 0 (let l = near_above (suc (suc n)) (quad y) fl.reached (quad_near y h).upper in omega arith))
plus_at (negsuc zero) y h z fl f = absurd (fl.last (Le-trans (record { first = tt; second = tt; cross = lit≤ tt }) (quad_plus y h z)))
plus_at (negsuc (suc n)) y h z fl f = absurd (near_below n (quad y) fl.last (quad_near y h).lower)

minus_at : (k : ℤ) (y : Float) → Within tan_widest y → Le y zero_float → Floor (quad y) k → T (finite ((at k y).sine ⊘ (at k y).cosine))
    → Le ((at k y).sine ⊘ (at k y).cosine) zero_float
minus_at (pos zero) y h z fl f =
    let r = reduced (pos 0) y in
    let w = weaken one_float tt (reduce_within y (pos 0) (weaken widest tt h) fl) in
    div_minus (per 7 4) (sine r) (cosine r) tt (zero-lt-suc 6) (cosine_in r w).lower f
    (sine_minus r (held_reduced (pos 0) y w.real) w (reduced_minus y h z))
minus_at (pos (suc n)) y h z fl f = absurd (lt_irrefl 0 (let l = (Le-trans fl.reached (quad_minus y h z)).cross in omega arith))
minus_at (negsuc zero) y h z fl f =
    let r = reduced (negsuc 0) y in
    let w = reduce_within y (negsuc 0) (weaken widest tt h) fl in
    div_minus (per 1 1) (neg (cosine r)) (sine r) tt (zero-lt-suc 0) (sine_high r w (at_minus y h)) f
    (minus_zero (cosine r) (cosine_plus r (weaken one_float tt w)))
minus_at (negsuc (suc n)) y h z fl f = absurd (near_below n (quad y) fl.last (quad_near y h).lower)

tan_is : (y : Float) → Within tan_widest y → tan y ≡ (at (quarters y) y).sine ⊘ (at (quarters y) y).cosine
unfolding tan
tan_is y h = ap (λ (c : SinCos). c.sine ⊘ c.cosine) (sin_cos_is y (weaken widest tt h))

tan_finite : (y : Float) → Within tan_widest y → T (finite ((at (quarters y) y).sine ⊘ (at (quarters y) y).cosine))
tan_finite y h = subst (λ (x : Float). T (finite x)) (tan_is y h) (tan_within y h).real

pub tan_plus : (y : Float) → Within tan_widest y → Le zero_float y → Le zero_float (tan y)
tan_plus y h z =
    subst (λ (x : Float). Le zero_float x) (sym (tan_is y h))
    (plus_at (quarters y) y h z (floor_is (quad y) (quad_finite y (weaken widest tt h))) (tan_finite y h))

pub tan_minus : (y : Float) → Within tan_widest y → Le y zero_float → Le (tan y) zero_float
tan_minus y h z =
    subst (λ (x : Float). Le x zero_float) (sym (tan_is y h))
    (minus_at (quarters y) y h z (floor_is (quad y) (quad_finite y (weaken widest tt h))) (tan_finite y h))

-- ---- half a difference has the difference's sign
sub_same : (x : Float) → T (finite x) → Alike (x ⊖ x) zero_float
unfolding sub
sub_same x p = add_self x p

pub half_plus : (x o : Float) → T (finite (x ⊖ o)) → T (finite ((x ⊖ o) ⊘ two_float)) → Le o x → Le zero_float ((x ⊖ o) ⊘ two_float)
half_plus x o f g h =
    div_plus two_float (x ⊖ o) two_float tt (zero-lt-suc 1) (Le-refl two_float tt) g
    (le→Le zero_float (x ⊖ o) tt f (le_alike (o ⊖ o) zero_float (x ⊖ o) (x ⊖ o) (sub_same o h.first) refl (sub_mono binary64 h (Le-refl o h.first))))

pub half_minus : (x o : Float) → T (finite (x ⊖ o)) → T (finite ((x ⊖ o) ⊘ two_float)) → Le x o → Le ((x ⊖ o) ⊘ two_float) zero_float
half_minus x o f g h =
    div_minus two_float (x ⊖ o) two_float tt (zero-lt-suc 1) (Le-refl two_float tt) g
    (le→Le (x ⊖ o) zero_float f tt (le_alike (x ⊖ o) (x ⊖ o) (o ⊖ o) zero_float refl (sub_same o h.second) (sub_mono binary64 h (Le-refl o h.second))))
