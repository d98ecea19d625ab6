-- `float::trig::sin_cos` meets its contract: for |x| ≤ 32 the whole number of quarter turns fits 64 bits (`quarters-held`).
use Rattle.std.proofs.Common.{◌≡◌, ℕ, Bool, true, false, cond, ℤ, sym, refl, ap, ◌∙◌, w64, to_z, of_z}
use lib.Ieee.{Float, nan, binary64, add, sub, mul, le, of_int, of_bits}
use mir.ValLaws.{to_z-of_z}
use Rattle.float.specs.Number.{abs, floor_i64}
use Rattle.float.specs.Trig.{widest, quarters, reduced, quadrant, sine, cosine, by_quadrant, sin_cos}
use Rattle.float.specs.declared.trig.SinCos.{SinCos}
use Rattle.float.specs.Laws.Range.{abs_within}
use Rattle.float.specs.Laws.Reduce.{quad, quarters_held}
use Rattle.float.proofs.trig.sin_cos.Goals as goal

-- the code's constants
widest_is : of_bits binary64 0x4040_0000_0000_0000 ≡ widest
unfolding of_bits
widest_is = refl

quad_is : (x : Float) → add binary64 (mul binary64 x (of_bits binary64 0x3fe4_5f30_6dc9_c883)) (of_bits binary64 0x3fe0_0000_0000_0000) ≡ quad x
unfolding of_bits
quad_is x = refl

steps : Float → Float → Float
steps x f = sub binary64 (sub binary64 x (mul binary64 f (of_bits binary64 0x3ff9_21fb_5440_0000))) (mul binary64 f (of_bits binary64 0x3dd0_b461_1a62_6331))

steps_are : (x : Float) (k : ℤ) → steps x (of_int binary64 k) ≡ reduced k x
unfolding steps of_bits
steps_are x k = refl

test_is : (x a : Float) (b : Bool) → a ≡ abs x → le a (of_bits binary64 0x4040_0000_0000_0000) ≡ b → le (abs x) widest ≡ b
test_is x a b e t = (λ i. le (sym e i) (sym widest_is i)) ∙ t

-- the definition, with each call's result a variable
inside : (x a f s w : Float) (k : ℤ) (q : ℕ) (out : SinCos) → a ≡ abs x → le a (of_bits binary64 0x4040_0000_0000_0000) ≡ true
    → k ≡ floor_i64 (add binary64 (mul binary64 x (of_bits binary64 0x3fe4_5f30_6dc9_c883)) (of_bits binary64 0x3fe0_0000_0000_0000))
    → f ≡ of_int binary64 k → q ≡ quadrant k
    → s ≡ sine (steps x f) → w ≡ cosine (steps x f) → out ≡ by_quadrant q s w → out ≡ sin_cos x
unfolding sin_cos
inside x a f s w k q out ea t ek ef eq es ew eo =
    eo ∙ (λ i. by_quadrant (quarter i) ((es ∙ ap sine r) i) ((ew ∙ ap cosine r) i))
    ∙ sym (ap (λ (b : Bool). cond b (by_quadrant (quadrant (quarters x)) (sine (reduced (quarters x) x)) (cosine (reduced (quarters x) x)))
    (record { sine = nan; cosine = nan })) yes)
  where
    yes : le (abs x) widest ≡ true
    yes = test_is x a true ea t

    whole : k ≡ quarters x
    whole = ek ∙ ap floor_i64 (quad_is x) ∙ quarters_held x (abs_within widest x tt tt yes)

    quarter : q ≡ quadrant (quarters x)
    quarter = eq ∙ ap quadrant whole

    r : steps x f ≡ reduced (quarters x) x
    r = ap (steps x) (ef ∙ ap (of_int binary64) whole) ∙ steps_are x (quarters x)

pub returns-then-abs : goal.returns-then-abs
unfolding steps
returns-then-abs c =
    let read : to_z w64 (of_z w64 c.floor-k.result) ≡ c.floor-k.result = to_z-of_z w64 c.floor-k.result (record { sfits = c.floor-k.type_inv }) in
    inside c.args.x c.abs.result c.nearest_i64_to_f64-f.result c.sine.result c.cosine.result c.floor-k.result
    c.quadrant.result c.by_quadrant.result c.abs.ensures c.if-abs.true c.floor-k.ensures
    (c.nearest_i64_to_f64-f.ensures ∙ ap (of_int binary64) read) (c.quadrant.ensures ∙ ap quadrant read) c.sine.ensures c.cosine.ensures
    c.by_quadrant.ensures

pub returns : goal.returns
unfolding sin_cos of_bits
returns c = sym
    (ap (λ (b : Bool). cond b (by_quadrant (quadrant (quarters c.args.x))
    (sine (reduced (quarters c.args.x) c.args.x)) (cosine (reduced (quarters c.args.x) c.args.x)))
    (record { sine = nan; cosine = nan })) (test_is c.args.x c.abs.result false c.abs.ensures c.if-abs.false))
