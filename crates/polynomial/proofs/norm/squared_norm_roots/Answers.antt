-- `polynomial::norm::squared_norm_roots` meets its contract.
use native.Mathlib.Omega.{arith}
use mathlib.Core.Path.{◌≡◌, sym, ap, ap₂, ◌∙◌}
use mathlib.Core.List.{List, []}
use lib.ListN.{length}
use lib.Ieee.{Float, binary64, neg, of_bits}
use Rattle.float.specs.Number.{zero_float}
use Rattle.float.specs.Trig.{P}
use Rattle.float.specs.Laws.Zero.{zero_bits}
use Rattle.float.specs.Laws.Literals.{P-bits}
use Rattle.polynomial.specs.Curve.{half_roots}
use Rattle.polynomial.specs.declared.curve.Harmonic.{Harmonic}
use Rattle.polynomial.specs.Promises.Norm.{put_all}
use Rattle.polynomial.proofs.roots.Kept.{front_same}
use Rattle.polynomial.proofs.norm.Sides.{left_room, both_halves}
use Rattle.polynomial.proofs.norm.squared_norm_roots.Goals as goal

-- the halves by the code's numbers
left : (x y : Harmonic) (norm : Float) → put_all (half_roots x y norm (neg P) zero_float) []
    ≡ put_all (half_roots x y norm (neg (of_bits binary64 0x4009_21fb_5444_2d18)) (of_bits binary64 0)) []
left x y norm = ap₂ (λ (p z : Float). put_all (half_roots x y norm (neg p) z) []) (sym P-bits) (sym zero_bits)

right : (x y : Harmonic) (norm : Float) (l : List Float) → put_all (half_roots x y norm zero_float P) l
    ≡ put_all (half_roots x y norm (of_bits binary64 0) (of_bits binary64 0x4009_21fb_5444_2d18)) l
right x y norm l = ap₂ (λ (z p : Float). put_all (half_roots x y norm z p) l) (sym zero_bits) (sym P-bits)

pub half_roots-requires : goal.half_roots-requires
half_roots-requires c =
    let a = c.args in
    let k = left_room a.x a.y a.norm c.half_roots-k.result (c.half_roots-k.ensures.0 ∙ sym (ap length (left a.x a.y a.norm))) in
    let o = c.half_roots-k.auto.out in
    omega arith

pub returns : goal.returns
returns c =
    let a = c.args in
    let all = both_halves a.x a.y a.norm a.out.now _ _ c.half_roots-k.result c.half_roots.result
    (front_same _ _ _ _ c.half_roots-k.ensures _ (left a.x a.y a.norm)) (front_same _ _ _ _ c.half_roots.ensures _ (right a.x a.y a.norm _)) in
    record { value = all.0; out_after = all.1 }
