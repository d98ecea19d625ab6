-- An operand in its halves is still that operand; where the halves serve, they are those of the operand itself, and of whatever equals it.
use Rattle.std.specs.Prelude.{◌≡◌, true, refl, Float}
use Rattle.std.proofs.Common.{sym, subst, ap, ◌∙◌}
use Rattle.float.specs.Promises.Halves.{in_range, least_halved, halves, Halved}
use Rattle.float.specs.declared.product_error.Halves.{Halves}
use Rattle.float.specs.declared.product_error.HalvedOperand.{HalvedOperand}

whole_is : (x : Float) → (halves x).whole ≡ x
unfolding halves
whole_is x = refl

pub whole_of : (h : HalvedOperand) (x : Float) → h ≡ halves x → h.whole ≡ x
whole_of h x e = ap (λ (k : HalvedOperand). k.whole) e ∙ whole_is x

pub halved_whole : (h : HalvedOperand) (x : Float) → h ≡ halves x → h ≡ halves h.whole
halved_whole h x e = e ∙ ap halves (sym (whole_of h x e))

-- what a product by halves asks
pub served_whole : (h : Halves) → Halved h.whole h.high h.low
served_whole h = h.halved

pub served_of : (h : Halves) (x : Float) → h.whole ≡ x → Halved x h.high h.low
served_of h x e = subst (λ (w : Float). Halved w h.high h.low) e h.halved

pub whole_served : (h : Halves) → in_range least_halved h.whole ≡ true
whole_served h = h.halved.serve
