-- A polynomial without the zeros at its end, by its last coefficient.
use mathlib.Core.Path.{◌≡◌, refl, ap, ◌∙◌}
use mathlib.Core.Bool.{true, false}
use mathlib.Core.List.{List, [], ◌∷◌, ◌++◌}
use Rattle.polynomial.specs.Compensated.{is_zero}
use Rattle.polynomial.specs.Polynomial.{kept, trim}
use Rattle.polynomial.specs.declared.compensated.Compensated.{Compensated}

pub trim_zero : (l : List Compensated) (c : Compensated) → is_zero c ≡ true → trim (l ++ (c ∷ [])) ≡ trim l
unfolding trim kept
trim_zero [] c e = simp e
trim_zero (b ∷ bs) c e = ap (kept b) (trim_zero bs c e)

kept_all : (b : Compensated) (l : List Compensated) (c : Compensated) → kept b (l ++ (c ∷ [])) ≡ b ∷ (l ++ (c ∷ []))
unfolding kept
kept_all b [] c = refl
kept_all b (d ∷ ds) c = refl

pub trim_more : (l : List Compensated) (c : Compensated) → is_zero c ≡ false → trim (l ++ (c ∷ [])) ≡ l ++ (c ∷ [])
unfolding trim kept
trim_more [] c e = simp e
trim_more (b ∷ bs) c e = ap (kept b) (trim_more bs c e) ∙ kept_all b bs c
