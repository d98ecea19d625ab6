use Rattle.std.proofs.Common.{ℕ, ◌≡◌, refl, ◌∙◌, rules, Bool, true, false, ◌&&◌, List, [], ◌∷◌}
use Rattle.std.specs.List.{fold, list_all}
use Rattle.std.proofs.Math.Bool.{and_assoc}
use Rattle.std.proofs.lemmas.Iterator.{YieldsList-from_slice}
use Rattle.std.proofs.lemmas.Iterator.Consumers.{fold_from_yields_List}
use Rattle.digits.specs.Hex.{is_digit}
use Rattle.digits.proofs.hex.are_digits.Goals as goal

abbrev also : Bool → ℕ → Bool
also good b = good && is_digit b

all_by_fold : (good : Bool) (xs : List ℕ) → fold also good xs ≡ (good && list_all is_digit xs)
all_by_fold true [] = refl
all_by_fold false [] = refl
all_by_fold good (x ∷ xs) = all_by_fold (also good x) xs ∙ and_assoc good (is_digit x) (list_all is_digit xs)

pub returns : goal.returns
returns c =
    fold_from_yields_List _ also true c.fold.result c.fold.ensures.ran (YieldsList-from_slice c.args.bytes.now cc) (λ a x b q k. search rules)
    ∙ all_by_fold true c.args.bytes.now
