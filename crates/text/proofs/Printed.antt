-- The decimal of a number of 64 bits is what `write!` prints of it, and what one write after another writes.
use Rattle.std.proofs.Common.{ℕ, zero, suc, ◌/◌, ◌^◌, ◌≤◌, ◌<◌, ◌≡◌, arith, sym, ◌∙◌}
use Rattle.std.specs.Prelude.{List, ◌++◌, Ok, Err, OnOk}
use Rattle.std.specs.declared.option.Option.{Option}
use Rattle.std.specs.declared.result.Result.{Result}
use Rattle.std.specs.Fmt.{decimal}
use Rattle.std.specs.Result.{result_and}
use Rattle.std.specs.Io.KnownBytes.{Appends}
use Rattle.std.proofs.KnownBytes.{Appends-trans}
use Rattle.std.proofs.lemmas.Fmt.{decimal_digit, decimal_step}
use Rattle.digits.specs.Decimal.{figures, whole}
use Rattle.digits.specs.Laws.Lengths.{by_ten, figures_one, figures_more}

figures_are : (most n : ℕ) → n ≤ most → n < 2 ^ 64 → figures most n ≡ decimal n
figures_are zero n l h =
    let one : n < 10 = omega arith in
    figures_one zero n one ∙ sym (decimal_digit n one)
figures_are (suc most) n l h =
    by_ten n (λ one. figures_one (suc most) n one ∙ sym (decimal_digit n one))
    (λ more. figures_more most n more ∙ rw (figures_are most (n / 10) (omega arith) (omega arith)) (sym (decimal_step n more h)))

pub whole_is_decimal : (n : ℕ) → n < 2 ^ 64 → whole n ≡ decimal n
whole_is_decimal n h = figures_are n n (omega arith) h

-- two writes, one after the other, of which the answer is yes where both were made
pub chained : {T U E : Type 0} (a b c : Option (List ℕ)) (r : Result T E) (s : Result U E) (front rest all : List ℕ)
    → OnOk r (Appends a b front) → OnOk s (Appends b c rest) → all ≡ front ++ rest → OnOk (result_and r s) (Appends a c all)
chained a b c (Ok x) (Ok y) front rest all h w e = rw e (Appends-trans a b c front rest h w)
chained a b c (Ok x) (Err y) front rest all h w e = tt
chained a b c (Err x) s front rest all h w e = tt
