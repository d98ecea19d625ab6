-- `polynomial::plain::is_tidy` meets its contract.
use Rattle.std.proofs.Common.{rules, sym, ap, ap₂, ◌∙◌}
use lib.Ieee.{of_bits, le}
use Rattle.float.specs.Number.{◌⊗◌}
use Rattle.polynomial.specs.Promises.Plain.{lift, largest}
use Rattle.polynomial.proofs.plain.is_tidy.Goals as goal

pub returns-then-size : goal.returns-then-size
unfolding of_bits
returns-then-size c = λ h.
    let size = c.abs-size.ensures in
    record {
      high_fits = search rules;
      low_fits = search rules;
      small = ap (λ z. le z largest) (sym size) ∙ c.if-size.true;
      rest = ap₂ (λ z w. le (z ⊗ lift) w) (sym c.abs.ensures) (sym size) ∙ h;
    }
