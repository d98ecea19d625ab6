-- Joint 1's reference as a model angle lies within P, so it is a number.
use Rattle.std.specs.Prelude.{not, T, Float}
use Rattle.std.specs.Float.{binary64}
use Rattle.std.specs.Float.Ieee.{neg, sub, le, fits, is_nan}
use Rattle.std.specs.Float.Ieee.Fits.{sub-fits}
use Rattle.float.specs.Number.{◌⊖◌, ◌⊗◌, one_float}
use Rattle.float.specs.Trig.{P}
use Rattle.float.specs.Promises.Order.{Within}
use Rattle.float.specs.Laws.Within.{held, fits→held, mul_within}
use Rattle.float.specs.Laws.Interval.{in_wider, sub_in, within_in}
use Rattle.float.specs.Laws.Tests.{finite_number}
use Rattle.float.specs.Laws.Extremes.{largest, held_largest}
use Rattle.polynomial.specs.Angle.{two_pi}
use Rattle.polynomial.specs.Laws.Wrapped.{wrapped_fits, wrapped_within}
use Rattle.sampling.specs.J1j2free.{model_reference}
use Rattle.sampling.specs.Promises.Plan.{Moderate}
use Rattle.sampling.proofs.Laws.Limits.{unit_sign}
use Rattle.sampling.specs.declared.job.Joint.{Joint}

-- a value of the format times 1 or -1, less one within a turn, is of the format
signed_held : (x sign offset : Float) → T (held binary64 x) → Within one_float sign → Within two_pi offset → T (held binary64 (x ⊗ sign ⊖ offset))
unfolding neg sub le
signed_held x sign offset t s o =
    let product : Within largest (x ⊗ sign) = mul_within binary64 largest tt (held_largest x t) s in
    let difference = in_wider (neg largest) largest tt (sub_in binary64 tt (within_in tt tt product) (within_in tt tt o)) in
    fits→held binary64 (x ⊗ sign ⊖ offset) (sub-fits binary64 (x ⊗ sign) offset) difference.upper.first

pub reference_fits : (j : Joint) → T (fits binary64 (model_reference j))
unfolding model_reference
reference_fits j = wrapped_fits (j.reference ⊗ j.sign ⊖ j.offset)

pub reference_within : (j : Joint) → T (fits binary64 j.reference) → Moderate j → Within P (model_reference j)
unfolding model_reference
reference_within j t m =
    wrapped_within (j.reference ⊗ j.sign ⊖ j.offset)
    (signed_held j.reference j.sign j.offset (fits→held binary64 j.reference t m.reference) (unit_sign m.sign) m.offset)

pub reference_number : (j : Joint) → T (fits binary64 j.reference) → Moderate j → T (not (is_nan (model_reference j)))
reference_number j t m = finite_number (model_reference j) (reference_within j t m).real
