-- `float::number::of_bits` meets its contract: the patterns above that of infinity, without the sign, are those of NaNs.
use Rattle.std.proofs.Common.{Bool, not, T, sym, ◌∙◌, le-ltb, lt-ltb}
use mathlib.Core.Path.{subst⁻¹}
use lib.Ieee.{binary64, of_bits}
use lib.Ieee.Bits.{nan_bits_is, nan_bits_above}
use Rattle.float.specs.Laws.Tests.{nan_test}
use Rattle.float.proofs.Pattern.{the_nan}
use Rattle.float.proofs.number.of_bits.Goals as goal

pub float_from_bits-result : goal.float_from_bits-result
float_from_bits-result c = subst⁻¹ (λ (b : Bool). T (not b)) (nan_bits_above binary64 c.args.w ∙ le-ltb _ _ c.if-w-gt9218868437227405312.false) tt

pub returns-then-w-gt9218868437227405312 : goal.returns-then-w-gt9218868437227405312
returns-then-w-gt9218868437227405312 c = let w = c.args.w in
    the_nan ∙ sym (nan_test (of_bits binary64 w) (sym (nan_bits_is binary64 w) ∙ nan_bits_above binary64 w ∙ lt-ltb _ _ c.if-w-gt9218868437227405312.true))
