-- Bounds that pass the operation's test are an interval that can be bisected, so that the laws of `Enclosed` hold.
use Rattle.std.specs.Prelude.{◌≡◌, true, T, Float}
use Rattle.std.proofs.Common.{sym, subst, lit<}
use Rattle.std.specs.Float.{binary64}
use Rattle.std.specs.Float.Ieee.{le, fits}
use Rattle.float.specs.Number.{abs}
use Rattle.float.specs.Laws.Le.{le→Le}
use Rattle.float.specs.Laws.Range.{abs_within}
use Rattle.float.specs.Promises.Order.{Span}
use Rattle.float.specs.Trig.{four_float}
use Rattle.float.specs.Laws.Tests.{three}
use Rattle.polynomial.specs.Operation.{bounds_hold}

pub bounds_span : (lower upper : Float) → T (fits binary64 lower) → T (fits binary64 upper) → bounds_hold lower upper ≡ true → Span 2 lower upper
bounds_span lower upper s t h =
    let k = three (le (abs lower) four_float) (le (abs upper) four_float) (le lower upper) h in
    let l = abs_within four_float lower tt tt k.0 in
    let u = abs_within four_float upper tt tt k.1 in
    record { room = lit< tt; lo_fits = s; hi_fits = t; lo_within = l; hi_within = u; order = le→Le lower upper l.real u.real (subst T (sym k.2) tt) }
