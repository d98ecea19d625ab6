use Rattle.std.proofs.Common.{append_assoc, arith, refl}
use Rattle.text.proofs.Printed.{whole_is_decimal, chained}
use Rattle.text.proofs.report.number.Goals as goal

pub returns : goal.returns
returns g c =
    rw (c.and-3.ensures, c.and-2.ensures, c.and.ensures, whole_is_decimal c.args.n (omega arith))
    (chained _ _ _ _ _ _ _ _
    (chained _ _ _ _ _ _ _ _ (chained _ _ _ _ _ _ _ _ c.write_all-named.ensures.bytes c.write_all-parted.ensures.bytes refl)
    c.write-counted.ensures.bytes refl)
    c.write_all-ended.ensures.bytes (simp append_assoc))
