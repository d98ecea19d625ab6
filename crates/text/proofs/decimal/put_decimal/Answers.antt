-- The digits that `itoa` gives are the number's decimal.
use Rattle.std.proofs.Common.{◌≡◌, refl, ap, arith, length, sym, ◌∙◌}
use Rattle.digits.specs.Decimal.{whole}
use Rattle.digits.specs.Laws.Stores.{stored}
use Rattle.text.proofs.Printed.{whole_is_decimal}
use Rattle.text.proofs.decimal.put_decimal.Goals as goal

pub returns : goal.returns
returns c =
    let d = c.as_bytes-digits in
    let e : d.result.now ≡ whole c.args.n = d.ensures.value ∙ c.format.ensures.text ∙ sym (whole_is_decimal c.args.n (omega arith)) in
    record {
      value = ap length e;
      out_after = rw (c.copy_from_slice.ensures.after, e)
          (sym (stored (whole c.args.n) c.args.out.now (length (whole c.args.n)) refl (omega (arith, ap length e))));
      upper_bound = rw d.ensures.value c.format.ensures.fits;
    }
