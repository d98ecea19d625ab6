-- The decimal and the hexadecimal digits are those in the bases 10 and 16.
use Rattle.std.specs.Prelude.{ℕ, zero, suc, ◌/◌, ◌%◌, ◌<◌, ◌≡◌, refl}
use Rattle.std.proofs.Common.{arith, lt-ltb}
use Rattle.digits.specs.Hex.{spelled}
use Rattle.digits.specs.Decimal as Decimal
use Rattle.digits.specs.Promises.Based.{digits}

pub decimal_is : (k n : ℕ) → digits 10 k n ≡ Decimal.digits k n
unfolding digits Decimal.digits
decimal_is zero n = refl
decimal_is (suc k) n =
    let d : n % 10 < 10 = omega arith in
    rw (decimal_is k (n / 10), lt-ltb (n % 10) 10 d)

pub spelled_is : (k n : ℕ) → digits 16 k n ≡ spelled k n
unfolding digits spelled
spelled_is zero n = refl
spelled_is (suc k) n = rw (spelled_is k (n / 16))
