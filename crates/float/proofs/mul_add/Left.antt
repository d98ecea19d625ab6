-- A number shifted to the left within 128 digits, and its lower 64 cut off by `jam`.
use Rattle.std.proofs.Common.{ℕ, ◌+◌, ◌*◌, ◌/◌, ◌%◌, ◌^◌, ◌<◌, ◌≤◌, min, sym, le_trans, le_of_eq, mul-le-mul_right, one-mul, lt_of_not-le}
use Rattle.std.proofs.Common.{le-div_iff_mul-le, not-le_of_lt, arith, pow_pos, pow_mono}
use Rattle.float.specs.Promises.Jam.{jam}
use Rattle.float.specs.Promises.Parts.{Shifts}

-- ---- what is cut off leaves the top digit
pub jam_top : (X : ℕ) → 2 ^ 127 ≤ X → 2 ^ 63 ≤ jam X 64
jam_top X h = half (X / 2 ^ 65) (X % 2 ^ 65) ((le-div_iff_mul-le (pow_pos 65)).1 h)
  where
    half : (q r : ℕ) → 2 ^ 62 ≤ q → 2 ^ 63 ≤ 2 * q + min 1 r
    half q r h = omega arith

pub jam_under : (X : ℕ) → X < 2 ^ 128 → jam X 64 < 2 ^ 64
jam_under X h = half (X / 2 ^ 65) (X % 2 ^ 65) ((native.Mathlib.Nat.div-lt_iff_lt-mul (pow_pos 65)).1 h)
  where
    half : (q r : ℕ) → q < 2 ^ 63 → 2 * q + min 1 r < 2 ^ 64
    half q r h = omega arith

-- ---- the shift is not by all digits
pub shift_lt : (D y s : ℕ) → 0 < D → Shifts D y s → s < 128
shift_lt D y s some S = lt_of_not-le (λ (g : 128 ≤ s). not-le_of_lt S.top
    (le_trans (pow_mono g) (le_trans (le_of_eq (sym (one-mul (2 ^ s)))) (mul-le-mul_right (2 ^ s) some))))
