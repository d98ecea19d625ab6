-- Words of contracts: the order of finite values and their bounds over whole numbers, an interval that can be
-- bisected, and the units between two values, by which a bisection ends. Definitions only.
use Rattle.std.specs.Prelude.{ℕ, suc, ◌+◌, ◌-◌, ◌*◌, ◌^◌, ◌<◌, ◌≤◌, true, false, T, ℤ, pos, negsuc, Float}
use Rattle.std.specs.Float.{nan, inf, fin, Format, binary64}
use Rattle.std.specs.Float.Ieee.{low, up, fits}
use Rattle.std.specs.Float.Ieee.Scale.{finite}
use Rattle.std.specs.Float.Ieee.Positive.{num, den}

-- ---- order and bounds

-- a finite value is (pl - mi) / den: `pl` is its size where it is not negative and 0 otherwise, `mi` the other way round
abbrev pub pl : Float → ℕ
pl nan = 0
pl (inf s) = 0
pl (fin true m e) = 0
pl (fin false m e) = m * up e

abbrev pub mi : Float → ℕ
mi nan = 0
mi (inf s) = 0
mi (fin true m e) = m * up e
mi (fin false m e) = 0

-- x ≤ y for finite values, over whole numbers
pub record Le (x y : Float) : Type 0 where
  pub first : T (finite x)
  pub second : T (finite y)
  pub cross : pl x * den y + mi y * den x ≤ pl y * den x + mi x * den y

-- x is finite and |x| ≤ |B|
pub record Within (B x : Float) : Type 0 where
  pub real : T (finite x)
  pub size : num x * den B ≤ num B * den x

-- An interval that can be bisected: its ends are of the format and in order, and at most 2 ^ k in size, so that their difference is finite.
pub record Span (k : ℕ) (lo hi : Float) : Type 0 where
  pub room : k < 1023
  pub lo_fits : T (fits binary64 lo)
  pub hi_fits : T (fits binary64 hi)
  pub lo_within : Within (fin false 1 (pos k)) lo
  pub hi_within : Within (fin false 1 (pos k)) hi
  pub order : Le lo hi

-- ---- units of the smallest value of a format

-- m * 2 ^ e in units
abbrev pub amount : Format → ℕ → ℤ → ℕ
amount f m (pos k) = m * 2 ^ (low f + k)
amount f m (negsuc k) = m * 2 ^ (low f - suc k)

abbrev pub plus_units : Format → Float → ℕ
plus_units f nan = 0
plus_units f (inf s) = 0
plus_units f (fin true m e) = 0
plus_units f (fin false m e) = amount f m e

abbrev pub minus_units : Format → Float → ℕ
minus_units f nan = 0
minus_units f (inf s) = 0
minus_units f (fin true m e) = amount f m e
minus_units f (fin false m e) = 0

-- ---- the width of an interval
abbrev pub width : Format → Float → Float → ℕ
width f lo hi = plus_units f hi + minus_units f lo - (plus_units f lo + minus_units f hi)
