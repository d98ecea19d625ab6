-- What the inner functions of `mul_add` and `sqrt` promise of their results, as records with named parts. Nothing that a public contract says.
use Rattle.std.specs.Prelude.{◌≡◌, ℕ, ◌+◌, ◌-◌, ◌*◌, ◌^◌, ◌<◌, ◌≤◌, Bool, true, false, pos, Float}
use Rattle.std.specs.Bool.{beq}
use Rattle.std.specs.Float.{fin, binary64}
use Rattle.std.specs.Float.Ieee.{units}
use Rattle.std.specs.Float.Ieee.Exact.{HasValue}
use Rattle.std.specs.Float.Ieee.Nearest.{closest}
use Rattle.float.specs.Promises.Jam.{jam}

-- x is q * 2 ^ k units, negative where `neg`: q has 53 digits at most, and all of them where k is above 0
pub record Splits (x : Float) (neg : Bool) (q k : ℕ) : Type 0 where
  pub value : HasValue x neg (q * 2 ^ k) (2 ^ 1074)
  pub short : q < 2 ^ 53
  pub place : k ≤ 2045
  pub full : 0 < k → 2 ^ 52 ≤ q

-- D is shifted to the left by s, by y at most, so that its highest digit of 128 is set, if s is below y
pub record Shifts (D y s : ℕ) : Type 0 where
  pub within : s ≤ y
  pub top : D * 2 ^ s < 2 ^ 128
  pub full : s < y → 2 ^ 127 ≤ D * 2 ^ s

-- r is D * 2 ^ (y - 75) units, rounded after a cut to 64 digits
pub record Finishes (neg : Bool) (D y : ℕ) (r : Float) : Type 0 where
  pub some : 0 < D
  pub shift : ℕ
  pub shifts : Shifts D y shift
  pub is : r ≡ units binary64 neg (closest (jam (D * 2 ^ shift) 64) (2 ^ 11)) (y - shift)

-- r is ±X ± Y, times 2 ^ (y - 75) units, rounded so
pub record Combines (neg : Bool) (X : ℕ) (other : Bool) (Y y : ℕ) (r : Float) : Type 0 where
  pub same : beq neg other ≡ true → Finishes neg (X + Y) y r
  pub more : beq neg other ≡ false → Y < X → Finishes neg (X - Y) y r
  pub less : beq neg other ≡ false → X < Y → Finishes other (Y - X) y r
  pub none : beq neg other ≡ false → X ≡ Y → r ≡ fin false 0 (pos 0)

-- q is the whole number nearest to the square root of n: n lies between the squares of q - 1 / 2
-- and q + 1 / 2, which are q * (q - 1) and q * (q + 1) with a quarter more
pub record Roots (n q : ℕ) : Type 0 where
  pub above : q * (q - 1) < n
  pub below : n ≤ q * (q + 1)
