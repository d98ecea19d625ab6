-- What the code writes of a float is its 16 columns.
use Prim.Native.Nat.{ℕ, ◌≤◌, ◌<◌}
use native.Mathlib.Omega.{arith}
use mathlib.Core.Path.{◌≡◌, refl, sym}
use mathlib.Core.Bool.{Bool, true, false, false≢true}
use lib.ListN.{replicate}
use lib.Ieee.{Float, nan, inf, fin}
use lib.Ieee.Scale.{finite}
use Rattle.std.proofs.Common.{List, [], ◌∷◌, length, set}
use Rattle.page.specs.Decimal.{billionths, decimal}
use Rattle.page.specs.Promises.Decimal.{laid, limit, Billionths, Beyond}
use Rattle.page.specs.Laws.Decimal.{laid_is, too_long}

-- ---- the columns
pub not_finite : (x : Float) → finite x ≡ false → decimal x ≡ replicate 16 42
unfolding decimal
not_finite nan h = refl
not_finite (inf s) h = refl
not_finite (fin s m e) h = absurd (false≢true (sym h))

limit_most : (s : Bool) → limit s ≤ 1000000000000000
limit_most true = omega arith
limit_most false = omega arith

pub beyond : (x : Float) → Beyond x → decimal x ≡ replicate 16 42
unfolding decimal
beyond nan b = absurd b
beyond (inf t) b = absurd b
beyond (fin t m e) b = sym (too_long t (billionths m e) (omega (arith, limit_most t)))

pub over : (x : Float) (s : Bool) (n : ℕ) → Billionths x s n → limit s ≤ n → decimal x ≡ replicate 16 42
unfolding decimal
over nan s n b h = absurd b
over (inf t) s n b h = absurd b
over (fin t m e) s n b h = rw (← b.0, ← b.1) (sym (too_long s n h))

pub fit : (x : Float) (s : Bool) (n : ℕ) → Billionths x s n → n < limit s → decimal x ≡ laid s n
unfolding decimal
fit nan s n b h = absurd b
fit (inf t) s n b h = absurd b
fit (fin t m e) s n b h = rw (← b.0, ← b.1) (sym (laid_is s n h))

-- ---- what is written
pub point : (p : List ℕ) → length p ≡ 1 → set p 0 46 ≡ 46 ∷ []
point [] h = let w : ⊥ = omega arith in absurd w
point (x ∷ []) h = refl
point (x ∷ (y ∷ p)) h = let w : ⊥ = omega arith in absurd w
