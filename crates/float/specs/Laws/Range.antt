-- What a finite value in a range is: from the code's tests to `Within`.
use Rattle.std.specs.Prelude.{◌≡◌, ℕ, ◌+◌, ◌*◌, ◌≤◌, Bool, true, false, cond, not, T, ℤ, Float}
use Rattle.std.proofs.lemmas.Bool.{false≢true}
use Rattle.std.proofs.Common.{zero-mul, arith, nltb→le}
use Rattle.std.specs.Float.{nan, inf, fin}
use Rattle.std.specs.Float.Ieee.{up, down, below, lt, eq, le}
use Rattle.std.specs.Float.Ieee.Scale.{finite}
use Rattle.std.specs.Float.Ieee.Positive.{num}
use Rattle.float.specs.Number.{abs}
use Rattle.float.specs.Promises.Order.{pl, mi, Le}
use Rattle.float.specs.Laws.Le.{le→Le, plain, or_l, yes_of}
use Rattle.float.specs.Promises.Order.{Within}

-- one product a side
pub plain_le : (a b c d : ℕ) → a + 0 * b ≤ c + 0 * d → a ≤ c
plain_le a b c d h = let p : 0 * b ≡ 0 = zero-mul b in let q : 0 * d ≡ 0 = zero-mul d in omega arith

-- a magnitude at most B
pub under : (B : Float) (m : ℕ) (e : ℤ) → T (finite B) → T (plain B) → le (fin false m e) B ≡ true → Within B (fin false m e)
under nan m e p q h = absurd p
under (inf s) m e p q h = absurd p
under (fin true n d) m e p q h = absurd q
under (fin false n d) m e p q h =
    record {
      real = tt;
      size = plain_le (num (fin false m e) * down d) (down e) (num (fin false n d) * down e) (down d)
          (le→Le (fin false m e) (fin false n d) tt tt (yes_of h)).cross;
    }

-- |x| ≤ B
pub abs_within : (B x : Float) → T (finite B) → T (plain B) → le (abs x) B ≡ true → Within B x
unfolding abs le
abs_within B nan p q h = absurd (false≢true h)
abs_within nan (inf s) p q h = absurd p
abs_within (inf t) (inf s) p q h = absurd p
abs_within (fin t n d) (inf s) p q h = absurd (false≢true h)
abs_within B (fin s m e) p q h = let w = under B m e p q h in record { real = tt; size = w.size }

pub within_abs : {B x : Float} → Within B x → Within B (abs x)
unfolding abs
within_abs {x = nan} h = absurd h.real
within_abs {x = inf s} h = absurd h.real
within_abs {x = fin s m e} h = record { real = tt; size = h.size }

-- ---- the two ways of a test x < y
pub lt→Le : (x y : Float) → T (finite x) → T (finite y) → T (lt x y) → Le x y
unfolding le
lt→Le x y p q h = le→Le x y p q (or_l (lt x y) (eq x y) h)

not_below : (s t : Bool) (a b : ℕ) → T (not (below s a t b)) → cond t 0 b + cond s a 0 ≤ cond s 0 a + cond t b 0
not_below false false a b h = let k : b ≤ a = nltb→le a b h in omega arith
not_below false true a b h = omega arith
not_below true false a b h = let k : a + b ≤ 0 = nltb→le 0 (a + b) h in omega arith
not_below true true a b h = let k : a ≤ b = nltb→le b a h in omega arith

pub nlt→Le : (x y : Float) → T (finite x) → T (finite y) → T (not (lt x y)) → Le y x
unfolding lt
nlt→Le nan y p q h = absurd p
nlt→Le (inf s) y p q h = absurd p
nlt→Le (fin s m e) nan p q h = absurd q
nlt→Le (fin s m e) (inf t) p q h = absurd q
nlt→Le (fin s m e) (fin t n d) p q h = record { first = tt; second = tt; cross = go s t h }
  where
    go : (s t : Bool) → T (not (below s (m * up e * down d) t (n * up d * down e)))
        → pl (fin t n d) * down e + mi (fin s m e) * down d ≤ pl (fin s m e) * down d + mi (fin t n d) * down e
    go true true h = let k = not_below true true (m * up e * down d) (n * up d * down e) h in omega arith
    go true false h = let k = not_below true false (m * up e * down d) (n * up d * down e) h in omega arith
    go false true h = omega arith
    go false false h = let k = not_below false false (m * up e * down d) (n * up d * down e) h in omega arith
