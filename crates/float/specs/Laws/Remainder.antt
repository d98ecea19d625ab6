-- A remainder is no larger than its divisor.
use Rattle.std.specs.Prelude.{◌≡◌, ℕ, ◌*◌, ◌%◌, ◌<◌, ◌≤◌, Bool, true, false, cond, T, ◌==◌, refl, Float}
use Rattle.std.proofs.Common.{ap, ◌∙◌, le_trans, le_of_eq, mul-pos, mul_assoc, mul-le-mul_right, le_of_lt, mod-lt, eqb→eq}
use Rattle.std.specs.Float.{nan, inf, fin, Format}
use Rattle.std.specs.Float.Ieee.{up, down, round, rem}
use Rattle.std.specs.Float.Ieee.Fits.{down_pos}
use Rattle.std.specs.Float.Ieee.Scale.{finite}
use Rattle.std.specs.Float.Ieee.Positive.{num}
use Rattle.float.specs.Promises.Order.{Within}
use Rattle.float.specs.Laws.Within.{held, round_within, not_none}

rem_size : (a b n d e : ℕ) → 0 < b → b ≡ n * e → a % b * d ≤ n * (e * d)
rem_size a b n d e B h = le_trans (mul-le-mul_right d (le_of_lt (mod-lt a B))) (le_of_eq (ap (λ (z : ℕ). z * d) h ∙ mul_assoc n e d))

pub rem_within : (f : Format) (x y : Float) → T (held f y) → T (finite x) → 0 < num y → Within y (rem f x y)
unfolding rem
rem_within f x nan t p h = absurd t
rem_within f x (inf u) t p h = absurd t
rem_within f nan (fin u n d) t p h = absurd p
rem_within f (inf s) (fin u n d) t p h = absurd p
rem_within f (fin s m e) (fin u n d) t p h = go (n == 0) (eqb→eq n 0)
  where
    go : (b : Bool) → (T b → n ≡ 0) → Within (fin u n d) (cond b nan (round f s (m * up e * down d % (n * up d * down e)) (down e * down d)))
    go true z = absurd (not_none n d h (z tt))
    go false z =
        round_within f s (m * up e * down d % (n * up d * down e)) (down e * down d) (fin u n d) (mul-pos (down_pos e) (down_pos d)) t
        (rem_size (m * up e * down d) (n * up d * down e) (n * up d) (down d) (down e) (mul-pos h (down_pos e)) refl)
