-- The code's literals and NaN, and lists of results, number by number.
use Rattle.std.proofs.Common.{◌≡◌, ℕ, zero, suc, ◌+◌, ◌<◌, ◌≤◌, List, [], ◌∷◌, length, map, get_or, subst, ◌∙◌, inl, inr, eq-or-lt_of_le, arith, refl}
use denote.Param.Members.{Mut, Called}
use Rattle.std.specs.Array.{IsFromFnResultFrom}
use lib.Ieee.{Float}
use Rattle.float.specs.Trig.{atan, atan2}
use Rattle.float.specs.Number.{◌⊘◌}
use Rattle.float.specs.Promises.Beside.{beside, placed}
use Rattle.float.specs.Laws.Tests.{nan_test}
use Rattle.float.specs.Laws.Zero.{zero_bits}
use Rattle.float.specs.Laws.Literals.{one_bits, two_bits, P-bits}

pub ruleset literals = (zero_bits, one_bits, two_bits, P-bits, nan_test)

pub placed_is : (y x : Float) → placed y x (atan (y ⊘ x)) ≡ atan2 y x
unfolding placed atan2
placed_is y x = refl

-- ---- an array from a function of the index, whose closure stays as it is
pub made : {F B : Type 0} (g : Mut F (ℕ × Unit {0}) B) (v : ℕ → B) (f : F) → ((i : ℕ) (y : B) (q : F) → Called g f (i, tt) y q → (y ≡ v i) × (q ≡ f))
    → (ys : List B) (d : B) (n i : ℕ) → IsFromFnResultFrom g f ys i n → (k : ℕ) → i ≤ k → k < i + n → get_or ys k d ≡ v k
made g v f step ys d zero i e k l h = absurd (omega arith)
made g v f step ys d (suc n) i e k l h = elim (eq-or-lt_of_le l) [
  | inl z ↦ subst (λ j. get_or ys j d ≡ v j) z (e.2.1 d ∙ (step i e.1 e.0 e.3).0)
  | inr s ↦ made g v f step ys d n (i + 1) (subst (λ p. IsFromFnResultFrom g p ys (i + 1) n) (step i e.1 e.0 e.3).1 e.4) k (omega arith) (omega arith)
]

-- ---- lists, number by number; d is read beyond the end
pub each_is : (d : Float) (f : Float → Float) (x r : List Float) → length r ≡ length x
    → ((i : ℕ) → i < length x → get_or r i d ≡ f (get_or x i d)) → r ≡ map f x
each_is d f [] [] e h = refl
each_is d f [] (z ∷ r) e h = absurd (omega (arith, e))
each_is d f (a ∷ x) [] e h = absurd (omega (arith, e))
each_is d f (a ∷ x) (z ∷ r) e h = λ i. h 0 (omega arith) i ∷ each_is d f x r (omega (arith, e)) (λ k l. h (suc k) (omega arith)) i

pub beside_is : (d : Float) (f : Float → Float → Float) (y x r : List Float) → length y ≡ length r → length x ≡ length r
    → ((i : ℕ) → i < length r → get_or r i d ≡ f (get_or y i d) (get_or x i d)) → r ≡ beside f y x
beside_is d f [] x [] e g h = refl
beside_is d f [] x (z ∷ r) e g h = absurd (omega (arith, e))
beside_is d f (b ∷ y) x [] e g h = absurd (omega (arith, e))
beside_is d f (b ∷ y) [] (z ∷ r) e g h = absurd (omega (arith, g))
beside_is d f (b ∷ y) (a ∷ x) (z ∷ r) e g h =
    λ i. h 0 (omega arith) i ∷ beside_is d f y x r (omega (arith, e)) (omega (arith, g)) (λ k l. h (suc k) (omega arith)) i

pub get_map : (d : Float) (f : Float → Float) (x : List Float) (i : ℕ) → i < length x → get_or (map f x) i d ≡ f (get_or x i d)
get_map d f [] i h = absurd (omega arith)
get_map d f (a ∷ x) zero h = refl
get_map d f (a ∷ x) (suc i) h = get_map d f x i (omega arith)
