-- The operation's answer, by its tests.
use Prim.Native.Nat.{ℕ, ◌*◌, ◌%◌, ◌^◌, ◌≤◌, ◌<◌}
use native.Mathlib.Nat.{le_refl}
use native.Mathlib.Omega.{arith}
use mathlib.Core.Path.{◌≡◌, refl, sym}
use mathlib.Core.Bool.{true, false}
use mathlib.Core.List.{List, [], ◌∷◌}
use lib.ListN.{length}
use lib.Pow.{pow_mono}
use lib.Ieee.{Float}
use borrow.Author.Tests.{lt-ltb, le-ltb, le-leb, eq-eqb, ne_eqb}
use Rattle.polynomial.specs.Roots.{roots}
use Rattle.polynomial.specs.Kinds.{kinds}
use Rattle.polynomial.specs.Promises.Inside.{counting_of}
use Rattle.polynomial.proofs.roots.Ways.{no_longer, none, no_kinds}
use Rattle.polynomial.specs.Laws.Enclosed.{all_most}
use Rattle.polynomial.specs.declared.compensated.Compensated.{Compensated}
use Rattle.polynomial.specs.Operation.{pairs, bounds_hold, parts_hold, fitted, answer}
use Rattle.std.specs.Prelude.{Ok, Err}
use Rattle.polynomial.specs.declared.refusals.Refusal.TheVariants.{BadLength, BadBounds, BadPart}

module _ (s : List Float) (lo hi : Float) (room bytes : ℕ) where
  pub odd_length : length s % 2 ≡ 1 → Err BadLength ≡ answer s lo hi room bytes
  unfolding answer
  odd_length h = sym (simp (eq-eqb (length s % 2) 1 h))

  module _ (o : length s % 2 ≡ 1 → ⊥) where
    pub too_long : 18 < length s → Err BadLength ≡ answer s lo hi room bytes
    unfolding answer
    too_long h = sym (simp (ne_eqb (length s % 2) 1 o, lt-ltb 18 (length s) h))

    module _ (h : length s ≤ 18) where
      pub bad_bounds : bounds_hold lo hi ≡ false → Err BadBounds ≡ answer s lo hi room bytes
      unfolding answer
      bad_bounds b = sym (simp (ne_eqb (length s % 2) 1 o, le-ltb 18 (length s) h, b))

      module _ (b : bounds_hold lo hi ≡ true) where
        pub bad_part : parts_hold s ≡ false → Err BadPart ≡ answer s lo hi room bytes
        unfolding answer
        bad_part p = sym (simp (ne_eqb (length s % 2) 1 o, le-ltb 18 (length s) h, b, p))

        -- for k roots, whether both slices have room
        pub fitting : parts_hold s ≡ true → (l : List Float) → l ≡ roots (pairs s) lo hi → fitted (length l) room bytes ≡ answer s lo hi room bytes
        unfolding answer
        fitting p l e = sym (simp (ne_eqb (length s % 2) 1 o, le-ltb 18 (length s) h, b, p, ← e))

-- a slice with 2 ^ n places, by the code's test, has room for the roots of n coefficients
pub enough_room : (p : List Compensated) (lo hi : Float) (k room : ℕ) → length p ≤ 9 → 1 * 2 ^ length p % 2 ^ 64 ≤ room → k ≡ length (roots p lo hi) → k ≤ room
enough_room p lo hi k room h t e =
    let w : 2 ^ length p ≤ 2 ^ 9 = pow_mono {i = length p} {j = 9} h in
    let m = all_most lo hi (length p) p (le_refl (length p)) in
    omega arith

-- an answer for k roots, by the two tests
pub counted : (k room bytes : ℕ) → k ≤ room → k ≤ bytes → Ok k ≡ fitted k room bytes
counted k room bytes g h = sym (simp (le-leb k room g, le-leb k bytes h))

-- fewer than four numbers are one coefficient at most, which has no root
few_pairs : (s : List Float) → length s < 4 → length (pairs s) < 2
unfolding pairs
few_pairs [] h = omega arith
few_pairs (a ∷ []) h = omega arith
few_pairs (a ∷ (b ∷ [])) h = omega arith
few_pairs (a ∷ (b ∷ (c ∷ []))) h = omega arith
few_pairs (a ∷ (b ∷ (c ∷ (d ∷ s)))) h = absurd (omega (arith, h))

module _ (s : List Float) (lo hi : Float) (h : length s < 4) where
  few : length (counting_of (pairs s)) < 2
  few = omega (arith, no_longer (pairs s) (counting_of (pairs s)) lo hi refl, few_pairs s h)

  pub no_root : roots (pairs s) lo hi ≡ []
  no_root = none (pairs s) (counting_of (pairs s)) lo hi refl few

  pub no_kind : kinds (pairs s) lo hi ≡ []
  no_kind = no_kinds (pairs s) (counting_of (pairs s)) lo hi refl few
