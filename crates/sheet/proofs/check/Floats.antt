-- Bytes compared with those of floats, one float at a time.
use Rattle.std.proofs.Common.{ℕ, ◌+◌, ◌^◌, ◌≤◌, ◌<◌, ◌≡◌, refl, sym, ap, ◌∙◌, arith, List, [], ◌∷◌, ◌++◌, Bool, true, false, length, get_or, drop, take}
use Rattle.std.proofs.Common.{length-append, take-append-drop, eq-eqb, get_or-drop}
use Rattle.std.proofs.lemmas.Bool.{ne_eqb}
use mathlib.Core.Bool.{◌&&◌}
use lib.Dec.{eqb}
use lib.Ieee.{Float, to_bits, binary64}
use Rattle.sheet.specs.Bytes.{little_endian, same_bytes}
use Rattle.sheet.specs.Promises.Floats.{float_bytes, floats_bytes}
use Rattle.sheet.specs.Laws.Bytes.{length_part, length_bytes, floats_bytes_cons, floats_bytes_nil, same_is}
use Rattle.sheet.proofs.bytes.Same.{same_number}

same_append : (a b x y : List ℕ) → length a ≡ length b → same_bytes (a ++ x) (b ++ y) ≡ (same_bytes a b && same_bytes x y)
unfolding same_bytes
same_append [] [] x y e = refl
same_append [] (b ∷ bs) x y e = absurd (omega arith)
same_append (a ∷ as') [] x y e = absurd (omega arith)
same_append (a ∷ as') (b ∷ bs) x y e = rw (same_append as' bs x y (omega arith)) (sym (and_assoc (eqb a b) (same_bytes as' bs) (same_bytes x y)))
  where
    and_assoc : (p q r : Bool) → ((p && q) && r) ≡ (p && (q && r))
    and_assoc true q r = refl
    and_assoc false q r = refl

module _ (s : List ℕ) (y : Float) (xs ys : List Float) (e : xs ≡ y ∷ ys) where
  first : floats_bytes xs ≡ float_bytes y ++ floats_bytes ys
  first = ap floats_bytes e ∙ floats_bytes_cons y ys

  -- too few bytes are left
  pub float_short : length s < 8 → false ≡ same_bytes s (floats_bytes xs)
  float_short k = go (same_bytes s (floats_bytes xs)) refl
    where
      go : (b : Bool) → same_bytes s (floats_bytes xs) ≡ b → false ≡ b
      go false q = refl
      go true q =
          let l = ap length (same_is s (floats_bytes xs) q ∙ first) in
          absurd (omega (arith, k, l, length-append (float_bytes y) (floats_bytes ys), length_bytes 8 (to_bits binary64 y)))

  module _ (h : 8 ≤ length s) where
    both : same_bytes s (floats_bytes xs) ≡ (same_bytes (take 8 s) (float_bytes y) && same_bytes (drop 8 s) (floats_bytes ys))
    both =
        ap (λ (l : List ℕ). same_bytes l (floats_bytes xs)) (sym (take-append-drop 8 s)) ∙ ap (same_bytes (take 8 s ++ drop 8 s)) first
        ∙ (same_append (take 8 s) (float_bytes y) (drop 8 s) (floats_bytes ys) (length_part 0 8 s h ∙ sym (length_bytes 8 (to_bits binary64 y))))

    module _ (b : (i : ℕ) → get_or s i 0 < 256) (v : to_bits binary64 y < 2 ^ 64) (n : ℕ) (c : n ≡ little_endian (take 8 s)) where
      -- the number of the first eight is that of the float's bits, or not
      number : eqb n (to_bits binary64 y) ≡ same_bytes (take 8 s) (float_bytes y)
      number = rw c (same_number s 0 (to_bits binary64 y) h (λ i _. b i) v)

      pub float_step : n ≡ to_bits binary64 y → same_bytes (drop 8 s) (floats_bytes ys) ≡ same_bytes s (floats_bytes xs)
      float_step q = sym (both ∙ rw (← number, eq-eqb n (to_bits binary64 y) q) refl)

      pub float_stop : (n ≡ to_bits binary64 y → ⊥) → false ≡ same_bytes s (floats_bytes xs)
      float_stop q = sym (both ∙ rw (← number, ne_eqb n (to_bits binary64 y) q) refl)

pub drop_bytes : (l : List ℕ) → ((i : ℕ) → get_or l i 0 < 256) → (i : ℕ) → get_or (drop 8 l) i 0 < 256
drop_bytes l b i = rw (get_or-drop 8 l i 0) (b (8 + i))

-- no float is left
pub float_end : (s : List ℕ) (xs : List Float) → xs ≡ [] → eqb (length s) 0 ≡ same_bytes s (floats_bytes xs)
unfolding same_bytes
float_end [] xs e = rw (e, floats_bytes_nil) refl
float_end (a ∷ s) xs e = rw (e, floats_bytes_nil) (ne_eqb (length (a ∷ s)) 0 (λ q. omega arith))
