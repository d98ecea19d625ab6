-- What `all` over the numbers below k says of the words of a line.
use Rattle.std.proofs.Common.{ℕ, zero, suc, ◌+◌, ◌*◌, ◌<◌, ◌≡◌, arith, refl, sym, Bool, true, false, ◌&&◌, eqb, List, length, get_or}
use Rattle.std.proofs.Common.{subst, zero-add, ◌∙◌}
use Rattle.std.specs.List.{range_with_len, AllWithin, HoldsAt}
use Rattle.std.specs.Bool.{MatchBool}
use Rattle.std.proofs.lemmas.List.FromFn.{length-range_with_len, get_or-range_with_len}
use Rattle.std.proofs.Math.Decide.{dec_lt}
use Rattle.digits.specs.Hex.{digits}
use Rattle.text.specs.Lines.{are_words}

abbrev pub word : List ℕ → ℕ → Bool
word s j = eqb (get_or s (1 + 17 * j) 0) 32 && digits s (1 + 17 * j + 1) 16

all_words : (s : List ℕ) (k : ℕ) → ((j : ℕ) → j < k → word s j ≡ true) → are_words s 1 k ≡ true
unfolding are_words
all_words s zero h = refl
all_words s (suc k) h = rw (all_words s k (λ j l. h j (omega arith)), h k (omega arith))

and_no : (b : Bool) → (b && false) ≡ false
and_no true = refl
and_no false = refl

not_words : (s : List ℕ) (k j : ℕ) → j < k → word s j ≡ false → are_words s 1 k ≡ false
unfolding are_words
not_words s zero j l e = absurd (omega arith)
not_words s (suc k) j l e = go (dec_lt j k) (λ h. not_words s k j h e)
  where
    go : Dec (j < k) → (j < k → are_words s 1 k ≡ false) → (are_words s 1 k && word s k) ≡ false
    go (yes h) before = rw (before h)
    go (no h) before =
        let q : k ≡ j = omega arith in
        rw (q, e) (and_no (are_words s 1 j))

pub decided : (s : List ℕ) (k : ℕ) (r : Bool)
    → MatchBool r (AllWithin (λ j. word s j ≡ true) (range_with_len 0 k) 0 (length (range_with_len 0 k)))
    ((j : ℕ) × (j < length (range_with_len 0 k)) × HoldsAt (λ i. word s i ≡ false) (range_with_len 0 k) j)
    → r ≡ are_words s 1 k
decided s k true h = sym (all_words s k each)
  where
    each : (j : ℕ) → j < k → word s j ≡ true
    each j l = subst (λ i. word s i ≡ true) (get_or-range_with_len 0 k j 0 l ∙ zero-add j) (h j 0 (omega arith) (omega (arith, length-range_with_len 0 k)))
decided s k false h =
    let at : h.0 < k = omega (arith, h.1, length-range_with_len 0 k) in
    sym (not_words s k h.0 at (subst (λ i. word s i ≡ false) (get_or-range_with_len 0 k h.0 0 at ∙ zero-add h.0) (h.2 0)))
