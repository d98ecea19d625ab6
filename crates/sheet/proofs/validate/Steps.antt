-- A test at each of n numbers in a row: what `all` over them says.
use Rattle.std.proofs.Common.{ℕ, zero, suc, ◌+◌, ◌-◌, ◌≤◌, ◌<◌, ◌≡◌, arith, refl, sym, ◌∙◌, Bool, true, false, length}
use mathlib.Core.Path.{subst}
use mathlib.Core.Bool.{false≢true}
use Rattle.std.specs.List.{range_with_len, AllWithin, HoldsAt}
use Rattle.std.specs.Bool.{MatchBool}
use Rattle.std.proofs.lemmas.List.FromFn.{length-range_with_len, get_or-range_with_len}
use Rattle.std.proofs.Math.Decide.{dec_lt}
use Rattle.float.specs.Laws.Tests.{and_left, and_right}
use Rattle.sheet.specs.Validate.{all_from}

-- p at each number from i to n
abbrev pub Each : ℕ → ℕ → (ℕ → Bool) → Type 0
Each i n p = (k : ℕ) → i ≤ k → k < n → p k ≡ true

all_true : (p : ℕ → Bool) (n j : ℕ) → Each j (j + n) p → all_from n j p ≡ true
unfolding all_from
all_true p zero j h = refl
all_true p (suc n) j h = rw (h j (omega arith) (omega arith), all_true p n (suc j) (λ k a b. h k (omega arith) (omega arith)))

true_all : (p : ℕ → Bool) (n j : ℕ) → all_from n j p ≡ true → Each j (j + n) p
unfolding all_from
true_all p zero j e k a b = absurd (omega arith)
true_all p (suc n) j e k a b = go (dec_lt j k) (true_all p n (suc j) (and_right (p j) (all_from n (suc j) p) e))
  where
    go : Dec (j < k) → Each (suc j) (suc j + n) p → p k ≡ true
    go (yes h) later = later k (omega arith) (omega arith)
    go (no h) later =
        let q : j ≡ k = omega arith in
        rw q at (and_left (p j) (all_from n (suc j) p) e)

-- what `all` over a range says
pub all_decided : (p : ℕ → Bool) (n j : ℕ) (r : Bool)
    → MatchBool r (AllWithin (λ k. p k ≡ true) (range_with_len j n) 0 (length (range_with_len j n)))
    ((k : ℕ) × (k < length (range_with_len j n)) × HoldsAt (λ i. p i ≡ false) (range_with_len j n) k)
    → r ≡ all_from n j p
all_decided p n j true h = sym (all_true p n j (λ k a b. each k (omega arith) (omega arith)))
  where
    each : Each j (j + n) p
    each k a b =
        subst (λ i. p i ≡ true) (get_or-range_with_len j n (k - j) 0 (omega arith) ∙ omega arith)
        (h (k - j) 0 (omega arith) (omega (arith, length-range_with_len j n)))
all_decided p n j false h = go (all_from n j p) refl
  where
    at : h.0 < n
    at = omega (arith, h.1, length-range_with_len j n)

    fails : p (j + h.0) ≡ false
    fails = subst (λ i. p i ≡ false) (get_or-range_with_len j n h.0 0 at) (h.2 0)

    go : (t : Bool) → all_from n j p ≡ t → false ≡ t
    go false e = refl
    go true e = absurd (false≢true (sym fails ∙ true_all p n j e (j + h.0) (omega arith) (omega (arith, at))))
