-- The name byte by byte, and bytes that are all zero: what the tests of them need.
use Rattle.std.proofs.Common.{ℕ, zero, suc, ◌+◌, ◌≤◌, ◌<◌, ◌≡◌, refl, sym, arith, List, [], ◌∷◌, Bool, true, false, length, get_or, take, drop}
use Rattle.std.proofs.Common.{drop_of_length-le, drop-cons, take_all, length-drop, ◌-◌}
use Rattle.std.proofs.Common.{◌↔◌, IsTrue, EachIndex, eq-eqb, eqb-true}
use lib.Dec.{eqb}
use Rattle.float.specs.Laws.Tests.{and_left, and_right}
use Rattle.sheet.specs.Bytes.{part}
use Rattle.sheet.specs.Request.{core_size}
use Rattle.sheet.specs.Validate.{all_from, zero_at, all_zero, is_character, is_name, name_right}

-- a test that holds exactly if each byte is zero
zeros_true : (bs : List ℕ) → EachIndex bs (λ (k : ℕ). get_or bs k 0 ≡ 0) → all_zero bs ≡ true
unfolding all_zero
zeros_true [] h = refl
zeros_true (b ∷ bs) h = rw (eq-eqb b 0 (h 0 (omega arith)), zeros_true bs (λ k l. h (suc k) (omega arith)))

true_zeros : (bs : List ℕ) → all_zero bs ≡ true → EachIndex bs (λ (k : ℕ). get_or bs k 0 ≡ 0)
unfolding all_zero
true_zeros [] e k l = absurd (omega arith)
true_zeros (b ∷ bs) e zero l = eqb-true b 0 (and_left (eqb b 0) (all_zero bs) e)
true_zeros (b ∷ bs) e (suc k) l = true_zeros bs (and_right (eqb b 0) (all_zero bs) e) k (omega arith)

pub zeros_each : (t : Bool) (bs : List ℕ) → IsTrue t ↔ EachIndex bs (λ (k : ℕ). get_or bs k 0 ≡ 0) → t ≡ all_zero bs
zeros_each true bs h = sym (zeros_true bs (h.0 refl))
zeros_each false bs h = go (all_zero bs) refl
  where
    go : (t : Bool) → all_zero bs ≡ t → false ≡ t
    go false e = refl
    go true e = h.1 (true_zeros bs e)

-- a slice from a position to the end
pub take_all_drop : (r : List ℕ) (i : ℕ) → take (length r - i) (drop i r) ≡ drop i r
take_all_drop r i = take_all (length r - i) (drop i r) (omega (arith, length-drop i r))

pub name_behind : (r : List ℕ) → is_name (take (length r - 264) (drop 264 r)) ≡ name_right r
unfolding name_right
name_behind r = rw (take_all_drop r 264)

-- n bytes from a position
pub zeros_part : (n : ℕ) (r : List ℕ) (i : ℕ) → i + n ≤ length r → all_zero (part i n r) ≡ all_from n i (zero_at r)
unfolding all_from all_zero
zeros_part zero r i e = refl
zeros_part (suc n) r i e = rw (drop-cons r i 0 (omega arith), zeros_part n r (suc i) (omega arith))

pub reserved_zero : (r : List ℕ) → core_size ≤ length r → all_zero (take 6 (drop 10 r)) ≡ all_from 6 10 (zero_at r)
reserved_zero r h = zeros_part 6 r 10 (omega arith)

module _ (r : List ℕ) (i : ℕ) (h : i < length r) where
  -- a character
  pub name_step : (k : ℕ) → k ≡ suc i → is_character (get_or r i 0) ≡ true → is_name (drop k r) ≡ is_name (drop i r)
  unfolding is_name
  name_step k e t = rw (e, drop-cons r i 0 h, t)

  -- any other byte
  pub name_stop : is_character (get_or r i 0) ≡ false → all_zero (drop i r) ≡ is_name (drop i r)
  unfolding is_name
  name_stop t = rw (drop-cons r i 0 h, t)

-- no byte is left
pub name_end : (r : List ℕ) (i : ℕ) → length r ≤ i → true ≡ is_name (drop i r)
unfolding is_name
name_end r i h = rw (drop_of_length-le r h)

-- what `is_name` goes by
pub ruleset reading = (name_step, name_stop, name_end, take_all_drop)
