-- Laws of `Bytes`: numbers of bytes and bytes of numbers, runs of stores, comparison.
use Rattle.std.specs.Prelude.{ℕ, zero, suc, ◌+◌, ◌*◌, ◌/◌, ◌%◌, ◌^◌, ◌≤◌, ◌<◌, ◌≡◌, refl, List, [], ◌∷◌, map, ◌++◌, true, false, length, get_or, set}
use Rattle.std.specs.Prelude.{drop, eqb, Float}
use Rattle.std.proofs.Common.{arith, sym, add-zero, ap, ◌∙◌, append-nil, length-append, length-drop, drop_of_length-le, drop-cons, length-take-le, eq-eqb}
use Rattle.std.proofs.Common.{ne_eqb, eqb-true}
use Rattle.std.proofs.Math.Nat.{pow-suc, div-div-eq-div-mul}
use Rattle.std.proofs.Math.Numerals.{towards_suc}
use Rattle.std.specs.Int.{sum_through, byte_worth, bytes_low_first}
use Rattle.std.specs.List.{slice_index}
use Rattle.std.proofs.lemmas.Bool.{false≢true}
use Rattle.std.proofs.lemmas.List.Edits.{sets, sets-eq}
use Rattle.std.specs.Float.{binary64}
use Rattle.std.specs.Float.Ieee.{to_bits}
use Rattle.float.specs.Laws.Tests.{and_left, and_right}
use Rattle.sheet.specs.Bytes.{little_endian, bytes, part, words_bytes, same_bytes}
use Rattle.sheet.specs.Promises.Floats.{float_bytes, floats_bytes}

-- ---- parts

-- a part that is not empty: its first byte, and the part after it
pub part_cons : (s : List ℕ) (at k : ℕ) → at < length s → part at (suc k) s ≡ get_or s at 0 ∷ part (suc at) k s
part_cons s at k h = rw (drop-cons s at 0)

pub length_part : (at k : ℕ) (s : List ℕ) → at + k ≤ length s → length (part at k s) ≡ k
length_part at k s h = length-take-le k (drop at s) (simp length-drop (omega arith))

-- ---- numbers

-- the number of two and of four bytes at a position, digit by digit
pub pair_is : (s : List ℕ) (at : ℕ) → at + 2 ≤ length s → little_endian (part at 2 s) ≡ get_or s at 0 + 256 * get_or s (at + 1) 0
unfolding little_endian
pair_is s at h = simp (towards_suc) (rw (drop-cons s at 0 (omega arith), drop-cons s (suc at) 0 (omega arith)) (omega arith))

pub half_is : (s : List ℕ) (at : ℕ) → at + 4 ≤ length s
    → little_endian (part at 4 s) ≡ get_or s at 0 + 256 * (get_or s (at + 1) 0 + 256 * (get_or s (at + 2) 0 + 256 * get_or s (at + 3) 0))
unfolding little_endian
half_is s at h =
    simp (towards_suc)
    (rw (
      drop-cons s at 0 (omega arith),
      drop-cons s (suc at) 0 (omega arith),
      drop-cons s (suc (suc at)) 0 (omega arith),
      drop-cons s (suc (suc (suc at))) 0 (omega arith),
    )
    (omega arith))

-- the number of eight bytes is that of its halves
pub word_is : (s : List ℕ) (at : ℕ) → at + 8 ≤ length s → little_endian (part at 8 s) ≡ little_endian (part at 4 s) + 2 ^ 32 * little_endian (part (at + 4) 4 s)
unfolding little_endian
word_is s at h =
    simp (towards_suc)
    (rw (
      drop-cons s at 0 (omega arith),
      drop-cons s (suc at) 0 (omega arith),
      drop-cons s (suc (suc at)) 0 (omega arith),
      drop-cons s (suc (suc (suc at))) 0 (omega arith),
    )
    (omega arith))

-- one byte more of a number
pub bytes_suc : (k v : ℕ) → bytes (suc k) v ≡ v % 256 ∷ bytes k (v / 256)
unfolding bytes
bytes_suc k v = refl

pub bytes_zero : (v : ℕ) → bytes 0 v ≡ []
unfolding bytes
bytes_zero v = refl

pub length_bytes : (k v : ℕ) → length (bytes k v) ≡ k
unfolding bytes
length_bytes zero v = refl
length_bytes (suc k) v = ap suc (length_bytes k (v / 256))

-- the k lowest bytes of a number hold it, if it is small enough
pub little_endian_bytes : (k v : ℕ) → v < 256 ^ k → little_endian (bytes k v) ≡ v
unfolding little_endian bytes
little_endian_bytes zero v h = omega arith
little_endian_bytes (suc k) v h = rw (little_endian_bytes k (v / 256) (omega arith)) (omega arith)

-- the number of bytes at a position has these bytes
pub bytes_part : (s : List ℕ) (at k : ℕ) → at + k ≤ length s → ((i : ℕ) → i < length s → get_or s i 0 < 256)
    → bytes k (little_endian (part at k s)) ≡ part at k s
unfolding little_endian bytes
bytes_part s at zero h b = refl
bytes_part s at (suc k) h b =
    let x = get_or s at 0 in
    let m = little_endian (part (suc at) k s) in
    let below : x < 256 = b at (omega arith) in
    let low : (x + 256 * m) % 256 ≡ x = omega arith in
    let rest : (x + 256 * m) / 256 ≡ m = omega arith in
    rw (part_cons s at k (omega arith), low, rest, bytes_part s (suc at) k (omega arith) b)

-- four bytes hold every number below 2 ^ 32
pub little_endian_half : (n : ℕ) → n < 2 ^ 32 → little_endian (bytes 4 n) ≡ n
little_endian_half n h = little_endian_bytes 4 n h

-- ---- std's numbers of bytes and bytes of numbers are these

number_through : ℕ → List ℕ → ℕ
number_through k bs = sum_through (λ (i : ℕ). byte_worth i (slice_index bs i)) k

through_suc : (b : ℕ) (bs : List ℕ) (k : ℕ) → number_through (suc k) (b ∷ bs) ≡ b + 256 * number_through k bs
unfolding number_through
through_suc b bs zero = omega arith
through_suc b bs (suc k) =
    let e : 256 ^ suc (suc k) ≡ 256 ^ suc k * 256 = pow-suc 256 (suc k) in
    rw e (omega (arith, through_suc b bs k))

pub from_le : (k : ℕ) (bs : List ℕ) → length bs ≡ suc k → sum_through (λ (i : ℕ). byte_worth i (slice_index bs i)) k ≡ little_endian bs
unfolding number_through little_endian
from_le k [] e = absurd (omega arith)
from_le zero (b ∷ []) e = omega arith
from_le zero (b ∷ (c ∷ bs)) e = absurd (omega arith)
from_le (suc k) (b ∷ bs) e = through_suc b bs k ∙ ap (λ (n : ℕ). b + 256 * n) (from_le k bs (omega arith))

low_first : (i k n : ℕ) → bytes_low_first (suc i) k n ≡ bytes k (n / 256 ^ suc i)
unfolding bytes
low_first i zero n = refl
low_first i (suc k) n =
    let e : n / 256 ^ suc i / 256 ≡ n / 256 ^ suc (suc i) = div-div-eq-div-mul n (256 ^ suc i) 256 ∙ ap (λ (m : ℕ). n / m) (sym (pow-suc 256 (suc i))) in
    rw (e, low_first (suc i) k n) refl

pub to_le : (k n : ℕ) → bytes_low_first 0 k n ≡ bytes k n
unfolding bytes
to_le zero n = refl
to_le (suc k) n = rw (low_first 0 k n) refl

-- ---- stores

module _ {A : Type 0} where
  -- two runs of stores, one after the other
  pub sets_append : (a b l : List A) (i : ℕ) → sets l i (a ++ b) ≡ sets (sets l i a) (i + length a) b
  sets_append [] b l i = rw add-zero
  sets_append (x ∷ a) b l i =
      let e : i + suc (length a) ≡ suc i + length a = omega arith in
      rw e (sets_append a b (set l i x) (suc i))

  -- a store at every place leaves nothing of what was there
  pub sets_all : (l a : List A) → length a ≡ length l → sets l 0 a ≡ a
  sets_all l a e =
      let h : 0 + length a ≤ length l = omega arith in
      let d : length l ≤ 0 + length a = omega arith in
      sets-eq a l 0 h ∙ rw (drop_of_length-le l d) (append-nil a)

-- ---- words and floats

pub length_words_bytes : (ws : List ℕ) → length (words_bytes ws) ≡ 8 * length ws
unfolding words_bytes
length_words_bytes [] = refl
length_words_bytes (w ∷ ws) = rw (length-append, length_bytes, length_words_bytes ws) (omega arith)

pub floats_words : (xs : List Float) → floats_bytes xs ≡ words_bytes (map (to_bits binary64) xs)
unfolding floats_bytes words_bytes
floats_words [] = refl
floats_words (x ∷ xs) = rw (floats_words xs)

pub floats_bytes_cons : (x : Float) (xs : List Float) → floats_bytes (x ∷ xs) ≡ float_bytes x ++ floats_bytes xs
unfolding floats_bytes
floats_bytes_cons x xs = refl

pub floats_bytes_nil : floats_bytes [] ≡ []
unfolding floats_bytes
floats_bytes_nil = refl

pub length_floats_bytes : (xs : List Float) → length (floats_bytes xs) ≡ 8 * length xs
unfolding floats_bytes
length_floats_bytes [] = refl
length_floats_bytes (x ∷ xs) = rw (length-append, length_bytes, length_floats_bytes xs) (omega arith)

-- ---- comparison

pub same_step : (a b : ℕ) (x y : List ℕ) → a ≡ b → same_bytes x y ≡ same_bytes (a ∷ x) (b ∷ y)
unfolding same_bytes
same_step a b x y e = rw (eq-eqb a b e)

pub same_stop : (a b : ℕ) (x y : List ℕ) → (a ≡ b → ⊥) → false ≡ same_bytes (a ∷ x) (b ∷ y)
unfolding same_bytes
same_stop a b x y e = rw (ne_eqb a b e)

pub same_nil : true ≡ same_bytes [] []
unfolding same_bytes
same_nil = refl

-- the comparison says what it should
pub same_is : (x y : List ℕ) → same_bytes x y ≡ true → x ≡ y
unfolding same_bytes
same_is [] [] e = refl
same_is [] (b ∷ y) e = absurd (false≢true e)
same_is (a ∷ x) [] e = absurd (false≢true e)
same_is (a ∷ x) (b ∷ y) e = rw (eqb-true a b (and_left (eqb a b) (same_bytes x y) e), same_is x y (and_right (eqb a b) (same_bytes x y) e))

pub same_itself : (x : List ℕ) → same_bytes x x ≡ true
unfolding same_bytes
same_itself [] = refl
same_itself (a ∷ x) = rw (eq-eqb a a refl, same_itself x)
