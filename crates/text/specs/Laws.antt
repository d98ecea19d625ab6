-- A line that begins at a place of s is a line with which what stands from there on begins.
use Rattle.std.specs.Prelude.{ℕ, zero, suc, ◌+◌, ◌*◌, ◌≤◌, ◌≡◌, refl, Bool, true, false, List, leb, drop, length, get_or}
use Rattle.std.proofs.Common.{arith, ap, ◌∙◌, length-drop, leb-true, leb-false, le-leb}
use Rattle.std.proofs.lemmas.Bool.{lt-leb}
use Rattle.std.proofs.lemmas.List.{get_or-drop}
use Rattle.digits.specs.Hex.{digits}
use Rattle.text.specs.Lines.{are_words, is_line}

byte_from : (s : List ℕ) (at i j : ℕ) → at + i ≡ j → get_or (drop at s) i 0 ≡ get_or s j 0
byte_from s at i j e = get_or-drop at s i 0 ∙ ap (λ (k : ℕ). get_or s k 0) e

digits_from : (s : List ℕ) (at i j n : ℕ) → at + i ≡ j → digits (drop at s) i n ≡ digits s j n
unfolding digits
digits_from s at i j zero e = refl
digits_from s at i j (suc n) e = rw (digits_from s at i j n e, byte_from s at (i + n) (j + n) (omega (arith, e)))

words_from : (s : List ℕ) (at i j k : ℕ) → at + i ≡ j → are_words (drop at s) i k ≡ are_words s j k
unfolding are_words
words_from s at i j zero e = refl
words_from s at i j (suc k) e =
    rw (
      words_from s at i j k e,
      byte_from s at (i + 17 * k) (j + 17 * k) (omega (arith, e)),
      digits_from s at (i + 17 * k + 1) (j + 17 * k + 1) 16 (omega (arith, e)),
    )

room_from : (s : List ℕ) (at n m : ℕ) → at ≤ length s → at + n ≡ m → leb n (length (drop at s)) ≡ leb m (length s)
room_from s at n m h e = go (leb m (length s)) refl
  where
    go : (b : Bool) → leb m (length s) ≡ b → leb n (length (drop at s)) ≡ b
    go true f = le-leb n (length (drop at s)) (omega (arith, length-drop at s, leb-true m (length s) f, h, e))
    go false f = lt-leb n (length (drop at s)) (omega (arith, length-drop at s, leb-false m (length s) f, h, e))

pub line_from : (s : List ℕ) (at k : ℕ) → at ≤ length s → is_line (drop at s) 0 k ≡ is_line s at k
unfolding is_line
line_from s at k h =
    rw (
      room_from s at (0 + 17 * k + 2) (at + 17 * k + 2) h (omega arith),
      byte_from s at (0 + 17 * k + 1) (at + 17 * k + 1) (omega arith),
      words_from s at (0 + 1) (at + 1) k (omega arith),
    )
