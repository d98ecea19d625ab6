-- Lines one after the other are those of the definition; a text written in the first bytes fills them.
use Rattle.std.proofs.Common.{ℕ, zero, suc, ◌+◌, ◌*◌, ◌-◌, ◌/◌, ◌≤◌, ◌<◌, arith, ◌≡◌, refl, sym, ◌∙◌, List, [], ◌∷◌, ◌++◌, length, take, drop}
use Rattle.std.proofs.Common.{append_assoc, drop_at, drop-drop, le-leb, length-append, take_all}
use Rattle.std.proofs.lemmas.Bool.{lt-leb}
use Rattle.std.proofs.lemmas.List.{append-nil, drop-take, take_at, take-take}
use Rattle.std.proofs.lemmas.List.Edits.{sets}
use Rattle.std.proofs.lemmas.Slice.{take-put_mid}
use borrow.Rule.Slice.PartMut.{put_mid}
use Rattle.sheet.specs.Bytes.{little_endian}
use Rattle.digits.specs.Hex.{spelled}
use Rattle.digits.specs.Laws.Lengths.{length_spelled}
use Rattle.digits.specs.Laws.Stores.{stored}
use Rattle.listing.specs.Listing.{lines, filled, after}
use Rattle.listing.specs.Laws.Room.{length_lines}

-- ---- a line
abbrev pub line : ℕ → List ℕ
line w = spelled 16 w ++ (10 ∷ [])

length_line : (w : ℕ) → length (line w) ≡ 17
length_line w = rw (length-append, length_spelled 16 w)

-- ---- lines
-- the items from the second on stand eight bytes further on
lines_behind : (s : List ℕ) (i n : ℕ) → lines s (suc i) n ≡ lines (drop 8 s) i n
unfolding lines
lines_behind s i zero = refl
lines_behind s i (suc n) =
    let e : 8 * suc i ≡ 8 + 8 * i = omega arith in
    rw (e, ← drop-drop (8 * i) 8 s, lines_behind s (suc i) n)

-- a turn writes the line of the first item that is left
pub lines_turn : (out left this rest new : List ℕ) (k : ℕ) → 17 * (k + 1) ≤ length out → left ≡ this ++ rest → length this ≡ 8
    → new ≡ line (little_endian (take 8 this))
    → take (17 * (k + 1)) (put_mid (17 * k) (17 * (k + 1) - 17 * k) out new) ++ lines rest 0 (length rest / 8)
    ≡ take (17 * k) out ++ lines left 0 (length left / 8)
unfolding lines
lines_turn out left this rest new k h e a w =
    let m : length left / 8 ≡ suc (length rest / 8) = rw (e, length-append, a) (omega arith) in
    let l : length new ≡ 17 = rw w (length_line (little_endian (take 8 this))) in
    let first : take 8 left ≡ take 8 this = rw (e, take_at this rest 8 a) (sym (take_all 8 this (omega arith))) in
    let others : drop 8 left ≡ rest = rw e (drop_at this rest 8 a) in
    rw (
      take-put_mid (17 * k) (17 * (k + 1) - 17 * k) out new (17 * (k + 1)) (omega arith) (omega arith),
      m,
      lines_behind left 0 (length rest / 8),
      first,
      others,
      w,
    )
    (append_assoc (take (17 * k) out) (line (little_endian (take 8 this))) (lines rest 0 (length rest / 8)))

pub lines_done : (out left ls : List ℕ) (k n : ℕ) → length out ≡ 17 * n → k + length left / 8 ≡ n → length left < 8
    → take (17 * k) out ++ lines left 0 (length left / 8) ≡ ls → out ≡ ls
unfolding lines
lines_done out left ls k n l e h g =
    let z : length left / 8 ≡ 0 = omega arith in
    let t : take (17 * k) out ≡ out = take_all (17 * k) out (omega arith) in
    sym (append-nil out) ∙ rw (z, t) at g

-- the first items stand in the first bytes
lines_in : (s : List ℕ) (i n m : ℕ) → i + n ≤ m → lines (take (8 * m) s) i n ≡ lines s i n
unfolding lines
lines_in s i zero m h = refl
lines_in s i (suc n) m h =
    let r = m - i in
    let e : 8 * m ≡ 8 * i + 8 * r = omega arith in
    let f : take 8 (drop (8 * i) (take (8 * m) s)) ≡ take 8 (drop (8 * i) s) =
    rw (e, drop-take (8 * i) (8 * r) s) (take-take 8 (8 * r) (drop (8 * i) s) (omega arith)) in
    rw (f, lines_in s (suc i) n m (omega arith))

pub lines_front : (s : List ℕ) (n : ℕ) → lines (take (8 * n) s) 0 n ≡ lines s 0 n
lines_front s n = lines_in s 0 n n (omega arith)

-- a line by itself
pub alone : (t s : List ℕ) → t ++ lines s 0 0 ≡ t
unfolding lines
alone t s = append-nil t

-- ---- a text in the first bytes
pub sets_filled : (t lent : List ℕ) → length t ≤ length lent → sets lent 0 t ≡ filled t lent
sets_filled t lent h = stored t lent (length t) refl h

pub front : (t lent : List ℕ) (k : ℕ) → k ≡ length t → k ≤ length lent → take k (sets lent 0 t) ≡ t
front t lent k e h = rw (sets_filled t lent (omega arith), e) (take_at t (drop (length t) lent) (length t) refl)

pub length_text : (head s : List ℕ) (n : ℕ) → length (head ++ lines s 0 n) ≡ length head + 17 * n
length_text head s n = rw (length-append, length_lines s 0 n)

pub fits : (t lent : List ℕ) → length t ≤ length lent → after t lent ≡ t ++ drop (length t) lent
fits t lent h = rw (le-leb (length t) (length lent) h)

-- a first line and the lines behind it
pub fits_both : (t head s rest lent : List ℕ) (n m k : ℕ) → t ≡ head → m ≡ length head → rest ≡ drop m lent → k ≡ 17 * n → m + k ≤ length lent
    → after (head ++ lines s 0 n) lent ≡ t ++ (lines s 0 n ++ drop k rest)
fits_both t head s rest lent n m k e f g h l =
    let z : length (head ++ lines s 0 n) ≡ m + k = length_text head s n ∙ omega arith in
    fits (head ++ lines s 0 n) lent (rw z l)
    ∙ rw (e, g, z, drop-drop k m lent) (append_assoc head (lines s 0 n) (drop (m + k) lent))

pub fails : (t lent : List ℕ) → length lent < length t → after t lent ≡ lent
fails t lent h = rw (lt-leb (length t) (length lent) h)
