-- Lines and pages, written part by part, are those of the definition.
use Rattle.std.proofs.Common.{ℕ, zero, suc, ◌+◌, ◌-◌, ◌*◌, ◌≤◌, ◌<◌, arith, ◌≡◌, refl, sym, ap, ◌∙◌, Bool, true, false, List, [], ◌∷◌, ◌++◌, map}
use Rattle.std.proofs.Common.{leb, length, set, take, drop}
use Rattle.std.proofs.Common.{◌/◌, append_assoc, drop_at, drop-drop, zero-add, length-append, length-drop, take_all, leb-true, leb-false}
use Rattle.std.proofs.lemmas.List.{append-nil, drop-replicate, drop-take, set_at, take-take, take_at}
use Rattle.std.specs.List.{between}
use Rattle.std.proofs.lemmas.List.Edits.{length-between}
use Rattle.std.proofs.lemmas.Slice.{take-put_mid}
use Rattle.sheet.specs.Bytes.{little_endian, words}
use Rattle.std.specs.Float.{binary64}
use Rattle.std.specs.Float.Ieee.{of_bits}
use borrow.Rule.Slice.PartMut.{put_mid}
use Rattle.digits.specs.Hex.{spelled}
use Rattle.digits.specs.Decimal.{whole, blanks, columns}
use Rattle.digits.specs.Promises.Columns.{number}
use Rattle.digits.specs.Laws.Lengths.{length_spelled}
use Rattle.digits.specs.Laws.Columns.{length_columns, replicate_last}
use Rattle.digits.specs.Laws.Stores.{replaced}
use Rattle.page.specs.Decimal.{decimal}
use Rattle.page.specs.Page.{line, letter, name_line, lines, per_page, before_page, on_page, page}
use Rattle.page.specs.Operation.{name_of, text}
use Rattle.page.specs.Promises.Sheets.{Paged, angles_on}
use Rattle.sheet.specs.Laws.Listed.{length_words}
use Rattle.page.specs.Laws.Decimal.{length_decimal}
use Rattle.page.specs.Laws.Lines.{place_is, length_line, length_named}

-- ---- a line
-- the three columns over blanks, and the line's end
over_blanks : (a h d : List ℕ) → length a ≡ 6 → length h ≡ 16 → length d ≡ 16
    → set (put_mid 26 16 (put_mid 8 16 (a ++ blanks 59) h) d) 64 10 ≡ a ++ blanks 2 ++ h ++ blanks 2 ++ d ++ blanks 22 ++ (10 ∷ [])
over_blanks a h d la lh ld =
    let p = a ++ blanks 2 in
    let q = p ++ h ++ blanks 2 in
    let e : a ++ blanks 59 ≡ p ++ (blanks 16 ++ blanks 41) = sym (append_assoc a (blanks 2) (blanks 57)) in
    let f : p ++ (h ++ blanks 41) ≡ q ++ (blanks 16 ++ blanks 23) =
    sym (append_assoc (p ++ h) (blanks 2) (blanks 39) ∙ append_assoc p h (blanks 41)) in
    let g : q ++ (d ++ blanks 23) ≡ (q ++ d ++ blanks 22) ++ (32 ∷ []) =
    sym (append_assoc (q ++ d) (blanks 22) (32 ∷ []) ∙ append_assoc q d (blanks 23)) in
    rw (
      e,
      replaced p (blanks 16) (blanks 41) h 8 16 (simp (length-append, la)) refl,
      f,
      replaced q (blanks 16) (blanks 23) d 26 16 (simp (length-append, la, lh)) refl,
      g,
    )
    (set_at (q ++ d ++ blanks 22) 32 [] 10 64 (simp (length-append, la, lh, ld)))

pub line_is : (place angle : ℕ) → place < 1000000
    → set (put_mid 26 16 (put_mid 8 16 (number 5 false place ++ blanks 59) (spelled 16 angle)) (decimal (of_bits binary64 angle))) 64 10 ≡ line place angle
unfolding line
line_is place angle small =
    rw (place_is place small)
    (over_blanks (columns 6 (whole place)) (spelled 16 angle) (decimal (of_bits binary64 angle)) (length_columns 6 (whole place)) (length_spelled 16 angle)
    (length_decimal (of_bits binary64 angle)))

-- ---- lines
-- a turn writes the line of the first angle that is left
pub lines_turn : (out left angle rest new : List ℕ) (place k : ℕ) → 65 * (k + 1) ≤ length out → left ≡ angle ++ rest → length angle ≡ 8
    → new ≡ line (place + k) (little_endian (take 8 angle))
    → take (65 * (k + 1)) (put_mid (65 * k) (65 * (k + 1) - 65 * k) out new) ++ lines (place + (k + 1)) (words (length rest / 8) rest)
    ≡ take (65 * k) out ++ lines (place + k) (words (length left / 8) left)
unfolding words lines
lines_turn out left angle rest new place k h e a w =
    let m : length left / 8 ≡ suc (length rest / 8) = rw (e, length-append, a) (omega arith) in
    let l : length new ≡ 65 = rw (w, length_line (place + k) (little_endian (take 8 angle))) in
    let p : place + (k + 1) ≡ suc (place + k) = omega arith in
    let first : take 8 left ≡ take 8 angle = rw (e, take_at angle rest 8 a) (sym (take_all 8 angle (omega arith))) in
    let others : drop 8 left ≡ rest = rw e (drop_at angle rest 8 a) in
    rw (take-put_mid (65 * k) (65 * (k + 1) - 65 * k) out new (65 * (k + 1)) (omega arith) (omega arith), m, p, first, others, w)
    (append_assoc (take (65 * k) out) (line (place + k) (little_endian (take 8 angle))) (lines (suc (place + k)) (words (length rest / 8) rest)))

pub lines_done : (out left ls : List ℕ) (place k n : ℕ) → length out ≡ 65 * n → k + length left / 8 ≡ n → length left < 8
    → take (65 * k) out ++ lines (place + k) (words (length left / 8) left) ≡ ls → out ≡ ls
unfolding words lines
lines_done out left ls place k n l e h g =
    let z : length left / 8 ≡ 0 = omega arith in
    let t : take (65 * k) out ≡ out = take_all (65 * k) out (omega arith) in
    sym (append-nil out) ∙ rw (z, t) at g

-- ---- the first line
blanks_left : (k : ℕ) → k ≤ 64 → drop k (blanks 65) ≡ blanks (64 - k) ++ (32 ∷ [])
blanks_left k h =
    let e : 65 - k ≡ suc (64 - k) = omega arith in
    drop-replicate k 65 32 ∙ rw (e, replicate_last (64 - k) 32)

pub head_is : (name : List ℕ) → length name ≤ 32 → set (map letter name ++ drop (length name) (blanks 65)) 64 10 ≡ name_line name
unfolding name_line
head_is name h =
    let l : length (map letter name ++ blanks (64 - length name)) ≡ 64 = length_named name (omega arith) in
    rw (blanks_left (length name) (omega arith), ← append_assoc) (set_at (map letter name ++ blanks (64 - length name)) 32 [] 10 64 l)

-- ---- the angles of a page
words_drop : (k n : ℕ) (s : List ℕ) → drop k (words (k + n) s) ≡ words n (drop (8 * k) s)
unfolding words
words_drop zero n s = rw (zero-add n)
words_drop (suc k) n s =
    let e : suc k + n ≡ suc (k + n) = omega arith in
    let f : 8 * suc k ≡ 8 + 8 * k = omega arith in
    rw (e, f) (words_drop k n (drop 8 s) ∙ ap (words n) (drop-drop (8 * k) 8 s))

words_take : (k n : ℕ) (s : List ℕ) → take k (words (k + n) s) ≡ words k (take (8 * k) s)
unfolding words
words_take zero n s = refl
words_take (suc k) n s =
    let e : suc k + n ≡ suc (k + n) = omega arith in
    let f : 8 * suc k ≡ 8 + 8 * k = omega arith in
    let g : take 8 (take (8 + 8 * k) s) ≡ take 8 s = take-take 8 (8 + 8 * k) s (omega arith) in
    rw (e, f, g, drop-take 8 (8 * k) s, words_take k n (drop 8 s))

-- m angles from one on stand in the bytes from its own on
pub words_part : (i m n : ℕ) (s : List ℕ) → i + m ≤ n → 8 * n ≤ length s
    → words (length (between (8 * i) (8 * (i + m)) s) / 8) (between (8 * i) (8 * (i + m)) s) ≡ take m (drop i (words n s))
words_part i m n s h l =
    let r = n - i - m in
    let e : n ≡ i + (m + r) = omega arith in
    let b : 8 * (i + m) - 8 * i ≡ 8 * m = omega arith in
    let k : length (between (8 * i) (8 * (i + m)) s) / 8 ≡ m = rw (length-between s (8 * i) (8 * (i + m)) (omega arith)) (omega arith) in
    let a : take m (drop i (words n s)) ≡ words m (take (8 * m) (drop (8 * i) s)) =
    ap (λ (j : ℕ). take m (drop i (words j s))) e ∙ ap (take m) (words_drop i (m + r) s) ∙ words_take m r (drop (8 * i) s) in
    rw (k, b) (sym a)

-- so many of the angles that are left as there are, up to 60
on_page_is : (k n : ℕ) (ws : List ℕ) → length ws ≡ n → take (angles_on n k) (drop (before_page k) ws) ≡ on_page k ws
unfolding on_page
on_page_is k n ws e = go (leb per_page (length left)) refl
  where
    left : List ℕ
    left = drop (before_page k) ws

    len : length left ≡ n - before_page k
    len = length-drop (before_page k) ws ∙ ap (λ (m : ℕ). m - before_page k) e

    go : (b : Bool) → leb per_page (length left) ≡ b → take (angles_on n k) left ≡ take per_page left
    go true t =
        let f : angles_on n k ≡ per_page = omega (arith, len, leb-true per_page (length left) t) in
        rw f
    go false t =
        let s : length left ≤ per_page = omega (arith, leb-false per_page (length left) t) in
        take_all (angles_on n k) left (omega (arith, len)) ∙ sym (take_all per_page left s)

pub text_is : (s : List ℕ) (n k : ℕ) → Paged s n → before_page k + angles_on n k ≤ n →
    let part = between (8 * before_page k) (8 * (before_page k + angles_on n k)) s in
    name_line (name_of s) ++ lines (before_page k + 1) (words (length part / 8) part) ≡ text s k
unfolding text page
text_is s n k p h =
    let e : before_page k + 1 ≡ suc (before_page k) = omega arith in
    rw (e, words_part (before_page k) (angles_on n k) n s h (omega (arith, p.least)), on_page_is k n (words n s) (length_words n s), ← p.count)
