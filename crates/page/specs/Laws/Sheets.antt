-- What is known of a checked sheet: its n and where its name stands; how long its pages are, that they are lines of 64 characters, and that every angle on
-- them shows its digits.
use Rattle.std.specs.Prelude.{ℕ, suc, ◌+◌, ◌*◌, ◌-◌, ◌≤◌, ◌≡◌, refl, Bool, true, false, cond, List, [], ◌∷◌, map, eqb, leb, pos, length, take, drop, Float}
use Rattle.std.specs.Prelude.{Option}
use Rattle.std.proofs.Common.{arith, sym, ◌∙◌, length-take, length-drop, drop_at, drop-drop, take-add, length-take-le, leb-true}
use Rattle.std.proofs.Math.Path.{ap}
use Rattle.std.specs.Float.{fin, binary64}
use Rattle.std.specs.Float.Ieee.{of_bits, to_bits}
use Rattle.std.specs.Float.Ieee.Bits.{of_bits-to_bits}
use Rattle.sheet.specs.Bytes.{part}
use Rattle.sheet.specs.Edition.{newest}
use Rattle.sheet.specs.Request.{request_size, name_at, name_size}
use Rattle.sheet.specs.Fields.{job_of}
use Rattle.sheet.specs.Refusals.{accepted}
use Rattle.sheet.specs.Sampling.{angles, items}
use Rattle.sheet.specs.Sheet.{trailer_size, frame_size}
use Rattle.sheet.specs.Validate.{is_character, all_zero, is_name, name_right}
use Rattle.sheet.specs.Check.{request_of, listed, count_of}
use Rattle.sheet.specs.Demands.{Written}
use Rattle.sheet.specs.declared.edition.Edition.{Edition}
use Rattle.sheet.specs.Laws.Bounds.{passed_small}
use Rattle.sheet.specs.Laws.Demands.{sound}
use Rattle.sheet.specs.Laws.Listed.{length_words, written_passed, written_size, written_count, written_few, written_known, written_listed}
use Rattle.sheet.specs.Laws.Places.{core_least, named_most}
use Rattle.sheet.specs.Check as Check
use Rattle.float.specs.Laws.Tests.{and_left, and_right}
use Rattle.float.specs.Laws.Within.{weaken}
use Rattle.polynomial.specs.Promises.Lists.{All, Fit}
use Rattle.sampling.proofs.Laws.Woven.{Small}
use Rattle.sampling.proofs.Laws.Fit.{angles_fit}
use Rattle.page.specs.Page.{letter, on_page}
use Rattle.page.specs.Operation.{name_by, name_of, text}
use Rattle.page.specs.Promises.Sheets.{Paged, angles_on}
use Rattle.page.specs.Laws.Decimal.{Shown, within_shown}
use Rattle.page.specs.Laws.Lines.{length_page}
use Rattle.page.specs.Laws.Characters.{Printed, InLines, page_in}

-- ---- where the name stands

drop_front : (i m : ℕ) (l : List ℕ) → i ≤ length l → drop i (take (i + m) l) ≡ take m (drop i l)
drop_front i m l h = rw (take-add i m l) (drop_at (take i l) (take m (drop i l)) i (length-take-le i l h))

module _ (s : List ℕ) (places n : ℕ) (p : Written newest s places n) where
  abbrev own : Edition
  own = p.edition

  abbrev inside : List ℕ
  inside = request_of own s

  named : name_of s ≡ drop name_at inside
  named = ap (λ (t : Option Edition). name_by t s) (written_known newest s places n p)

  -- what is left between the request's core and the trailer
  name_stands : part (8 * n + name_at) (length s - trailer_size - (8 * n + name_at)) s ≡ drop name_at inside
  name_stands =
      let l = written_size newest s places n p in
      let c = core_least own in
      let m = request_size own - name_at in
      let a : length s - trailer_size - (8 * n + name_at) ≡ m = omega arith in
      let b : length s - frame_size own ≡ 8 * n = omega arith in
      let d : request_size own ≡ name_at + m = omega arith in
      let r : name_at ≤ length (drop (8 * n) s) = rw (length-drop (8 * n) s) (omega arith) in
      let i : inside ≡ take (name_at + m) (drop (8 * n) s) =
      ap (λ (k : ℕ). take (request_size own) (drop k s)) b ∙ ap (λ (k : ℕ). take k (drop (8 * n) s)) d in
      ap (λ (k : ℕ). take k (drop (8 * n + name_at) s)) a
      ∙ sym (ap (drop name_at) i ∙ drop_front name_at m (drop (8 * n) s) r ∙ ap (take m) (drop-drop name_at (8 * n) s))

  paged_by : Paged s n
  paged_by =
      let l = written_size newest s places n p in
      record {
        count = sym (written_count newest s places n p);
        few = omega (arith, written_few newest s places n p);
        least = omega (arith, l, core_least own);
        name = name_stands ∙ sym named;
        short = omega (arith, l, named_most own);
      }

-- ---- what follows of it

module _ (s : List ℕ) (n : ℕ) (p : Paged s n) where
  pub name_short : length (name_of s) ≤ name_size
  name_short = rw (← p.name, length-take) (omega (arith, p.short))

  pub listed_count : length (listed s) ≡ n
  listed_count = length_words (count_of s) s ∙ sym p.count

  -- a page has a line for its name and one for each of its angles
  pub length_text : (k : ℕ) → length (text s k) ≡ 65 + 65 * angles_on n k
  unfolding text
  length_text k =
      length_page (name_of s) (listed s) k (omega (arith, name_short)) ∙ ap (λ (m : ℕ). 65 + 65 * angles_on m k) listed_count

-- ---- the name's letters

character_printed : (b : ℕ) → is_character b ≡ true → Printed (letter b)
character_printed b e = go (eqb b 0) refl
  where
    go : (z : Bool) → eqb b 0 ≡ z → Printed (cond z 32 b)
    go true f = record { low = omega arith; high = omega arith }
    go false f = record { low = leb-true 32 b (and_left (leb 32 b) (leb b 126) e); high = leb-true b 126 (and_right (leb 32 b) (leb b 126) e) }

zeros_printed : (l : List ℕ) → all_zero l ≡ true → All Printed (map letter l)
unfolding all_zero
zeros_printed [] e = tt
zeros_printed (b ∷ bs) e =
    (rw (and_left (eqb b 0) (all_zero bs) e) (record { low = omega arith; high = omega arith }), zeros_printed bs (and_right (eqb b 0) (all_zero bs) e))

name_printed : (l : List ℕ) → is_name l ≡ true → All Printed (map letter l)
unfolding is_name
name_printed [] e = tt
name_printed (b ∷ bs) e = go (is_character b) refl e (name_printed bs)
  where
    go : (c : Bool) → is_character b ≡ c → cond c (is_name bs) (all_zero (b ∷ bs)) ≡ true → (is_name bs ≡ true → All Printed (map letter bs))
        → All Printed (map letter (b ∷ bs))
    go true c e f = (character_printed b c, f e)
    go false c e f = zeros_printed (b ∷ bs) e

-- ---- the angles

-- what is within 32 shows its digits
all_digits : (l : List Float) → Fit l → All Small l → All (λ w. Shown (of_bits binary64 w)) (map (to_bits binary64) l)
all_digits [] f h = tt
all_digits (x ∷ l) f h =
    (rw (of_bits-to_bits binary64 x f.0) (within_shown x (weaken (fin false 99999 (pos 0)) tt h.0)), all_digits l f.1 h.1)

module _ (s : List ℕ) (places n : ℕ) (q : Check.answer newest s places ≡ accepted n) where
  abbrev written : Written newest s places n
  written = sound newest s places n q

  -- A checked sheet has at most 351,239 angles, so that every place fits its columns.
  pub paged : Paged s n
  paged = paged_by s places n written

  -- THEOREM: Page k is its name's line and one for each of its angles, each of 64 characters and a line feed.
  pub text_in : (k : ℕ) → InLines (suc (length (on_page k (listed s)))) (text s k)
  unfolding text name_right
  text_in k =
      let r = request_of written.edition s in
      let g : All Printed (map letter (name_of s)) = rw (named s places n written)
      (name_printed (drop name_at r) (written_passed newest s places n written).name) in
      page_in (name_of s) (omega (arith, name_short s n paged)) g (listed s) k

  -- THEOREM: Every angle of a checked sheet shows its digits, and none asterisks.
  pub all_shown : All (λ w. Shown (of_bits binary64 w)) (listed s)
  unfolding items angles
  all_shown =
      let r = request_of written.edition s in
      rw (written_listed newest s places n written)
      (all_digits (angles r) (angles_fit (job_of r)) (passed_small written.edition r (written_passed newest s places n written)))
