-- The refusals of Check one by one, and the parts of a sheet.
use Rattle.std.specs.Prelude.{ℕ, ◌+◌, ◌-◌, ◌*◌, ◌≤◌, ◌<◌, List, ◌++◌, Bool, take, drop, get_or, eqb, Float, Some, None}
use Rattle.std.proofs.Common.{arith, ◌∙◌, append_assoc, length-append, take_at, drop_at, get_or-take, get_or-drop}
use Rattle.std.proofs.Math.Path.{◌≡◌, refl, sym, ap}
use Rattle.std.proofs.Math.Bool.{true, false, cond}
use Rattle.std.proofs.Math.ListN.{length}
use Rattle.std.proofs.Math.Dec.{leb, ltb}
use borrow.Author.Tests.{eqb-true, leb-true, eq-eqb, ne_eqb, le-leb, lt-leb, lt-ltb, le-ltb}
use Rattle.sheet.specs.Bytes.{little_endian, bytes, part, same_bytes}
use Rattle.sheet.specs.Edition.{number, newest, numbered, known}
use Rattle.sheet.specs.declared.edition.Edition.{Edition}
use Rattle.sheet.specs.declared.edition.Edition.TheVariants.{One, Two}
use Rattle.sheet.specs.Refusals.{refused, need}
use Rattle.sheet.specs.Sheet.{trailer, trailer_size, frame_size, items_bound, sheet_size}
use Rattle.sheet.specs.Request.{core_size, request_size}
use Rattle.sheet.specs.Check.{trailer_of, count_of, edition_of, request_of, items_of, formed, by_edition, by_said, answer}
use Rattle.sheet.specs.Promises.Plan.{work_left, work_by, work_said, work_checked, compared, checked}
use Rattle.float.specs.Laws.Tests.{and_left, and_right}
use Rattle.sheet.specs.Laws.Bytes.{length_bytes, length_part, pair_is, same_is}
use Rattle.sheet.specs.Laws.Sheet.{length_trailer}

-- ---- 31, and the edition

pub answer_short : (upto : Edition) (s : List ℕ) (places : ℕ) → length s < core_size + trailer_size → refused 31 ≡ answer upto s places
unfolding answer need
answer_short upto s places h = rw (lt-leb (core_size + trailer_size) (length s) h)

module _ (upto : Edition) (s : List ℕ) (places : ℕ) (h : core_size + trailer_size ≤ length s) where
  pub answer_unknown : known upto (edition_of s) ≡ None → refused 32 ≡ answer upto s places
  unfolding answer by_said need
  answer_unknown k = rw (le-leb (core_size + trailer_size) (length s) h, k)

  pub answer_known : (e : Edition) → known upto (edition_of s) ≡ Some e → by_edition e s places ≡ answer upto s places
  unfolding answer by_said need
  answer_known e k = rw (le-leb (core_size + trailer_size) (length s) h, k)

-- an edition is known by its number, unless it is later than the newest known
numbered_own : (e : Edition) → numbered (number e) ≡ Some e
unfolding numbered
numbered_own One = refl
numbered_own Two = refl

module _ (upto e : Edition) where
  pub known_number : number e ≤ number upto → known upto (number e) ≡ Some e
  unfolding known
  known_number h = rw (le-leb (number e) (number upto) h, numbered_own e)

  pub not_known : number upto < number e → known upto (number e) ≡ None
  unfolding known
  not_known h = rw (lt-leb (number e) (number upto) h)

-- and it has the number that it is known by, which is that of the newest known at most
said_number : (e : Edition) (k : ℕ) (b c : Bool) → (b ≡ true → k ≡ number One) → (c ≡ true → k ≡ number Two)
    → cond b (Some One) (cond c (Some Two) None) ≡ Some e → k ≡ number e
said_number e k true c h i q = let z : One ≡ e = cc in h refl ∙ ap number z
said_number e k false true h i q = let z : Two ≡ e = cc in i refl ∙ ap number z
said_number e k false false h i q = let z : ◌≡◌ {A = ℕ} 0 1 = cc in absurd (omega arith)

module _ (upto e : Edition) (k : ℕ) where
  pub known_said : known upto k ≡ Some e → k ≡ number e
  unfolding known numbered
  known_said = go (leb k (number upto))
    where
      go : (b : Bool) → cond b (numbered k) None ≡ Some e → k ≡ number e
      go true q = said_number e k (eqb k (number One)) (eqb k (number Two)) (eqb-true k (number One)) (eqb-true k (number Two)) q
      go false q = let z : ◌≡◌ {A = ℕ} 0 1 = cc in absurd (omega arith)

  pub known_upto : known upto k ≡ Some e → k ≤ number upto
  unfolding known
  known_upto = go (leb k (number upto)) refl
    where
      go : (b : Bool) → leb k (number upto) ≡ b → cond b (numbered k) None ≡ Some e → k ≤ number upto
      go true l q = leb-true k (number upto) l
      go false l q = let z : ◌≡◌ {A = ℕ} 0 1 = cc in absurd (omega arith)

-- ---- 32

module _ (e : Edition) (s : List ℕ) where
  pub edition_unformed : (places : ℕ) → formed e s ≡ false → refused 32 ≡ by_edition e s places
  unfolding by_edition need
  edition_unformed places f = rw f

  pub edition_formed : (places : ℕ) → formed e s ≡ true → by_edition e s places ≡ checked e (request_of e s) (items_of e s) (count_of s) places
  unfolding by_edition checked compared need
  edition_formed places f = rw f

  pub formed_length : formed e s ≡ true → length s ≡ sheet_size e (count_of s)
  unfolding formed
  formed_length f = eqb-true (length s) (sheet_size e (count_of s)) (and_left (eqb (length s) (sheet_size e (count_of s))) _ f)

  pub formed_no : (n : ℕ) → n ≡ count_of s → (length s ≡ sheet_size e n → ⊥) → false ≡ formed e s
  unfolding formed
  formed_no n c h = rw (ne_eqb (length s) (sheet_size e (count_of s)) (λ q. h (q ∙ ap (sheet_size e) (sym c))))

  pub formed_wide : (n : ℕ) → n ≡ count_of s → length s ≡ sheet_size e n → items_bound ≤ n → false ≡ formed e s
  unfolding formed
  formed_wide n c h k =
      rw (eq-eqb (length s) (sheet_size e (count_of s)) (h ∙ ap (sheet_size e) c), le-ltb (count_of s) items_bound (omega (arith, c)))

  -- the last bytes are compared with the trailer's
  pub formed_by : (b : List ℕ) (n : ℕ) → n ≡ count_of s → length s ≡ sheet_size e n → n < items_bound
      → b ≡ trailer e n → same_bytes (part (length s - trailer_size) (length b) s) b ≡ formed e s
  unfolding formed
  formed_by b n c h w g =
      let k : length s ≡ sheet_size e (count_of s) = h ∙ ap (sheet_size e) c in
      let v : ltb (count_of s) items_bound ≡ true = lt-ltb (count_of s) items_bound (omega (arith, c)) in
      rw (eq-eqb (length s) (sheet_size e (count_of s)) k, v, g, length_trailer e n)
      (ap (λ (m : ℕ). same_bytes (part (length s - trailer_size) trailer_size s) (trailer e m)) c)

-- ---- what work holds, before it is cleared

module _ (s : List ℕ) (w : List Float) where
  pub left_short : length s < core_size + trailer_size → w ≡ work_checked s w
  unfolding work_checked
  left_short h = rw (lt-leb (core_size + trailer_size) (length s) h)

  pub left_unknown : core_size + trailer_size ≤ length s → known newest (edition_of s) ≡ None → w ≡ work_checked s w
  unfolding work_checked work_said
  left_unknown h k = rw (le-leb (core_size + trailer_size) (length s) h, k)

  pub left_known : (e : Edition) → core_size + trailer_size ≤ length s → known newest (edition_of s) ≡ Some e → work_by e s w ≡ work_checked s w
  unfolding work_checked work_said
  left_known e h k = rw (le-leb (core_size + trailer_size) (length s) h, k)

  pub left_unformed : (e : Edition) → formed e s ≡ false → w ≡ work_by e s w
  unfolding work_by
  left_unformed e f = rw f

  pub left_formed : (e : Edition) → formed e s ≡ true → work_left e (request_of e s) w ≡ work_by e s w
  unfolding work_by
  left_formed e f = rw f

-- ---- the edition that a trailer says

-- its bytes 8 and 9
edition_in : (e : Edition) (n : ℕ) → part 8 2 (trailer e n) ≡ bytes 2 (number e)
unfolding trailer
edition_in e n =
    let a = bytes 4 n ++ bytes 4 (8 * n) in
    let l : length a ≡ 8 = omega (arith, length-append (bytes 4 n) (bytes 4 (8 * n)), length_bytes 4 n, length_bytes 4 (8 * n)) in
    ap (take 2) (ap (drop 8) (append_assoc a (bytes 2 (number e)) (bytes 6 0)) ∙ drop_at a (bytes 2 (number e) ++ bytes 6 0) 8 l)
    ∙ take_at (bytes 2 (number e)) (bytes 6 0) 2 (length_bytes 2 (number e))

two_bytes : (e : Edition) → little_endian (bytes 2 (number e)) ≡ number e
unfolding little_endian bytes
two_bytes One = refl
two_bytes Two = refl

pub trailer_says : (e : Edition) (s : List ℕ) (n : ℕ) → trailer_of s ≡ trailer e n → edition_of s ≡ number e
trailer_says e s n t = ap (λ (l : List ℕ). little_endian (part 8 2 l)) t ∙ ap little_endian (edition_in e n) ∙ two_bytes e

-- where it stands in the sheet
pub edition_at : (s : List ℕ) → core_size + trailer_size ≤ length s → little_endian (part (length s - trailer_size + 8) 2 s) ≡ edition_of s
edition_at s h =
    let k = length s - trailer_size in
    let l : length (trailer_of s) ≡ trailer_size = length_part k trailer_size s (omega arith) in
    let a : get_or (trailer_of s) 8 0 ≡ get_or s (k + 8) 0 = get_or-take trailer_size (drop k s) 8 0 (omega arith) ∙ get_or-drop k s 8 0 in
    let n : k + 9 ≡ k + 8 + 1 = omega arith in
    let b : get_or (trailer_of s) 9 0 ≡ get_or s (k + 8 + 1) 0 =
    get_or-take trailer_size (drop k s) 9 0 (omega arith) ∙ get_or-drop k s 9 0 ∙ ap (λ (j : ℕ). get_or s j 0) n in
    pair_is s (k + 8) (omega arith) ∙ sym (pair_is (trailer_of s) 8 (omega arith) ∙ rw (a, b))

-- a formed sheet says its edition
pub formed_edition : (e : Edition) (s : List ℕ) → formed e s ≡ true → edition_of s ≡ number e
unfolding formed
formed_edition e s f =
    trailer_says e s (count_of s)
    (same_is _ _ (and_right (ltb (count_of s) items_bound) _ (and_right (eqb (length s) (sheet_size e (count_of s))) _ f)))

-- ---- the parts of a sheet

pub request_is : (e : Edition) (s : List ℕ) (at end : ℕ) → frame_size e ≤ length s → at ≡ length s - frame_size e → end ≡ length s - trailer_size
    → take (end - at) (drop at s) ≡ request_of e s
request_is e s at end l a b =
    let f : end - at ≡ request_size e = omega arith in
    rw (f, a)
