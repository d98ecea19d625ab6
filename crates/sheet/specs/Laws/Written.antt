-- The parts of a sheet: any is its items, its request and its trailer; and what they are in a sheet that was written.
use Rattle.std.specs.Prelude.{ℕ, ◌+◌, ◌-◌, ◌*◌, ◌≤◌, ◌<◌, ◌≡◌, List, ◌++◌, take, drop}
use Rattle.std.proofs.Common.{arith, sym, ◌∙◌, append_assoc, length-drop, take-append-drop, drop-drop, take_all}
use Rattle.std.proofs.Math.Path.{ap}
use Rattle.std.proofs.Math.Bool.{true}
use Rattle.std.proofs.Math.ListN.{length}
use Rattle.std.proofs.Math.Seq.{take_at, drop_at}
use Rattle.std.proofs.Math.Dec.{ltb}
use borrow.Author.Tests.{eq-eqb, lt-ltb}
use Rattle.sheet.specs.Bytes.{little_endian, bytes, words_bytes}
use Rattle.sheet.specs.Request.{request_size, shape_of, blank}
use Rattle.sheet.specs.Sheet.{trailer, trailer_size, frame_size, items_bound, sheet_size}
use Rattle.sheet.specs.Edition.{number}
use Rattle.sheet.specs.Sampling.{items, sheet}
use Rattle.sheet.specs.declared.edition.Edition.{Edition}
use Rattle.sheet.specs.Check.{trailer_of, count_of, edition_of, request_of, items_of, formed}
use Rattle.sheet.specs.Laws.Bytes.{length_bytes, little_endian_half, length_words_bytes, same_itself}
use Rattle.sheet.specs.Laws.Blank.{length_blank}
use Rattle.sheet.specs.Laws.Sheet.{length_trailer}
use Rattle.sheet.specs.Laws.Check.{trailer_says}
use Rattle.sheet.specs.Laws.Sampling.{length_sheet}

pub cut : (e : Edition) (s : List ℕ) → frame_size e ≤ length s → s ≡ items_of e s ++ (request_of e s ++ trailer_of s)
cut e s h =
    let a : length s - frame_size e + request_size e ≡ length s - trailer_size = omega arith in
    let l : length (drop (length s - trailer_size) s) ≤ trailer_size = simp length-drop (omega arith) in
    let t : trailer_of s ≡ drop (request_size e) (drop (length s - frame_size e) s) = take_all trailer_size (drop (length s - trailer_size) s) l ∙ ap
    (λ (k : ℕ). drop k s) (sym a) ∙ sym (drop-drop (request_size e) (length s - frame_size e) s) in
    sym
    (ap (λ (x : List ℕ). items_of e s ++ (request_of e s ++ x)) t
    ∙ ap (λ (x : List ℕ). items_of e s ++ x) (take-append-drop (request_size e) (drop (length s - frame_size e) s))
    ∙ take-append-drop (length s - frame_size e) s)

-- the trailer starts with n
first_four : (e : Edition) (n : ℕ) → take 4 (trailer e n) ≡ bytes 4 n
unfolding trailer
first_four e n =
    ap (take 4)
    (append_assoc (bytes 4 n ++ bytes 4 (8 * n)) (bytes 2 (number e)) (bytes 6 0)
    ∙ append_assoc (bytes 4 n) (bytes 4 (8 * n)) (bytes 2 (number e) ++ bytes 6 0))
    ∙ take_at (bytes 4 n) (bytes 4 (8 * n) ++ (bytes 2 (number e) ++ bytes 6 0)) 4 (length_bytes 4 n)

-- the parts of a sheet that was written
module _ (e : Edition) (r : List ℕ) (w : length r ≡ request_size e) where
  pub size : length (sheet e r) ≡ sheet_size e (length (items r))
  size = length_sheet e r w

  whole_blank : length (blank r) ≡ request_size e
  whole_blank = length_blank (shape_of r) 0 r ∙ w

  front : length (words_bytes (items r)) ≡ length (sheet e r) - frame_size e
  front = omega (arith, size, length_words_bytes (items r))

  pub items_in : items_of e (sheet e r) ≡ words_bytes (items r)
  unfolding sheet
  items_in = take_at (words_bytes (items r)) (blank r ++ trailer e (length (items r))) (length (sheet e r) - frame_size e) front

  rest : drop (length (sheet e r) - frame_size e) (sheet e r) ≡ blank r ++ trailer e (length (items r))
  unfolding sheet
  rest = drop_at (words_bytes (items r)) (blank r ++ trailer e (length (items r))) (length (sheet e r) - frame_size e) front

  pub request_in : request_of e (sheet e r) ≡ blank r
  request_in = ap (take (request_size e)) rest ∙ take_at (blank r) (trailer e (length (items r))) (request_size e) whole_blank

  tail : drop (length (sheet e r) - trailer_size) (sheet e r) ≡ trailer e (length (items r))
  tail =
      let a : length (sheet e r) - trailer_size ≡ length (sheet e r) - frame_size e + request_size e = omega (arith, size) in
      ap (λ (k : ℕ). drop k (sheet e r)) a ∙ sym (drop-drop (request_size e) (length (sheet e r) - frame_size e) (sheet e r)) ∙ ap (drop (request_size e)) rest
      ∙ drop_at (blank r) (trailer e (length (items r))) (request_size e) whole_blank

  pub trailer_in : trailer_of (sheet e r) ≡ trailer e (length (items r))
  trailer_in = ap (take trailer_size) tail ∙ take_all trailer_size (trailer e (length (items r))) (omega (arith, length_trailer e (length (items r))))

  pub says : edition_of (sheet e r) ≡ number e
  says = trailer_says e (sheet e r) (length (items r)) trailer_in

  module _ (h : length (items r) < items_bound) where
    pub count_in : count_of (sheet e r) ≡ length (items r)
    count_in = ap (λ (l : List ℕ). little_endian (take 4 l)) tail ∙ ap little_endian (first_four e (length (items r)))
        ∙ little_endian_half (length (items r)) (omega arith)

    pub formed_in : formed e (sheet e r) ≡ true
    unfolding formed
    formed_in =
        let a : length (sheet e r) ≡ sheet_size e (count_of (sheet e r)) = size ∙ ap (sheet_size e) (sym count_in) in
        let b : trailer_of (sheet e r) ≡ trailer e (count_of (sheet e r)) = trailer_in ∙ ap (trailer e) (sym count_in) in
        let v : ltb (count_of (sheet e r)) items_bound ≡ true = lt-ltb (count_of (sheet e r)) items_bound (omega (arith, count_in)) in
        rw (eq-eqb (length (sheet e r)) (sheet_size e (count_of (sheet e r))) a, v, b) (same_itself (trailer e (count_of (sheet e r))))
