-- Sheets: how their runs of stores lie one after the other, and how long they are.
use Rattle.std.specs.Prelude.{ℕ, ◌+◌, ◌*◌, ◌≤◌, ◌≡◌, List, [], ◌∷◌, map, ◌++◌, length, drop, Float}
use Rattle.std.proofs.Common.{arith, sym, ap, ◌∙◌, length-append}
use Rattle.std.proofs.lemmas.List.{length-map}
use Rattle.std.proofs.lemmas.List.Edits.{sets, sets-eq}
use Rattle.std.specs.Float.Ieee.{to_bits}
use Rattle.std.specs.Float.{binary64}
use Rattle.sheet.specs.Bytes.{words_bytes}
use Rattle.sheet.specs.Promises.Floats.{float_bytes, floats_bytes}
use Rattle.sheet.specs.Request.{request_size, shape_of, blank}
use Rattle.sheet.specs.Sheet.{trailer, sheet_size}
use Rattle.sheet.specs.Sampling.{angles, items, sheet}
use Rattle.sheet.specs.declared.edition.Edition.{Edition}
use Rattle.sheet.specs.Laws.Bytes.{sets_append, length_bytes, floats_bytes_cons, floats_bytes_nil, length_floats_bytes, length_words_bytes, floats_words}
use Rattle.sheet.specs.Laws.Blank.{length_blank}
use Rattle.sheet.specs.Laws.Sheet.{length_trailer}

-- ---- floats one at a time

-- the first of those that are left
pub floats_step : (out : List ℕ) (at : ℕ) (y : Float) (xs ys : List Float) → xs ≡ y ∷ ys
    → sets (sets out at (float_bytes y)) (at + 8) (floats_bytes ys) ≡ sets out at (floats_bytes xs)
floats_step out at y xs ys e =
    let k : at + length (float_bytes y) ≡ at + 8 = ap (λ (n : ℕ). at + n) (length_bytes 8 (to_bits binary64 y)) in
    rw (e, floats_bytes_cons y ys, sets_append (float_bytes y) (floats_bytes ys) out at, k)

pub floats_end : (out : List ℕ) (at : ℕ) (xs : List Float) → xs ≡ [] → out ≡ sets out at (floats_bytes xs)
floats_end out at xs e = rw (e, floats_bytes_nil)

-- ---- a sheet

lay : (o f b t : List ℕ) (p q : ℕ) → length f ≡ p → p + length b ≡ q → sets (sets (sets o 0 f) p b) q t ≡ sets o 0 (f ++ (b ++ t))
lay o f b t p q e h =
    let k : 0 + length f ≡ p = omega arith in
    rw (sets_append f (b ++ t) o 0, k, sets_append b t (sets o 0 f) p, h)

-- its three runs
pub lay_sheet : (e : Edition) (r o : List ℕ) (xs : List Float) (n : ℕ) → length r ≡ request_size e → n ≡ length xs
    → sets (sets (sets o 0 (floats_bytes xs)) (8 * n) (blank r)) (8 * n + request_size e) (trailer e n)
    ≡ sets o 0 (floats_bytes xs ++ (blank r ++ trailer e n))
lay_sheet e r o xs n w h =
    lay o (floats_bytes xs) (blank r) (trailer e n) (8 * n) (8 * n + request_size e) (omega (arith, length_floats_bytes xs))
    (omega (arith, length_blank (shape_of r) 0 r))

length_laid : (e : Edition) (r : List ℕ) (xs : List Float) (n : ℕ) → length r ≡ request_size e → n ≡ length xs
    → length (floats_bytes xs ++ (blank r ++ trailer e n)) ≡ sheet_size e n
length_laid e r xs n w h =
    omega (
      arith,
      length-append (floats_bytes xs) (blank r ++ trailer e n),
      length-append (blank r) (trailer e n),
      length_floats_bytes xs,
      length_blank (shape_of r) 0
          r,
      length_trailer e n,
    )

pub length_items : (r : List ℕ) → length (items r) ≡ length (angles r)
unfolding items
length_items r = length-map (angles r) (to_bits binary64)

pub length_sheet : (e : Edition) (r : List ℕ) → length r ≡ request_size e → length (sheet e r) ≡ sheet_size e (length (items r))
unfolding sheet
length_sheet e r w =
    omega (
      arith,
      length-append (words_bytes (items r)) (blank r ++ trailer e (length (items r))),
      length-append (blank r) (trailer e (length (items r))),
      length_words_bytes (items r),
      length_blank (shape_of r) 0 r,
      length_trailer e (length (items r)),
    )

-- what is stored is the sheet, with what stood behind it
pub sheet_stands : (e : Edition) (r out : List ℕ) (xs : List Float) (n : ℕ) → length r ≡ request_size e → n ≡ length xs → xs ≡ angles r
    → sheet_size e n ≤ length out → sets out 0 (floats_bytes xs ++ (blank r ++ trailer e n)) ≡ sheet e r ++ drop (sheet_size e n) out
unfolding sheet items
sheet_stands e r out xs n w h q k =
    let l : length (floats_bytes xs ++ (blank r ++ trailer e n)) ≡ sheet_size e n = length_laid e r xs n w h in
    let d : 0 + length (floats_bytes xs ++ (blank r ++ trailer e n)) ≡ sheet_size e n = omega arith in
    let f : 0 + length (floats_bytes xs ++ (blank r ++ trailer e n)) ≤ length out = omega arith in
    let m : n ≡ length (map (to_bits binary64) (angles r)) = h ∙ ap length q ∙ sym (length-map (angles r) (to_bits binary64)) in
    sets-eq (floats_bytes xs ++ (blank r ++ trailer e n)) out 0 f ∙ rw (d, floats_words xs, q, ← m)
