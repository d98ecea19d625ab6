-- The i-th eight bytes of a sheet stand for the i-th angle.
use Rattle.std.specs.Prelude.{ℕ, zero, suc, ◌+◌, ◌*◌, ◌^◌, ◌<◌, ◌≡◌, List, [], ◌∷◌, ◌++◌, length, take, drop, get_or, Float}
use Rattle.std.proofs.Common.{arith, sym, ap, ◌∙◌, append_assoc, take_at, drop_at, drop-drop}
use Rattle.std.proofs.Math.ListN.{get_or-map}
use Rattle.std.specs.Float.{binary64}
use Rattle.std.specs.Float.Ieee.{of_bits, to_bits}
use Rattle.std.specs.Float.Ieee.Bits.{of_bits-to_bits, to_bits-lt}
use Rattle.float.specs.Number.{zero_float}
use Rattle.polynomial.specs.Promises.Lists.{Fits, Fit}
use Rattle.sheet.specs.Bytes.{little_endian, bytes, part, words_bytes, float_at}
use Rattle.sheet.specs.Request.{blank}
use Rattle.sheet.specs.Fields.{job_of}
use Rattle.sheet.specs.Sheet.{trailer}
use Rattle.sheet.specs.declared.edition.Edition.{Edition}
use Rattle.sheet.specs.Sampling.{angles, items, sheet}
use Rattle.sheet.specs.Laws.Bytes.{length_bytes, little_endian_bytes}
use Rattle.sheet.specs.Laws.Sampling.{length_items}
use Rattle.sampling.proofs.Laws.Fit.{angles_fit}

-- the i-th of several words
word_in : (ws rest : List ℕ) (i d : ℕ) → i < length ws → part (8 * i) 8 (words_bytes ws ++ rest) ≡ bytes 8 (get_or ws i d)
unfolding words_bytes
word_in [] rest i d h = absurd (omega arith)
word_in (w ∷ ws) rest zero d h =
    ap (take 8) (append_assoc (bytes 8 w) (words_bytes ws) rest) ∙ take_at (bytes 8 w) (words_bytes ws ++ rest) 8 (length_bytes 8 w)
word_in (w ∷ ws) rest (suc i) d h =
    let e : 8 * suc i ≡ 8 + 8 * i = omega arith in
    let front : drop 8 ((bytes 8 w ++ words_bytes ws) ++ rest) ≡ words_bytes ws ++ rest =
    ap (drop 8) (append_assoc (bytes 8 w) (words_bytes ws) rest) ∙ drop_at (bytes 8 w) (words_bytes ws ++ rest) 8 (length_bytes 8 w) in
    ap (λ (k : ℕ). take 8 (drop k ((bytes 8 w ++ words_bytes ws) ++ rest))) e
    ∙ ap (take 8) (sym (drop-drop (8 * i) 8 ((bytes 8 w ++ words_bytes ws) ++ rest)) ∙ ap (drop (8 * i)) front)
    ∙ word_in ws rest i d (omega arith)

fit_at : (l : List Float) (i : ℕ) (d : Float) → Fit l → i < length l → Fits (get_or l i d)
fit_at [] i d f h = absurd (omega arith)
fit_at (x ∷ l) zero d f h = f.0
fit_at (x ∷ l) (suc i) d f h = fit_at l i d f.1 (omega arith)

pub angle_at : (e : Edition) (r : List ℕ) (i : ℕ) → i < length (items r) → float_at (sheet e r) (8 * i) ≡ get_or (angles r) i zero_float
unfolding sheet items angles
angle_at e r i h =
    let x = get_or (angles r) i zero_float in
    let f : Fits x = fit_at (angles r) i zero_float (angles_fit (job_of r)) (omega (arith, length_items r)) in
    let w : to_bits binary64 x < 256 ^ 8 = to_bits-lt binary64 x f in
    ap (λ (l : List ℕ). of_bits binary64 (little_endian l)) (word_in (items r) (blank r ++ trailer e (length (items r))) i (to_bits binary64 zero_float) h)
    ∙ ap (λ (k : ℕ). of_bits binary64 (little_endian (bytes 8 k))) (get_or-map (to_bits binary64) (angles r) i zero_float)
    ∙ ap (of_bits binary64) (little_endian_bytes 8 (to_bits binary64 x) w)
    ∙ of_bits-to_bits binary64 x f
