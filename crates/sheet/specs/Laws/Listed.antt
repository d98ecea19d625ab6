-- What a sheet lists: its words one by one; of an accepted sheet the number and the length, and that it lists the items of the request inside.
use Rattle.std.specs.Prelude.{ℕ, zero, suc, ◌+◌, ◌*◌, ◌^◌, ◌≤◌, ◌<◌, ◌≡◌, refl, List, [], ◌∷◌, ◌++◌, map, take, drop, get_or, Float, Some}
use Rattle.std.proofs.Common.{arith, sym, ◌∙◌, append_assoc, take_at, drop_at, drop-drop}
use Rattle.std.proofs.Math.Path.{ap}
use Rattle.std.proofs.Math.ListN.{length}
use Rattle.std.specs.Float.{binary64}
use Rattle.std.specs.Float.Ieee.{to_bits}
use Rattle.std.specs.Float.Ieee.Bits.{to_bits-lt}
use Rattle.polynomial.specs.Promises.Lists.{All, Fit}
use Rattle.sampling.proofs.Laws.Angles.{most_angles, angles_most}
use Rattle.sampling.proofs.Laws.Fit.{angles_fit}
use Rattle.sheet.specs.Bytes.{little_endian, bytes, part, words_bytes, words}
use Rattle.sheet.specs.Edition.{known}
use Rattle.sheet.specs.Request.{blank}
use Rattle.sheet.specs.Fields.{job_of}
use Rattle.sheet.specs.Sheet.{sheet_size, trailer}
use Rattle.sheet.specs.Sampling.{angles, items, sheet}
use Rattle.sheet.specs.Check.{count_of, edition_of, request_of, listed}
use Rattle.sheet.specs.Demands.{Written}
use Rattle.sheet.specs.Promises.Tested.{Passed}
use Rattle.sheet.specs.declared.edition.Edition.{Edition}
use Rattle.sheet.specs.Laws.Bytes.{length_bytes, little_endian_bytes}
use Rattle.sheet.specs.Laws.Check.{known_number}
use Rattle.sheet.specs.Laws.Accepted.{before_passed, before_count}
use Rattle.sheet.specs.Laws.Sampling.{length_items}
use Rattle.sheet.specs.Laws.Written.{size, says, count_in}
use Rattle.sheet.specs.Laws.Demands.{few_items}

-- ---- words

pub length_words : (n : ℕ) (s : List ℕ) → length (words n s) ≡ n
unfolding words
length_words zero s = refl
length_words (suc n) s = ap suc (length_words n (drop 8 s))

-- the one whose eight bytes start at 8i
pub word_at : (n : ℕ) (s : List ℕ) (i d : ℕ) → i < n → get_or (words n s) i d ≡ little_endian (part (8 * i) 8 s)
unfolding words
word_at zero s i d h = absurd (omega arith)
word_at (suc n) s zero d h = refl
word_at (suc n) s (suc i) d h =
    let e : 8 * suc i ≡ 8 + 8 * i = omega arith in
    rw e (word_at n (drop 8 s) i d (omega arith) ∙ ap (λ (l : List ℕ). little_endian (take 8 l)) (drop-drop (8 * i) 8 s))

-- a number of 64 bits
abbrev Wide : ℕ → Type 0
Wide w = w < 256 ^ 8

-- written and read again
words_in : (ws rest : List ℕ) → All Wide ws → words (length ws) (words_bytes ws ++ rest) ≡ ws
unfolding words words_bytes
words_in [] rest h = refl
words_in (w ∷ ws) rest h =
    let a : (bytes 8 w ++ words_bytes ws) ++ rest ≡ bytes 8 w ++ (words_bytes ws ++ rest) = append_assoc (bytes 8 w) (words_bytes ws) rest in
    rw (
      a,
      take_at (bytes 8 w) (words_bytes ws ++ rest) 8 (length_bytes 8 w),
      drop_at (bytes 8 w) (words_bytes ws ++ rest) 8 (length_bytes 8 w),
      little_endian_bytes 8 w h.0,
      words_in ws rest h.1,
    )

bits_wide : (l : List Float) → Fit l → All Wide (map (to_bits binary64) l)
bits_wide [] f = tt
bits_wide (x ∷ l) f = (to_bits-lt binary64 x f.0, bits_wide l f.1)

items_wide : (r : List ℕ) → All Wide (items r)
unfolding items angles
items_wide r = bits_wide (angles r) (angles_fit (job_of r))

-- ---- an accepted sheet

module _ (upto : Edition) (s : List ℕ) (places n : ℕ) (p : Written upto s places n) where
  abbrev own : Edition
  own = p.edition

  abbrev inside : List ℕ
  inside = request_of own s

  pub written_passed : Passed own inside
  written_passed = before_passed own inside places n p.accepts

  counted : n ≡ length (items inside)
  counted = before_count own inside places n p.accepts

  -- it has the length of its n items, and says n and its edition
  pub written_size : length s ≡ sheet_size own n
  written_size = ap length p.whole ∙ size own inside written_passed.whole ∙ ap (sheet_size own) (sym counted)

  pub written_count : count_of s ≡ n
  written_count = ap count_of p.whole ∙ count_in own inside written_passed.whole (few_items inside) ∙ sym counted

  pub written_known : known upto (edition_of s) ≡ Some own
  written_known =
      ap (λ (l : List ℕ). known upto (edition_of l)) p.whole ∙ ap (known upto) (says own inside written_passed.whole)
      ∙ known_number upto own p.is_known

  -- THEOREM: it has at most 351,239 items.
  pub written_few : n ≤ most_angles
  unfolding angles
  written_few = omega (arith, counted, length_items inside, angles_most (job_of inside))

  -- THEOREM: it lists the items of the request inside.
  pub written_listed : listed s ≡ items inside
  unfolding sheet
  written_listed =
      let m : count_of s ≡ length (items inside) = written_count ∙ counted in
      ap (λ (k : ℕ). words k s) m ∙ ap (words (length (items inside))) p.whole
      ∙ words_in (items inside) (blank inside ++ trailer own (length (items inside))) (items_wide inside)
