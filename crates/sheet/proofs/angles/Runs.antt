-- Floats one after the other, and the samples of a list of cuts: what the functions that write them need.
use Rattle.std.proofs.Common.{ℕ, suc, ◌+◌, ◌-◌, ◌*◌, ◌<◌, ◌≤◌, ◌≡◌, refl, sym, ap, ◌∙◌, arith, List, [], ◌∷◌, ◌++◌, append_assoc, length, get_or, take, drop}
use Rattle.std.proofs.Common.{drop-cons}
use lib.Ieee.{Float, nan, to_bits, binary64}
use Rattle.std.proofs.Math.ListN.{length-append}
use Rattle.sampling.specs.Samples.{between, all_between, samples, three_samples}
use Rattle.sampling.proofs.Laws.Samples.{samples_length, sample_count_is}
use Rattle.sheet.specs.Promises.Floats.{float_bytes, floats_bytes}
use Rattle.sheet.specs.Laws.Bytes.{length_bytes, floats_bytes_cons, floats_bytes_nil}

pub length_float : (x : Float) → length (float_bytes x) ≡ 8
length_float x = length_bytes 8 (to_bits binary64 x)

pub floats_append : (xs ys : List Float) → floats_bytes (xs ++ ys) ≡ floats_bytes xs ++ floats_bytes ys
floats_append [] ys = rw floats_bytes_nil
floats_append (x ∷ xs) ys =
    floats_bytes_cons x (xs ++ ys) ∙ ap (λ (z : List ℕ). float_bytes x ++ z) (floats_append xs ys)
    ∙ sym (append_assoc (float_bytes x) (floats_bytes xs) (floats_bytes ys)) ∙ ap (λ (z : List ℕ). z ++ floats_bytes ys) (sym (floats_bytes_cons x xs))

-- the first of the floats that are left
pub floats_left : (l : List Float) (i : ℕ) → i < length l → floats_bytes (drop i l) ≡ float_bytes (get_or l i nan) ++ floats_bytes (drop (i + 1) l)
floats_left l i h =
    let f : i + 1 ≡ suc i = omega arith in
    rw f (ap floats_bytes (drop-cons l i nan h) ∙ floats_bytes_cons (get_or l i nan) (drop (suc i) l))

-- and of the pairs
between_next : (l : List Float) (i : ℕ) → i + 1 < length l → all_between (drop i l) ≡ between (get_or l i nan) (get_or l (i + 1) nan) ++ all_between
    (drop (i + 1) l)
unfolding all_between
between_next l i h =
    let f : i + 1 ≡ suc i = omega arith in
    let p = drop-cons l i nan (omega arith) in
    let q = drop-cons l (suc i) nan (omega arith) in
    rw (f, p, q)

pub between_left : (l : List Float) (i : ℕ) → i + 1 < length l → floats_bytes (all_between (drop i l))
    ≡ floats_bytes (between (get_or l i nan) (get_or l (i + 1) nan)) ++ floats_bytes (all_between (drop (i + 1) l))
between_left l i h =
    ap floats_bytes (between_next l i h) ∙ floats_append (between (get_or l i nan) (get_or l (i + 1) nan)) (all_between (drop (i + 1) l))

-- the same of a window of two
pub pair_left : (l p : List Float) (i : ℕ) → i + 1 < length l → p ≡ take 2 (drop i l) → floats_bytes (all_between (drop i l))
    ≡ floats_bytes (between (get_or p 0 nan) (get_or p 1 nan)) ++ floats_bytes (all_between (drop (i + 1) l))
pair_left l p i h e =
    let f : i + 1 ≡ suc i = omega arith in
    let two : take 2 (drop i l) ≡ get_or l i nan ∷ (get_or l (i + 1) nan ∷ []) =
    rw (f, drop-cons l i nan (omega arith), drop-cons l (suc i) nan (omega arith)) in
    rw (e, two) (between_left l i h)

pub length_between : (a b : Float) → length (between a b) ≡ 3
unfolding between
length_between a b = refl

pub length_all_between : (l : List Float) → length (all_between l) ≡ 3 * (length l - 1)
unfolding samples
length_all_between l = omega (arith, samples_length l, length-append l (all_between l), sample_count_is (length l))

pub no_pair : (l : List Float) → length l ≤ 1 → all_between l ≡ []
unfolding all_between
no_pair [] h = refl
no_pair (a ∷ []) h = refl
no_pair (a ∷ (b ∷ l)) h = absurd (omega arith)

-- the bytes of a list's samples, and of three lists' that stand one after the other
pub samples_bytes : (l : List Float) → floats_bytes (samples l) ≡ floats_bytes l ++ floats_bytes (all_between l)
unfolding samples
samples_bytes l = floats_append l (all_between l)

module _ (w : List Float) (f g h : ℕ) where
  pub lists_bytes : floats_bytes (three_samples (take f w) (take g (drop f w)) (take h (drop (f + g) w)))
      ≡ floats_bytes (samples (take f w))
      ++ (floats_bytes (samples (take (f + g - f) (drop f w))) ++ floats_bytes (samples (take (f + g + h - (f + g)) (drop (f + g) w))))
  unfolding three_samples
  lists_bytes =
      let y : f + g - f ≡ g = omega arith in
      let z : f + g + h - (f + g) ≡ h = omega arith in
      rw (
        y,
        z,
        floats_append (samples (take f w) ++ samples (take g (drop f w))) (samples (take h (drop (f + g) w))),
        floats_append (samples (take f w)) (samples (take g (drop f w))),
        append_assoc,
      )
