-- Laws of a free joint's samples: angles and roots one by one, and which sample stands at which position.
use Rattle.std.specs.Prelude.{Some, None, slice_get, ℕ, zero, suc, ◌+◌, ◌-◌, ◌*◌, ◌/◌, ◌%◌, ◌<◌, ◌≤◌, ◌≡◌, refl, List, [], ◌∷◌, ◌++◌, take, Float}
use Rattle.std.proofs.Common.{add-one, arith, sym, ◌∙◌, append_assoc, append-nil, take-suc}
use Rattle.std.proofs.Math.Path.{ap}
use Rattle.std.proofs.Math.ListN.{length, drop, drop_of_length-le, get_or, length-append, get_or-append}
use Rattle.std.proofs.Math.Seq.{slice, slice-cons, slice_empty, drop-cons}
use Rattle.std.proofs.lemmas.Option.{slice_get_past, slice_get-get_or}
use Rattle.std.specs.Float.Ieee.{nan}
use Rattle.sampling.specs.Samples.{copies, all_copies, windings, all_windings, between, all_between, samples, sample_count, three_samples}

-- ---- angles and roots, one more

module _ (lower upper : Float) (l : List Float) (i : ℕ) where
  pub copies_left : i < length l → all_copies lower upper (drop i l) ≡ copies lower upper (get_or l i nan) ++ all_copies lower upper (drop (i + 1) l)
  unfolding all_copies
  copies_left h = rw (add-one, drop-cons l i nan h)

  pub copies_none : length l ≤ i → all_copies lower upper (drop i l) ≡ []
  unfolding all_copies
  copies_none h = rw (drop_of_length-le l h)

  pub windings_left : i < length l → all_windings lower upper (drop i l) ≡ windings lower upper (get_or l i nan) ++ all_windings lower upper (drop (i + 1) l)
  unfolding all_windings
  windings_left h = rw (add-one, drop-cons l i nan h)

  pub windings_none : length l ≤ i → all_windings lower upper (drop i l) ≡ []
  unfolding all_windings
  windings_none h = rw (drop_of_length-le l h)

-- ---- the same of the angles between two places, and of the first roots

module _ (lower upper : Float) (l : List Float) (i n : ℕ) where
  pub copies_next : i < n → n ≤ length l → all_copies lower upper (slice i n l) ≡ copies lower upper (get_or l i nan) ++ all_copies lower upper
      (slice (i + 1) n l)
  unfolding all_copies
  copies_next h b = rw (add-one, slice-cons i n l nan h b)

  pub copies_end : i ≡ n → all_copies lower upper (slice i n l) ≡ []
  unfolding all_copies
  copies_end e = rw (e, slice_empty n l)

windings_append : (lower upper : Float) (l m : List Float) → all_windings lower upper (l ++ m) ≡ all_windings lower upper l ++ all_windings lower upper m
unfolding all_windings
windings_append lower upper [] m = refl
windings_append lower upper (x ∷ l) m =
    ap (λ (z : List Float). windings lower upper x ++ z) (windings_append lower upper l m)
    ∙ sym (append_assoc (windings lower upper x) (all_windings lower upper l) (all_windings lower upper m))

single : (lower upper root : Float) → windings lower upper root ≡ all_windings lower upper (root ∷ [])
unfolding all_windings
single lower upper root = sym (append-nil (windings lower upper root))

-- one more root
pub windings_more : (lower upper : Float) (l : List Float) (i : ℕ) → i < length l
    → all_windings lower upper (take i l) ++ windings lower upper (get_or l i nan) ≡ all_windings lower upper (take (i + 1) l)
windings_more lower upper l i h =
    ap (λ (z : List Float). all_windings lower upper (take i l) ++ z) (single lower upper (get_or l i nan))
    ∙ sym (windings_append lower upper (take i l) (get_or l i nan ∷ []))
    ∙ ap (all_windings lower upper) (rw add-one (sym (take-suc l i nan h)))

-- ---- samples

between_length : (l : List Float) → length (all_between l) ≡ 3 * (length l - 1)
unfolding all_between between
between_length [] = refl
between_length (a ∷ []) = refl
between_length (a ∷ (b ∷ l)) = let h = between_length (b ∷ l) in omega (arith, h)

between_here : (l : List Float) (k j : ℕ) → suc k < length l → j < 3
    → get_or (all_between l) (3 * k + j) nan ≡ get_or (between (get_or l k nan) (get_or l (suc k) nan)) j nan
unfolding all_between between
between_here [] k j h b = absurd (omega (arith, h))
between_here (x ∷ []) k j h b = absurd (omega (arith, h))
between_here (x ∷ (y ∷ l)) zero j h b =
    let e : 3 * 0 + j ≡ j = omega arith in
    ap (λ (m : ℕ). get_or (between x y ++ all_between (y ∷ l)) m nan) e ∙ get_or-append (between x y) (all_between (y ∷ l)) nan j b
between_here (x ∷ (y ∷ l)) (suc k) j h b =
    let e : 3 * suc k + j ≡ suc (suc (suc (3 * k + j))) = omega arith in
    ap (λ (m : ℕ). get_or (between x y ++ all_between (y ∷ l)) m nan) e ∙ between_here (y ∷ l) k j (omega (arith, h)) b

get_left : (a b : List Float) (i : ℕ) → i < length a → slice_get (a ++ b) i ≡ slice_get a i
get_left a b i h =
    let within : i < length (a ++ b) = omega (arith, length-append a b, h) in
    slice_get-get_or (a ++ b) i nan within ∙ ap Some (get_or-append a b nan i h) ∙ sym (slice_get-get_or a i nan h)

get_right : (a b : List Float) (i j : ℕ) → i ≡ length a + j → slice_get (a ++ b) i ≡ slice_get b j
get_right [] b i j e = ap (slice_get b) (omega (arith, e))
get_right (x ∷ a) b zero j e = absurd (omega (arith, e))
get_right (x ∷ a) b (suc i) j e = get_right a b i j (omega (arith, e))

pub sample_cut : (l : List Float) (i : ℕ) → i < length l → slice_get (samples l) i ≡ Some (get_or l i nan)
unfolding samples
sample_cut l i h = get_left l (all_between l) i h ∙ slice_get-get_or l i nan h

behind_cuts : (l : List Float) (i m : ℕ) → i ≡ length l + m → slice_get (samples l) i ≡ slice_get (all_between l) m
unfolding samples
behind_cuts l i m e = get_right l (all_between l) i m e

pub sample_between : (l : List Float) (i k j : ℕ) → i ≡ length l + (3 * k + j) → k + 1 < length l → j < 3
    → slice_get (samples l) i ≡ Some (get_or (between (get_or l k nan) (get_or l (k + 1) nan)) j nan)
sample_between l i k j e h b =
    behind_cuts l i (3 * k + j) e
    ∙ slice_get-get_or (all_between l) (3 * k + j) nan (omega (arith, between_length l, h, b))
    ∙ ap Some (rw add-one (between_here l k j (omega (arith, h)) b))

pub sample_behind : (l : List Float) (i k j : ℕ) → i ≡ length l + (3 * k + j) → length l ≤ k + 1 → slice_get (samples l) i ≡ None
sample_behind l i k j e h =
    let q : length (all_between l) ≤ 3 * k + j = omega (arith, between_length l, h) in
    behind_cuts l i (3 * k + j) e ∙ slice_get_past (all_between l) (3 * k + j) q

-- the same of the position alone
pub sample_none : (l : List Float) (i : ℕ) → length l ≤ i → length l ≤ (i - length l) / 3 + 1 → slice_get (samples l) i ≡ None
sample_none l i h k = let m = i - length l in sample_behind l i (m / 3) (m % 3) (omega (arith, h)) k

-- ---- how many

pub sample_count_is : (n : ℕ) → sample_count n ≡ n + 3 * (n - 1)
sample_count_is zero = refl
sample_count_is (suc k) = omega arith

pub sample_count_most : (n : ℕ) → sample_count n ≤ 4 * n
sample_count_most n = omega (arith, sample_count_is n)

pub samples_length : (l : List Float) → length (samples l) ≡ sample_count (length l)
unfolding samples
samples_length l = omega (arith, length-append l (all_between l), between_length l, sample_count_is (length l))

-- ---- three intervals

-- by position: the first list's samples, the second's behind them, the third's behind those
module _ (a b c : List Float) (i : ℕ) where
  pub three_first : i < sample_count (length a) → slice_get (three_samples a b c) i ≡ slice_get (samples a) i
  unfolding three_samples
  three_first h =
      let p : i < length (samples a) = omega (arith, samples_length a, h) in
      let q : i < length (samples a ++ samples b) = omega (arith, length-append (samples a) (samples b), p) in
      get_left (samples a ++ samples b) (samples c) i q ∙ get_left (samples a) (samples b) i p

  pub three_second : (j : ℕ) → i ≡ sample_count (length a) + j → j < sample_count (length b) → slice_get (three_samples a b c) i ≡ slice_get (samples b) j
  unfolding three_samples
  three_second j e h =
      let p : i ≡ length (samples a) + j = omega (arith, samples_length a, e) in
      let q : i < length (samples a ++ samples b) = omega (arith, length-append (samples a) (samples b), p, samples_length b, h) in
      get_left (samples a ++ samples b) (samples c) i q ∙ get_right (samples a) (samples b) i j p

  pub three_third : (j : ℕ) → i ≡ sample_count (length a) + sample_count (length b) + j → slice_get (three_samples a b c) i ≡ slice_get (samples c) j
  unfolding three_samples
  three_third j e =
      let p : i ≡ length (samples a ++ samples b) + j = omega (arith, length-append (samples a) (samples b), samples_length a, samples_length b, e) in
      get_right (samples a ++ samples b) (samples c) i j p
