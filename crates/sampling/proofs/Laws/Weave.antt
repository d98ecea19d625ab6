-- Laws of a list woven with the middles of its neighbours: it has the same values as the list and its middles, its length, and what stands at each place.
use Rattle.std.specs.Prelude.{ℕ, zero, suc, ◌+◌, ◌≤◌, ◌<◌, ◌≡◌, refl, length, get_or, Float}
use Rattle.std.proofs.Common.{le_of_suc-le-suc, not-suc-le-zero, add-one, arith, sym, ap, ◌∙◌}
use mathlib.Core.List.Permᴰ
use mathlib.Core.List.{List, [], ◌∷◌, ◌++◌, Permᴰ}
use Rattle.std.specs.Float.{nan}
use Rattle.float.specs.Number.{middle}
use Rattle.float.specs.Laws.Middle.{middle_fits}
use Rattle.polynomial.specs.Promises.Lists.{Fit}
use Rattle.sampling.specs.Slices.{mids}
use Rattle.sampling.specs.Promises.Stream.{weave}

-- ---- the same values

pub weave_perm : (l : List Float) → Permᴰ (weave l) (l ++ mids l)
unfolding weave mids
weave_perm [] = Permᴰ.nil
weave_perm (x ∷ []) = Permᴰ.cons refl Permᴰ.nil
weave_perm (x ∷ (y ∷ l)) =
    Permᴰ.cons refl
    (Permᴰ.trans (Permᴰ.cons refl (weave_perm (y ∷ l))) (Permᴰ.symm (Permᴰ.middle (middle x y) (y ∷ l) (mids (y ∷ l)))))

pub weave_fit : (l : List Float) → Fit l → Fit (weave l)
unfolding weave
weave_fit [] f = tt
weave_fit (x ∷ []) f = f
weave_fit (x ∷ (y ∷ l)) f = (f.0, (middle_fits x y, weave_fit (y ∷ l) f.1))

-- ---- the length

pub weave_length : (l : List Float) → length (weave l) ≤ length l + length l
unfolding weave
weave_length [] = omega arith
weave_length (x ∷ []) = omega arith
weave_length (x ∷ (y ∷ l)) = let e = weave_length (y ∷ l) in omega arith

pub mids_length : (l : List Float) → length (mids l) ≤ length l
unfolding mids
mids_length [] = omega arith
mids_length (x ∷ []) = omega arith
mids_length (x ∷ (y ∷ l)) = let e = mids_length (y ∷ l) in omega arith

-- ---- by place, with a NaN past the end

double : ℕ → ℕ
double zero = zero
double (suc h) = suc (suc (double h))

double_is : (h : ℕ) → double h ≡ h + h
unfolding double
double_is zero = refl
double_is (suc h) = let e = double_is h in omega arith

even : (l : List Float) (h : ℕ) → get_or (weave l) (double h) nan ≡ get_or l h nan
unfolding weave double
even [] h = refl
even (x ∷ []) zero = refl
even (x ∷ []) (suc h) = refl
even (x ∷ (y ∷ l)) zero = refl
even (x ∷ (y ∷ l)) (suc h) = even (y ∷ l) h

odd : (l : List Float) (h : ℕ) → suc h < length l → get_or (weave l) (suc (double h)) nan ≡ middle (get_or l h nan) (get_or l (suc h) nan)
unfolding weave double
odd [] h b = absurd (not-suc-le-zero b)
odd (x ∷ []) h b = absurd (not-suc-le-zero (le_of_suc-le-suc b))
odd (x ∷ (y ∷ l)) zero b = refl
odd (x ∷ (y ∷ l)) (suc h) b = odd (y ∷ l) h (le_of_suc-le-suc b)

past : (l : List Float) (h : ℕ) → length l ≤ suc h → get_or (weave l) (suc (double h)) nan ≡ nan
unfolding weave double
past [] h b = refl
past (x ∷ []) h b = refl
past (x ∷ (y ∷ l)) zero b = absurd (not-suc-le-zero (le_of_suc-le-suc b))
past (x ∷ (y ∷ l)) (suc h) b = past (y ∷ l) h (le_of_suc-le-suc b)

-- the same at any place k, whose half is h
pub weave_even : (l : List Float) (k h : ℕ) → k ≡ h + h → get_or (weave l) k nan ≡ get_or l h nan
weave_even l k h e = ap (λ (i : ℕ). get_or (weave l) i nan) (e ∙ sym (double_is h)) ∙ even l h

pub weave_odd : (l : List Float) (k h : ℕ) → k ≡ h + h + 1 → h + 1 < length l → get_or (weave l) k nan ≡ middle (get_or l h nan) (get_or l (h + 1) nan)
weave_odd l k h e b =
    let d = double_is h in
    let i : k ≡ suc (double h) = omega arith in
    ap (λ (j : ℕ). get_or (weave l) j nan) i ∙ odd l h (omega arith) ∙ rw add-one

pub weave_past : (l : List Float) (k h : ℕ) → k ≡ h + h + 1 → length l ≤ h + 1 → get_or (weave l) k nan ≡ nan
weave_past l k h e b =
    let d = double_is h in
    let i : k ≡ suc (double h) = omega arith in
    ap (λ (j : ℕ). get_or (weave l) j nan) i ∙ past l h (omega arith)
