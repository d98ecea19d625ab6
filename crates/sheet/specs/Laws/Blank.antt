-- Laws of `blank-from`: byte by byte, and its length.
use Rattle.std.specs.Prelude.{ℕ, zero, suc, ◌+◌, ◌<◌, ◌≡◌, refl, List, [], ◌∷◌, cond, length, get_or, Option}
use Rattle.std.proofs.Common.{arith, add-zero, ap}
use Rattle.sampling.specs.declared.reads.Shape.{Shape}
use Rattle.sheet.specs.Request.{byte_read, blank_from}

pub blank_cons : (s : Option Shape) (i b : ℕ) (bs : List ℕ) → blank_from s i (b ∷ bs) ≡ cond (byte_read s i) b 0 ∷ blank_from s (suc i) bs
unfolding blank_from
blank_cons s i b bs = refl

pub blank_nil : (s : Option Shape) (i : ℕ) → blank_from s i [] ≡ []
unfolding blank_from
blank_nil s i = refl

pub length_blank : (s : Option Shape) (i : ℕ) (bs : List ℕ) → length (blank_from s i bs) ≡ length bs
unfolding blank_from
length_blank s i [] = refl
length_blank s i (b ∷ bs) = ap suc (length_blank s (suc i) bs)

pub get_d_blank : (s : Option Shape) (i k : ℕ) (bs : List ℕ) → k < length bs → get_or (blank_from s i bs) k 0 ≡ cond (byte_read s (i + k)) (get_or bs k 0) 0
unfolding blank_from
get_d_blank s i k [] h = absurd (omega arith)
get_d_blank s i zero (b ∷ bs) h = rw add-zero
get_d_blank s i (suc k) (b ∷ bs) h =
    let e : i + suc k ≡ suc i + k = omega arith in
    rw e (get_d_blank s (suc i) k bs (omega arith))
