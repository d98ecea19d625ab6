-- The trailer: its length, and its four runs of stores one after the other.
use Rattle.std.specs.Prelude.{ℕ, ◌+◌, ◌*◌, ◌≡◌, List, ◌++◌, length}
use Rattle.std.proofs.Common.{arith, length-append}
use Rattle.std.proofs.lemmas.List.Edits.{sets}
use Rattle.sheet.specs.Bytes.{bytes}
use Rattle.sheet.specs.Sheet.{trailer, trailer_size}
use Rattle.sheet.specs.Edition.{number}
use Rattle.sheet.specs.declared.edition.Edition.{Edition}
use Rattle.sheet.specs.Laws.Bytes.{sets_append, length_bytes}

pub length_trailer : (e : Edition) (n : ℕ) → length (trailer e n) ≡ trailer_size
unfolding trailer
length_trailer e n = simp (length-append, length_bytes)

lay_four : (o a b c d : List ℕ) (p q r s : ℕ) → p + length a ≡ q → q + length b ≡ r → r + length c ≡ s
    → sets (sets (sets (sets o p a) q b) r c) s d ≡ sets o p (a ++ b ++ c ++ d)
lay_four o a b c d p q r s e f g =
    let f' : p + length (a ++ b) ≡ r = omega (arith, length-append a b) in
    let g' : p + length (a ++ b ++ c) ≡ s = omega (arith, length-append (a ++ b) c, length-append a b) in
    rw (sets_append (a ++ b ++ c) d o p, sets_append (a ++ b) c o p, sets_append a b o p, e, f', g')

pub lay_trailer : (e : Edition) (o : List ℕ) (at n : ℕ)
    → sets (sets (sets (sets o at (bytes 4 n)) (at + 4) (bytes 4 (8 * n))) (at + 8) (bytes 2 (number e))) (at + 10) (bytes 6 0) ≡ sets o at (trailer e n)
unfolding trailer
lay_trailer e o at n =
    lay_four o (bytes 4 n) (bytes 4 (8 * n)) (bytes 2 (number e)) (bytes 6 0) at (at + 4) (at + 8) (at + 10) (omega (arith, length_bytes 4 n))
    (omega (arith, length_bytes 4 (8 * n))) (omega (arith, length_bytes 2 (number e)))
