-- Bytes written from the right: a turn writes the last of those that are left.
use Rattle.std.proofs.Common.{ℕ, zero, suc, ◌-◌, ◌/◌, ◌%◌, ◌<◌, ◌≤◌, ◌≡◌, arith, Bool, ◌&&◌, ltb, List, [], ◌∷◌, ◌++◌, length, set, drop}
use Rattle.std.proofs.Common.{append_assoc, add-one}
use Rattle.std.proofs.lemmas.List.{drop-set}
use Rattle.digits.specs.Hex.{letter}
use Rattle.digits.specs.Promises.Based as Based
use Rattle.digits.specs.Promises.Columns.{mark, before}

last : (l out : List ℕ) (i v : ℕ) → i < length out → l ++ drop i (set out i v) ≡ (l ++ (v ∷ [])) ++ drop (suc i) out
last l out i v h = rw (drop-set out i v h, add-one, append_assoc)

pub digit_more : (base : ℕ) (out : List ℕ) (i left v : ℕ) → 0 < i → i ≤ length out → v ≡ letter (left % base)
    → Based.digits base (i - 1) (left / base) ++ drop (i - 1) (set out (i - 1) v) ≡ Based.digits base i left ++ drop i out
unfolding Based.digits
digit_more base out zero left v h l e = let w : ⊥ = omega arith in absurd w
digit_more base out (suc i) left v h l e =
    let f : suc i - 1 ≡ i = omega arith in
    rw (f, last (Based.digits base i (left / base)) out i v l, e)

pub column_more : (out : List ℕ) (i : ℕ) (minus : Bool) (left v : ℕ) → 0 < i → i ≤ length out → v ≡ mark minus left
    → before (i - 1) (minus && ltb 0 left) (left / 10) ++ drop (i - 1) (set out (i - 1) v) ≡ before i minus left ++ drop i out
unfolding before
column_more out zero minus left v h l e = let w : ⊥ = omega arith in absurd w
column_more out (suc i) minus left v h l e =
    let f : suc i - 1 ≡ i = omega arith in
    rw (f, last (before i (minus && ltb 0 left) (left / 10)) out i v l, e)
