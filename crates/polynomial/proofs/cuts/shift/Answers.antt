-- `polynomial::cuts::shift` meets its contract.
use Rattle.std.proofs.Common.{◌≡◌, ℕ, zero, suc, ◌+◌, ◌-◌, ◌<◌, List, [], ◌∷◌, ◌++◌, length, take, drop, refl, sym, ap, ap₂, ◌∙◌}
use Rattle.std.proofs.Common.{append_assoc, add-one, arith, length-take, length-append, le_of_suc-le-suc}
use lib.ListN.{set}
use lib.Seq.{paste, set-append_left}
use lib.Ieee.{Float}
use Rattle.polynomial.proofs.cuts.shift.Goals as goal

front : (d : List Float) (at : ℕ) (v : Float) → at < length d → set (take (suc at) d) at v ≡ take at d ++ v ∷ []
front [] at v h = absurd (omega arith)
front (x ∷ d) zero v h = refl
front (x ∷ d) (suc at) v h = ap (λ r. x ∷ r) (front d at v (le_of_suc-le-suc h))

-- v is stored in front of m values of s, which stand from at + 1 on
stored : (d s : List Float) (at m n : ℕ) (v : Float) → at < length d → n ≡ m → set (paste d (at + 1) s n) at v ≡ paste d at (v ∷ s) (m + 1)
stored d s at m n v h e =
    let l = length-take (at + 1) d in
    let k = length-append (take (at + 1) d) (take n s) in
    let f : set (take (at + 1) d) at v ≡ take at d ++ v ∷ [] = ap (λ (j : ℕ). set (take j d) at v) (add-one at) ∙ front d at v h in
    let g : at + 1 + n ≡ at + (m + 1) = omega arith in
    set-append_left (take (at + 1) d ++ take n s) (drop (at + 1 + n) d) at v (omega arith)
    ∙ ap₂ (λ r (j : ℕ). r ++ drop j d) (set-append_left (take (at + 1) d) (take n s) at v (omega arith) ∙ ap (λ r. r ++ take n s) f) g
    ∙ ap (λ r. r ++ drop (at + (m + 1)) d)
    (append_assoc (take at d) (v ∷ []) (take n s) ∙ ap (λ (j : ℕ). take at d ++ v ∷ take j s) e
    ∙ sym (ap (λ (j : ℕ). take at d ++ take j (v ∷ s)) (add-one m)))

pub returns : goal.returns
returns c =
    let a = c.args in
    ap (λ r. set r a.at a.v) c.copy_within.ensures.after
    ∙ stored a.room.now (drop a.at a.room.now) a.at a.many (a.at + a.many - a.at) a.v (omega arith) (omega arith)
