-- `polynomial::cuts::insert` meets its contract.
use mathlib.Core.Path.{◌≡◌, refl, sym, subst, ◌∙◌}
use mathlib.Core.Bool.{true, false}
use mathlib.Core.List.{List}
use Prim.Native.Nat.{ℕ, ◌<◌}
use native.Mathlib.Omega.{arith}
use lib.Dec.{T}
use lib.ListN.{get_or}
use lib.Ieee.{Float, nan, eq}
use Rattle.float.specs.Number.{total_le, negative}
use Rattle.float.specs.Laws.Tests.{total_le_signs}
use Rattle.polynomial.proofs.Placed.{replaced, kept, full, inserted}
use Rattle.polynomial.proofs.cuts.insert.Goals as goal
use Rattle.polynomial.proofs.cuts.insert.Lts as lts
use Rattle.polynomial.proofs.cuts.insert.Reads as reads
use Rattle.polynomial.proofs.cuts.insert.Tie as tie
use Rattle.polynomial.proofs.cuts.insert.Goals.{else-at-count, then-at-count+else-w-v}

-- where the value found equals v: the list, its count, v, its place, and the value there
module _ (c : lts.Then2 tie.the-claims reads.Pre reads.Post tie.handed_clauses) where
  abbrev start : lts.Start tie.the-claims reads.Pre reads.Post tie.handed_clauses
  start = c.before.before.before.before.before

  abbrev w : List Float
  w = start.args.room.now

  abbrev n : ℕ
  n = start.args.count

  abbrev v : Float
  v = start.args.v

  abbrev at : ℕ
  at = c.find-at.result

  abbrev y : Float
  y = get_or w at nan

-- where v is new
fresh : (c : lts.Joined1 tie.the-claims reads.Pre reads.Post tie.handed_clauses) → c.find-at.result < c.args.count
    → eq (get_or c.args.room.now c.find-at.result nan) c.args.v ≡ false
fresh c = elim c.if-at-count.branch [ then-at-count+else-w-v w ↦ λ _. w.if-w-v.false | else-at-count w ↦ λ h. absurd (omega arith) ]

pub returns-then-negative : goal.returns-then-negative
returns-then-negative c = let d = c.before.before in let t : total_le (v d) (y d) ≡ true = total_le_signs (v d) (y d) true (negative (y d)) d.if-w-v.true
    (sym c.if-negative.true ∙ c.negative.ensures) refl in let all = replaced (w d) (n d) (v d) (at d) (start d).requires d.find-at.ensures d.if-at-count.true
    (subst T (sym d.if-w-v.true) tt) (subst T (sym t) tt) in record { value = all.0; room_after = all.1 }

pub returns-then-negative-2 : goal.returns-then-negative-2
returns-then-negative-2 c = let d = c.before.before.before.before.before in let t : total_le (v d) (y d) ≡ false =
    total_le_signs (v d) (y d) false true d.if-w-v.true
    (sym c.if-negative.false ∙ c.negative.ensures)
    (sym c.if-negative-2.true ∙ c.negative-then-w-v.ensures) in
    let all = kept (w d) (n d) (v d) (at d) (start d).requires d.find-at.ensures d.if-at-count.true (subst T (sym d.if-w-v.true) tt) t in
    record { value = all.0; room_after = all.1 }

pub returns-then-w-v : goal.returns-then-w-v
returns-then-w-v c = let d = c.before.before.before.before in let t : total_le (v d) (y d) ≡ true =
    total_le_signs (v d) (y d) false false d.if-w-v.true
    (sym c.if-negative.false ∙ c.negative.ensures)
    (sym c.if-negative-2.false ∙ c.negative-then-w-v.ensures) in
    let all = replaced (w d) (n d) (v d) (at d) (start d).requires d.find-at.ensures d.if-at-count.true
    (subst T (sym d.if-w-v.true) tt) (subst T (sym t) tt) in record { value = all.0; room_after = all.1 }

pub returns-then-count-room : goal.returns-then-count-room
returns-then-count-room c =
    let all = full _ _ _ _ c.requires c.find-at.ensures (fresh c.before) c.if-count-room.true in
    record { value = all.0; room_after = all.1 }

pub returns : goal.returns
returns c =
    let j = c.before.before.before.before.before.before in
    let p = inserted j.args.room.now j.args.count j.args.v j.find-at.result j.requires j.find-at.ensures (fresh j)
    (omega (arith, j.requires, c.if-count-room.false)) in record { value = p.0; room_after = c.shift.ensures ∙ p.1 }
