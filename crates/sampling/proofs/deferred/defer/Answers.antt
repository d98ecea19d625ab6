-- `sampling::deferred::defer` meets its contract: one crossing more, whose angles are the roots, or none.
use Rattle.std.proofs.Common.{◌≡◌, List, [], ◌∷◌, ◌++◌, ◌-◌, append-nil, arith, ap, refl, ◌∙◌, length, length-append, take}
use Rattle.std.proofs.lemmas.Grind.{flat_map-append}
use Rattle.std.proofs.lemmas.List.{take_at}
use Rattle.sampling.proofs.continuum.Steps.{rooted}
use Rattle.sampling.proofs.deferred.defer.Goals as goal

-- what was put last and taken off again
taken : {A : Type 0} (l m n : List A) (x : A) → m ≡ l ++ (x ∷ []) → n ≡ take (length m - 1) m → n ≡ l
taken l m n x e f =
    let k : length m - 1 ≡ length l = omega (arith, ap length e, length-append l (x ∷ [])) in
    f ∙ rw (k, e) (take_at l (x ∷ []) (length l) refl)

pub returns-then-not-meets-clause-items : goal.returns-then-not-meets-clause-items
returns-then-not-meets-clause-items c =
    let same = taken _ _ _ _ c.push.ensures.items c.pop.ensures.rest in
    simp (same, rooted, ← c.hypot-radius.ensures, ← c.meets.ensures, c.if-not-meets.true, append-nil)

pub returns-else-not-meets-clause-items : goal.returns-else-not-meets-clause-items
returns-else-not-meets-clause-items c = simp (
  c.push.ensures.items,
  flat_map-append,
  rooted,
  ← c.hypot-radius.ensures,
  ← c.meets.ensures,
  c.if-not-meets.false,
  ← c.clamp-ratio.ensures,
  append-nil,
)
