-- Laws of cuts that grow in a lent slice: nothing, one value, one list after another.
use Rattle.std.specs.Prelude.{Option, Some}
use mathlib.Core.Path.{◌≡◌, refl, sym, subst, subst₂, ◌∙◌}
use mathlib.Core.List.{List, [], ◌∷◌, ◌++◌, append_assoc, append-nil}
use Prim.Native.Nat.{ℕ}
use native.Mathlib.Omega.{arith}
use lib.Dec.{T}
use lib.ListN.{length}
use lib.Ieee.{Float, binary64, fits}
use Rattle.polynomial.specs.Promises.Insert.{push_answer, push_room}
use Rattle.polynomial.specs.Laws.Cuts.{fit_append}
use Rattle.polynomial.specs.Promises.Held.{Kept}
use Rattle.polynomial.specs.Laws.Held.{kept_none, kept_push}
use Rattle.sampling.specs.Promises.Grown.{Grown}
use Rattle.sampling.specs.declared.work.Cuts.{Cuts}

pub none : {a : Cuts} → Grown [] a a
none {a} =
    record {
      same_reference = refl;
      fit = tt;
      same = refl;
      kept = λ before w f k. subst (λ (z : List Float). Kept z w a.work.now a.count) (sym (append-nil before)) k;
    }

-- one value, put in as polynomial's `insert` does it, or left out where there was no place before
pub one : (a b : Cuts) (v : Float) → T (fits binary64 v) → b.work.ghost_name ≡ a.work.ghost_name → length b.work.now ≡ length a.work.now
    → b.count ≡ push_answer a.work.now a.count v → b.work.now ≡ push_room a.work.now a.count v → Grown (v ∷ []) a b
one a b v g r e p q =
    record {
      same_reference = r;
      fit = (g, tt);
      same = e;
      kept = λ before w f k.
          subst₂ (λ (z : List Float) (u : Option ℕ). Kept (before ++ v ∷ []) w z u) (sym q) (sym p) (kept_push before w a.work.now a.count v f g k);
    }

pub then : {x y : List Float} {a b c : Cuts} → Grown x a b → Grown y b c → Grown (x ++ y) a c
then {x} {y} {a} {b} {c} p q =
    record {
      same_reference = q.same_reference ∙ p.same_reference;
      fit = fit_append x y p.fit q.fit;
      same = omega (arith, p.same, q.same);
      kept = λ before w f k.
          subst (λ (z : List Float). Kept z w c.work.now c.count) (append_assoc before x y)
          (q.kept (before ++ x) w (fit_append before x f p.fit) (p.kept before w f k));
    }

-- from no cuts in w, to what is left in it
pub whole : {l w v : List Float} {a b : Cuts} → Grown l a b → a.count ≡ Some 0 → a.work.now ≡ w → v ≡ b.work.now → Kept l w v b.count
whole {l} {w} {v} {a} {b} p e f g =
    let k : Kept l a.work.now b.work.now b.count =
    p.kept [] a.work.now tt (subst (λ (u : Option ℕ). Kept [] a.work.now a.work.now u) (sym e) (kept_none a.work.now)) in
    subst₂ (λ (x y : List Float). Kept l x y b.count) f (sym g) k

-- In a loop: where the rest comes from a to b, the whole comes from a₀ to it.
abbrev pub Leads : (whole rest : List Float) → Cuts → Cuts → Type 0
Leads whole rest a₀ a = (b : Cuts) → Grown rest a b → Grown whole a₀ b

-- at the start all is left
pub leads_all : {l : List Float} {a : Cuts} → Leads l l a a
leads_all b g = g

-- one more part
pub leads_next : {whole x y rest : List Float} {a₀ a b : Cuts} → Leads whole rest a₀ a → rest ≡ x ++ y → Grown x a b → Leads whole y a₀ b
leads_next {whole} {x} {y} {rest} {a₀} {a} {b} h e p c g = h c (subst (λ (z : List Float). Grown z a c) (sym e) (then p g))

-- at the end nothing is
pub leads_end : {whole rest : List Float} {a₀ a : Cuts} → Leads whole rest a₀ a → rest ≡ [] → Grown whole a₀ a
leads_end {whole} {rest} {a₀} {a} h e = h a (subst (λ (z : List Float). Grown z a a) (sym e) none)
