-- A loop that goes down a list from its end: what it has seen so far, and what holds of that.
use Rattle.std.proofs.Common.{◌≡◌, List, [], ◌∷◌, ◌++◌, length, sym, ap, subst, ◌∙◌, append_assoc}
use mathlib.Core.List.{append-nil}

-- of the list `all`, `rest` is still to come
pub record Down {A : Type 0} (P : List A → Type 0) (all rest : List A) : Type 0 where
  pub seen : List A
  pub joined : all ≡ rest ++ seen
  pub holds : P seen

pub down_start : {A : Type 0} {P : List A → Type 0} (all rest : List A) → rest ≡ all → P [] → Down P all rest
down_start all rest e h = record { seen = []; joined = sym e ∙ sym (append-nil rest); holds = h }

pub down_on : {A : Type 0} {P Q : List A → Type 0} {all rest : List A} (d : Down P all rest) (c : A) (left : List A) → rest ≡ left ++ c ∷ []
    → Q (c ∷ d.seen) → Down Q all left
down_on d c left e h = record {
  seen = c ∷ d.seen;
  joined = d.joined ∙ ap (λ r. r ++ d.seen) e ∙ append_assoc left (c ∷ []) d.seen;
  holds = h;
}

pub down_end : {A : Type 0} {P : List A → Type 0} {all rest : List A} → Down P all rest → length rest ≡ 0 → P all
down_end {P = P} {rest = []} d e = subst P (sym d.joined) d.holds
down_end {rest = x ∷ r} d e = absurd (cc)
