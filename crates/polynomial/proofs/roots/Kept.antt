-- What stands in a slice whose first places hold a list, and after one more value was put there, or was not.
use Rattle.std.specs.Prelude.{Option, Some, IsSome}
use Prim.Native.Nat.{ℕ, ◌<◌, ◌≤◌}
use native.Mathlib.Omega.{arith}
use mathlib.Core.Path.{◌≡◌, sym, ap, ap₂, subst, ◌∙◌}
use mathlib.Core.Bool.{Bool, true, false, not, cond}
use mathlib.Core.List.{List, ◌++◌}
use lib.Dec.{leb}
use lib.ListN.{length, take, drop, length-take, length-append, length-drop, take-append-drop}
use lib.Seq.{length-take-le, take_at}
use lib.Ieee.{Float}
use borrow.Author.Rules.{rules}
use borrow.Author.Tests.{le-leb}
use Rattle.float.specs.Number.{negative}
use Rattle.polynomial.specs.Cuts.{put}
use Rattle.polynomial.specs.Roots.{crosses, bisected}
use Rattle.polynomial.specs.Promises.Inside.{crossed}
use Rattle.polynomial.specs.Promises.Front.{Front}
use Rattle.polynomial.specs.Promises.Insert.{grown, put_answer}
use Rattle.polynomial.specs.Laws.Cuts.{put_most, put_longer}
use Rattle.polynomial.specs.Laws.Held.{drop_past}

pub front_of : (l w after : List Float) (r : ℕ) → r ≡ length l → take r after ≡ l → drop r after ≡ drop r w → Front l w r after
front_of l w after r n t d = (n, sym (take-append-drop r after) ∙ ap₂ ◌++◌ t d)

module _ (l w after : List Float) (r : ℕ) (f : Front l w r after) where
  pub front_take : take r after ≡ l
  front_take = ap (take r) f.1 ∙ take_at l (drop r w) r (sym f.0)

  pub front_rest : (m : ℕ) → r ≤ m → drop m after ≡ drop m w
  front_rest m h = ap (drop m) f.1 ∙ drop_past l w r m (sym f.0) h

  pub front_length : r ≤ length w → length after ≡ length w
  front_length h =
      let a = length-append l (drop r w) in
      let d = length-drop r w in
      let e = ap length f.1 in
      let n = f.0 in
      omega arith

  pub front_same : (k : List Float) → k ≡ l → Front k w r after
  front_same k e = subst (λ (x : List Float). Front x w r after) (sym e) f

-- ---- one more value, or none

-- the list does not get shorter
pub put_least : (v : Float) (w : List Float) (k r : ℕ) → k ≤ length w → r ≡ length (put v (take k w)) → k ≤ r
put_least v w k r h e = let a = put_longer v (take k w) in let t = length-take-le k w h in omega arith

module _ (w : List Float) (k : ℕ) (v : Float) (h : k < length w) where
  room : leb (length (grown w k v)) (length w) ≡ true
  room = let m = put_most v (take k w) in let t = length-take k w in le-leb (length (grown w k v)) (length w) (omega arith)

  pub kept_some : (answer : Option ℕ) → answer ≡ put_answer w k v → IsSome answer
  kept_some answer a =
      let c : answer ≡ Some (length (grown w k v)) = a ∙ simp room in
      rw c (search rules)

pub same : (w : List Float) (k : ℕ) → k ≤ length w → Front (take k w) w k w
same w k h = (sym (length-take-le k w h), sym (take-append-drop k w))

-- by a test, l or what stood in the first k places
pub taken : (w after : List Float) (b : Bool) (k r : ℕ) (l : List Float) → b ≡ true → Front l w r after → Front (cond b l (take k w)) w r after
taken w after b k r l e f = rw e f

pub left : (w : List Float) (b : Bool) (k : ℕ) (l : List Float) → b ≡ false → k ≤ length w → Front (cond b l (take k w)) w k w
left w b k l e h = rw e (same w k h)

-- the end of a bisection: b is whether the values cross zero, g whether the first is positive
pub crossed_taken : (f : Float → Float) (lo hi u v : Float) (w after : List Float) (k r : ℕ) (b g : Bool) (root : Float) → b ≡ crosses u v → b ≡ true
    → g ≡ not (negative u) → root ≡ bisected f g lo hi → Front (put root (take k w)) w r after
    → Front (crossed f lo hi u v (take k w)) w r after
crossed_taken f lo hi u v w after k r b g root B t G R h =
    taken w after (crosses u v) k r _ (sym B ∙ t)
    (subst (λ (z : Float). Front (put z (take k w)) w r after) (R ∙ ap (λ (s : Bool). bisected f s lo hi) G) h)
