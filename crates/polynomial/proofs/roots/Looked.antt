-- What a look at a point gives, by the value there.
use Prim.Native.Nat.{ℕ, ◌≤◌}
use mathlib.Core.Path.{◌≡◌, sym, ap, subst, ◌∙◌}
use mathlib.Core.Bool.{Bool, true, false, cond}
use mathlib.Core.List.{List}
use lib.ListN.{length, take}
use lib.Ieee.{Float, eq}
use Rattle.float.specs.Number.{negative, zero_float}
use Rattle.polynomial.specs.Cuts.{put}
use Rattle.polynomial.specs.Polynomial.{evaluate, value_near, near_zero}
use Rattle.polynomial.specs.Promises.Front.{Front}
use Rattle.polynomial.specs.Promises.Inside.{Stands, touched}
use Rattle.polynomial.specs.declared.compensated.Compensated.{Compensated}
use Rattle.polynomial.proofs.roots.Kept.{same}

module _ (p : List Compensated) (x : Float) (w : List Float) (k : ℕ) where
  -- the clauses of a look's result
  pub record Seen (near : Bool) (v : Float) (r : ℕ) (after : List Float) : Type 0 where
    pub near_value : near ≡ near_zero p x
    pub stands : Stands v (evaluate p x)
    pub kept : Front (touched p x (take k w)) w r after

  seen : (b : Bool) (v : Float) (r : ℕ) (after : List Float) → near_zero p x ≡ b → Stands v (evaluate p x)
      → Front (cond b (put x (take k w)) (take k w)) w r after → Seen b v r after
  seen b v r after n s f = record {
    near_value = sym n;
    stands = s;
    kept = subst (λ (t : Bool). Front (cond t (put x (take k w)) (take k w)) w r after) (sym n) f;
  }

  -- by the value v, and whether it is near zero
  module _ (v : Float) (e : v ≡ evaluate p x) where
    for_value : Stands v (evaluate p x)
    for_value = (ap (λ (z : Float). eq z zero_float) e, ap negative e)

    near : (b : Bool) → value_near p x v ≡ b → near_zero p x ≡ b
    unfolding near_zero
    near b n = ap (value_near p x) (sym e) ∙ n

    pub at_zero : (r : ℕ) (after : List Float) → value_near p x v ≡ true → Front (put x (take k w)) w r after → Seen true v r after
    at_zero r after n f = seen true v r after (near true n) for_value f

    pub away : k ≤ length w → value_near p x v ≡ false → Seen false v k w
    away h n = seen false v k w (near false n) for_value (same w k h)
