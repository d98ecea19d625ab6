-- What the proofs of the stream share: a step of the loop that drops what equals the last value; where a number stands.
use Rattle.std.specs.Prelude.{Some, None}
use Prim.Native.Nat.{ℕ, suc, ◌+◌, ◌/◌, ◌%◌, ◌<◌, ◌≤◌}
use native.Mathlib.Omega.{arith}
use mathlib.Core.Path.{◌≡◌, subst}
use mathlib.Core.Bool.{true, false, not}
use mathlib.Core.List.{List}
use lib.Dec.{T}
use lib.ListN.{length, get_or, get_or-eq_default}
use lib.Ieee.{Float, nan, ne, is_nan}
use Rattle.sampling.specs.Promises.Stream.{weave, advance, next_of}
use Rattle.sampling.proofs.Laws.Weave.{weave_length, weave_even, weave_odd, weave_past}
use Rattle.sampling.proofs.Laws.Step.{advance_drops}
use Rattle.float.specs.Number.{middle}
use Rattle.sampling.proofs.Laws.Heads.{number_index}
use Rattle.sampling.specs.declared.stream.Cursor.{Cursor}

module _ (a b : List Float) (r last : Float) (k : ℕ) (c : Cursor) where
  pub next_end : advance a b r c ≡ None → next_of (suc k) a b r last c ≡ None
  unfolding next_of
  next_end e = rw e

  module _ (y : Float) (d : Cursor) (e : advance a b r c ≡ Some (y, d)) where
    pub next_keep : ne y last ≡ true → next_of (suc k) a b r last c ≡ Some (y, record { i = d.i; j = d.j; used = d.used; last = y })
    unfolding next_of
    next_keep n = rw (e, n)

    pub next_skip : ne y last ≡ false → next_of (suc k) a b r last c ≡ next_of k a b r last d
    unfolding next_of
    next_skip n = rw (e, n)

-- where the value at an index is a number, the index is within
pub index_in : (l : List Float) (k : ℕ) (x : Float) → x ≡ get_or (weave l) k nan → is_nan x ≡ false → k < length l + length l
index_in l k x e n =
    let w = weave_length l in
    let h = number_index (weave l) k (subst (λ (v : Float). T (not (is_nan v))) e (rw n tt)) in omega arith

-- ---- the k-th of a list's cuts and middles

module _ (l : List Float) (k : ℕ) where
  pub cut_here : k % 2 ≡ 0 → get_or (weave l) k nan ≡ get_or l (k / 2) nan
  cut_here e = weave_even l k (k / 2) (omega arith)

  pub no_cut : length l ≤ k / 2 → get_or (weave l) k nan ≡ nan
  no_cut h = get_or-eq_default (weave l) nan {n = k} (omega (arith, h, weave_length l))

  module _ (o : k % 2 ≡ 0 → ⊥) where
    pub middle_here : k / 2 + 1 < length l → get_or (weave l) k nan ≡ middle (get_or l (k / 2) nan) (get_or l (k / 2 + 1) nan)
    middle_here h = weave_odd l k (k / 2) (omega arith) h

    pub no_middle : length l ≤ k / 2 + 1 → get_or (weave l) k nan ≡ nan
    no_middle h = weave_past l k (k / 2) (omega arith) h

pub ruleset weaving = (cut_here, no_cut, middle_here, no_middle)

-- what a step of `next` goes by
pub ruleset skipping = (advance_drops, next_end, next_keep, next_skip)
