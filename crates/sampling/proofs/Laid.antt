-- Lists of cuts that stand one after the other in a lent slice, and what is answered of three.
use Rattle.std.specs.Prelude.{Option, Some, None}
use mathlib.Core.Path.{◌≡◌, sym, ap, ap₂, ◌∙◌}
use mathlib.Core.List.{List, ◌++◌, append_assoc}
use Prim.Native.Nat.{ℕ, ◌+◌, ◌-◌, ◌≤◌, ◌<◌}
use native.Mathlib.Omega.{arith}
use borrow.Author.Tests.{le-leb, lt-leb}
use lib.ListN.{length, take, drop, length-append, length-drop}
use lib.Seq.{take_at, drop_at, drop-drop}
use lib.Ieee.{Float}
use Rattle.polynomial.specs.Cuts.{cuts}
use Rattle.polynomial.specs.Promises.Held.{Kept}
use Rattle.polynomial.specs.Laws.Held.{kept_full}
use Rattle.polynomial.specs.Laws.Lists.{tail_part, tail_post}
use Rattle.sampling.specs.Promises.Plan.{lists_of, granted}
use Rattle.sampling.specs.declared.lists.Plan.TheVariants.{Lists}

-- the first n places of r hold l, and the others are as in w
pub record Laid (l w r : List Float) (n : ℕ) : Type 0 where
  pub count : n ≡ length l
  pub within : n ≤ length w
  pub list : r ≡ l ++ drop n w

-- ---- one list of cuts, in the front

module _ (v w r : List Float) (p : Option ℕ) (k : Kept v w r p) where
  pub laid_first : (n : ℕ) → p ≡ Some n → Laid (cuts v) w r n
  laid_first n e = let h = k.held n e in record { count = h.count; within = h.within; list = h.list }

-- ---- one more, in what stands behind

-- what r then is, where a callee was lent what stands behind n and left that as it is in last
abbrev pub replaced : ℕ → List Float → List Float → List Float
replaced n r last = take n r ++ (last ++ drop (length r - n) (drop n r))

module _ (l w r : List Float) (n : ℕ) (h : Laid l w r n) where
  pub laid_front : take n r ≡ l
  laid_front = ap (take n) h.list ∙ take_at l (drop n w) n (sym h.count)

  -- what is lent
  part : take (length r - n) (drop n r) ≡ drop n w
  part = tail_part n r ∙ ap (drop n) h.list ∙ drop_at l (drop n w) n (sym h.count)

  places : length (take (length r - n) (drop n r)) + n ≡ length w
  places = let a = ap length part in let b = length-drop n w in omega (arith, h.within)

  module _ (v last : List Float) (p : Option ℕ) (k : Kept v (take (length r - n) (drop n r)) last p) where
    pub no_place_behind : p ≡ None → length w < length l + length (cuts v)
    no_place_behind e = omega (arith, kept_full v _ last p k e, places, h.count)

    pub laid_next : (m : ℕ) → p ≡ Some m → Laid (l ++ cuts v) w (replaced n r last) (n + m)
    laid_next m e =
        let g = k.held m e in
        record {
          count = omega (arith, h.count, g.count, length-append l (cuts v));
          within = omega (arith, g.within, places);
          list =
              ap₂ (λ (x y : List Float). x ++ y) laid_front
              (tail_post n r last ∙ g.list ∙ ap (λ (z : List Float). cuts v ++ drop m z) part ∙ ap (λ (z : List Float). cuts v ++ z) (drop-drop m n w))
              ∙ sym (append_assoc l (cuts v) (drop (n + m) w));
        }

-- ---- what is answered of three lists

module _ (a b c : List Float) where
  abbrev count : ℕ
  count = length a + length b + length c

  module _ (places : ℕ) where
    short : places < count → None ≡ granted count (lists_of a b c) places
    short h = rw (lt-leb count places h)

    pub short_first : places < length a → None ≡ granted count (lists_of a b c) places
    short_first h = short (omega (arith, h))

    pub short_second : places < length a + length b → None ≡ granted count (lists_of a b c) places
    short_second h = short (omega (arith, h))

    pub short_third : places < length (a ++ b) + length c → None ≡ granted count (lists_of a b c) places
    short_third h = short (omega (arith, h, length-append a b))

    pub all_three : (m n k : ℕ) → m ≡ length a → n ≡ length b → k ≡ length c → m + n + k ≤ places
        → Some (Lists (record { first = m; second = n; third = k })) ≡ granted count (lists_of a b c) places
    all_three m n k e f g h = let t : count ≤ places = omega (arith, e, f, g, h) in rw (le-leb count places t, e, f, g)

  pub laid_three : (w r : List Float) (m : ℕ) → Laid ((a ++ b) ++ c) w r m → r ≡ ((a ++ b) ++ c) ++ drop count w
  laid_three w r m h =
      let e : m ≡ count = omega (arith, h.count, length-append (a ++ b) c, length-append a b) in
      h.list ∙ ap (λ (n : ℕ). ((a ++ b) ++ c) ++ drop n w) e

-- what `cut_intervals` goes by
pub ruleset intervals = (kept_full, no_place_behind, laid_first, laid_next, short_first, short_second, short_third, all_three, laid_three)
