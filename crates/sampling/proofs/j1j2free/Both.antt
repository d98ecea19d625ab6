-- Both halves' lists, one after the other in the front of a slice, by what `half_cuts` says of each.
use Rattle.std.specs.Prelude.{Option, Some, None, IfSome}
use Prim.Native.Nat.{ℕ, ◌+◌, ◌-◌, ◌≤◌, ◌<◌}
use native.Mathlib.Omega.{arith}
use mathlib.Core.Path.{◌≡◌, refl, sym, ap, subst, ◌∙◌}
use mathlib.Core.List.{List, ◌++◌, append_assoc}
use lib.Dec.{T}
use lib.ListN.{length, take, drop, length-drop}
use lib.Seq.{take_at, drop_at, drop-drop}
use lib.Ieee.{Float, binary64, fits}
use borrow.Author.Tests.{le-leb, lt-leb}
use Rattle.float.specs.Number.{middle}
use Rattle.float.specs.Laws.Middle.{middle_fits}
use Rattle.polynomial.specs.Cuts.{cuts}
use Rattle.polynomial.specs.Promises.Held.{Kept}
use Rattle.polynomial.specs.Laws.Held.{kept_full}
use Rattle.polynomial.specs.Laws.Lists.{tail_part, tail_post}
use Rattle.polynomial.specs.declared.curve.Curve.{Curve}
use Rattle.sampling.specs.J1j2free.{curves, bends, first_half, second_half}
use Rattle.sampling.specs.Promises.Halves.{half_values, start, both}
use Rattle.sampling.specs.Promises.Plan.{halves_of, granted}
use Rattle.sampling.proofs.Laws.J1j2free.{half_cuts_are}
use Rattle.sampling.specs.declared.j1j2free.Folded.{Folded}
use Rattle.sampling.specs.declared.lists.Plan.{Plan}

-- the second list starts within the slice
pub starts : (a w v : List Float) (s : Option ℕ) (n : ℕ) → n ≡ start s (length v) → Kept a w v s → n ≤ length v
starts a w v (Some m) n e k = let h = k.held m refl in omega (arith, e, h.within, k.same)
starts a w v None n e k = omega (arith, e)

-- a into w, which leaves v; b into v behind the first list, which leaves u
module _ (r : Float) (a b w v u : List Float) where
  abbrev count : ℕ
  count = length (cuts a) + length (cuts b)

  answers : (s t : Option ℕ) → Kept a w v s → Kept b (drop (start s (length v)) v) u t → both r s t ≡ granted count (halves_of r (cuts a) (cuts b)) (length w)
  answers (Some n) (Some m) k l =
      let h = k.held n refl in
      let i = l.held m refl in
      let d = length-drop n v in
      let e : count ≤ length w = omega (arith, h.count, h.within, k.same, i.count, i.within, d) in
      rw (le-leb count (length w) e, h.count, i.count)
  answers (Some n) None k l =
      let h = k.held n refl in
      let d = length-drop n v in
      let e : length w < count = omega (arith, h.count, h.within, k.same, kept_full b (drop n v) u None l refl, d) in
      rw (lt-leb count (length w) e)
  answers None t k l =
      let e : length w < count = omega (arith, kept_full a w v None k refl) in
      rw (lt-leb count (length w) e)

  lists : (s t : Option ℕ) → Kept a w v s → Kept b (drop (start s (length v)) v) u t
      → IfSome (both r s t) (λ p. take (start s (length v)) v ++ u ≡ (cuts a ++ cuts b) ++ drop count w)
  lists (Some n) (Some m) k l =
      let h = k.held n refl in
      let i = l.held m refl in
      let x : take n v ≡ cuts a = ap (take n) h.list ∙ take_at (cuts a) (drop n w) n (sym h.count) in
      let y : drop n v ≡ drop n w = ap (drop n) h.list ∙ drop_at (cuts a) (drop n w) n (sym h.count) in
      let z : drop m (drop n v) ≡ drop count w = ap (drop m) y ∙ drop-drop m n w ∙ rw (h.count, i.count) in
      rw (x, i.list, z) (sym (append_assoc (cuts a) (cuts b) (drop count w)))
  lists (Some n) None k l = tt
  lists None t k l = tt

module _ (t : Folded) (lower upper m : Float) (f : T (fits binary64 lower)) (g : T (fits binary64 upper)) (em : m ≡ middle lower upper)
    (cs : List Curve) (ec : cs ≡ curves t) (bs : List Float) (eb : bs ≡ bends t)
    (w v last : List Float) (s r : Option ℕ) (n : ℕ) (en : n ≡ start s (length v))
    (k : Kept (half_values cs bs lower m) w v s) (l : Kept (half_values cs bs m upper) (take (length v - n) (drop n v)) last r) where
  first : first_half t lower upper ≡ cuts (half_values cs bs lower m)
  unfolding first_half
  first = rw (em, ec, eb) (half_cuts_are t lower (middle lower upper) f (middle_fits lower upper))

  second : second_half t lower upper ≡ cuts (half_values cs bs m upper)
  unfolding second_half
  second = rw (em, ec, eb) (half_cuts_are t (middle lower upper) upper (middle_fits lower upper) g)

  behind : Kept (half_values cs bs m upper) (drop (start s (length v)) v) last r
  behind = rw (← en) (subst (λ (d : List Float). Kept (half_values cs bs m upper) d last r) (tail_part n v) l)

  pub laid_halves : (q : Option Plan) → q ≡ both t.reference s r
      → (q ≡ granted (length (first_half t lower upper) + length (second_half t lower upper))
      (halves_of t.reference (first_half t lower upper) (second_half t lower upper)) (length w))
      × IfSome q (λ p. take n v ++ (last ++ drop (length v - n) (drop n v))
      ≡ (first_half t lower upper ++ second_half t lower upper) ++ drop (length (first_half t lower upper) + length (second_half t lower upper)) w)
  laid_halves q eq = (
    eq ∙ rw (first, second) (answers t.reference (half_values cs bs lower m) (half_values cs bs m upper) w v last s r k behind),
    rw (eq, tail_post n v last, en, first, second) (lists t.reference (half_values cs bs lower m) (half_values cs bs m upper) w v last s r k behind),
  )
