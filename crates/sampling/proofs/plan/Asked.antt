-- What a plan whose angles can be asked says of its lists, and what a step gives.
use Rattle.std.specs.Prelude.{Some, None, Float, slice_get}
use Rattle.std.proofs.Props.{props}
use mathlib.Core.Logic.{∥∥₁_elim}
use mathlib.Core.Path.{◌≡◌, refl, subst}
use mathlib.Core.List.{List, [], ◌∷◌}
use Prim.Native.Nat.{ℕ, ◌+◌, ◌-◌, ◌*◌, ◌<◌, ◌≤◌}
use Rattle.std.proofs.Common.{arith, take, drop, length-drop, length-take-le}
use lib.ListN.{length}
use Rattle.sampling.specs.Promises.Stream.{Step, start}
use Rattle.sampling.specs.Promises.Plan.{to_come, Ready, Gives, step, all_samples}
use Rattle.sampling.proofs.Laws.Plan.{all_samples_length, step_gives}
use Rattle.sampling.proofs.Laws.Slices.{distinct_few}
use Rattle.sampling.proofs.Laws.Samples.{sample_count_most}
use Rattle.std.proofs.lemmas.Option.{slice_get_within}
use Rattle.sampling.specs.Samples.{sample_count}
use Rattle.sampling.specs.declared.lists.Lists.{Lists}
use Rattle.sampling.specs.declared.lists.Halves.{Halves}
use Rattle.sampling.specs.declared.lists.Plan.{Plan}
use Rattle.sampling.specs.declared.lists.Plan.TheVariants as of
use Rattle.sampling.specs.declared.stream.Cursor.{Cursor}

-- the second of two lists, as a slice cuts it
pub second_list : (w : List Float) (a b : ℕ) → take (a + b - a) (drop a w) ≡ take b (drop a w)
second_list w a b = let e : a + b - a ≡ b = omega arith in rw e refl

-- a sample that there is stands below four times the places
pub sample_below : (n : Lists) (w : List Float) (i : ℕ) (y : Float) → n.first + n.second + n.third ≤ length w → slice_get (all_samples n w) i ≡ Some y
    → i < 4 * length w
sample_below n w i y h e =
    omega (
      arith,
      slice_get_within (all_samples n w) i y e,
      all_samples_length n w h,
      sample_count_most n.first,
      sample_count_most n.second,
      sample_count_most n.third,
    )

module _ (p : Plan) (w : List Float) (r : ∥ Ready p w ∥₁) where
  pub lists_room : (n : Lists) → p ≡ of.Lists n → n.first + n.second + n.third ≤ length w
  lists_room n e = ∥∥₁_elim r (Prim.hlevel props) (λ h. subst (λ (q : Plan). Ready q w) e h)

  pub halves_room : (h : Halves) → p ≡ of.Halves h → h.first + h.second ≤ length w
  halves_room h e = ∥∥₁_elim r (Prim.hlevel props) (λ g. (subst (λ (q : Plan). Ready q w) e g).room)

  -- how many angles: of lists, and of halves at most
  pub lists_count : (n : Lists) → p ≡ of.Lists n → length (to_come p w start) ≡ sample_count n.first + sample_count n.second + sample_count n.third
  lists_count n e = rw e (all_samples_length n w (lists_room n e))

  pub halves_few : (h : Halves) → p ≡ of.Halves h → length (to_come p w start) ≤ 2 * length w + 1
  halves_few h e =
      let a = take h.first w in
      let b = take h.second (drop h.first w) in
      let f = distinct_few a b h.reference in
      let room = halves_room h e in
      let m = length-take-le h.first w (omega arith) in
      let k = length-take-le h.second (drop h.first w) (omega (arith, length-drop h.first w)) in
      rw e (omega (arith, f, m, k))

  module _ (c : Cursor) where
    gives : (s : Step) → step p w c ≡ s → ∥ Gives (to_come p w c) (to_come p w) s ∥₁
    gives s e = ∥∥₁_elim r (Prim.hlevel props) (λ g. ∣ subst (Gives (to_come p w c) (to_come p w)) e (step_gives p w c g) ∣₁)

    pub step_yields : (y : Float) (d : Cursor) → step p w c ≡ Some (y, d) → to_come p w c ≡ y ∷ to_come p w d
    step_yields y d e = ∥∥₁_elim (gives (Some (y, d)) e) (Prim.hlevel props) (λ g. g)

    pub step_done : step p w c ≡ None → to_come p w c ≡ []
    step_done e = ∥∥₁_elim (gives None e) (Prim.hlevel props) (λ g. g)
