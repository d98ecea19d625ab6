-- The i-th sample of three lists that stand one after the other, by what `sample_at` says of the list in which it lies.
use Prim.Native.Nat.{ℕ, ◌+◌, ◌-◌, ◌<◌, ◌≤◌}
use native.Mathlib.Omega.{arith}
use mathlib.Core.Path.{◌≡◌, sym, ◌∙◌}
use mathlib.Core.List.{List}
use Rattle.std.specs.Prelude.{Option, slice_get}
use lib.ListN.{length, take, drop, length-drop}
use lib.Seq.{length-take-le}
use lib.Ieee.{Float}
use Rattle.sampling.specs.Samples.{samples, sample_count, three_samples}
use Rattle.sampling.proofs.Laws.Samples.{three_first, three_second, three_third}

-- the three lists in w, of x, y and z cuts, where k and m are the numbers of samples of the first two; r is what `sample_at` gave
module _ (w : List Float) (x y z : ℕ) (h : x + y + z ≤ length w) (i : ℕ) (r : Option Float) where
  abbrev first : List Float
  first = take x w

  abbrev second : List Float
  second = take y (drop x w)

  abbrev third : List Float
  third = take z (drop (x + y) w)

  abbrev angle : Option Float
  angle = slice_get (three_samples first second third) i

  first_length : length first ≡ x
  first_length = length-take-le x w (omega (arith, h))

  second_length : length second ≡ y
  second_length = length-take-le y (drop x w) (omega (arith, h, length-drop x w))

  pub in_first : (k : ℕ) → k ≡ sample_count x → i < k → r ≡ slice_get (samples (take (x - 0) w)) i → r ≡ angle
  in_first k e b t =
      let q : x - 0 ≡ x = omega arith in
      t ∙ rw q (sym (three_first first second third i (rw (first_length, ← e) b)))

  module _ (k m : ℕ) (e : k ≡ sample_count x) (f : m ≡ sample_count y) where
    pub in_second : k ≤ i → i < k + m → r ≡ slice_get (samples (take (x + y - x) (drop x w))) (i - k) → r ≡ angle
    in_second b d t =
        let q : x + y - x ≡ y = omega arith in
        t ∙ rw q (sym (three_second first second third i (i - k) (rw (first_length, ← e) (omega (arith, b))) (rw (second_length, ← f) (omega (arith, b, d)))))

    pub in_third : k + m ≤ i → r ≡ slice_get (samples (take (x + y + z - (x + y)) (drop (x + y) w))) (i - (k + m)) → r ≡ angle
    in_third b t =
        let q : x + y + z - (x + y) ≡ z = omega arith in
        t ∙ rw q (sym (three_third first second third i (i - (k + m)) (rw (first_length, second_length, ← e, ← f) (omega (arith, b)))))

pub ruleset parts = (in_first, in_second, in_third)
