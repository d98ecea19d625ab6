-- What `curve_roots` rests on beside the laws of its definitions: the lists that stand at the front of the lent places, what
-- stands behind them, and that there is room.
use Prim.Native.Nat.{ℕ, suc, ◌+◌, ◌-◌, ◌*◌, ◌^◌, ◌≤◌, ◌<◌}
use native.Mathlib.Nat.{le_refl, le_trans, le_of_eq, pow-suc}
use native.Mathlib.Omega.{arith}
use mathlib.Core.Path.{◌≡◌, refl, ap, sym, subst, ◌∙◌}
use mathlib.Core.List.{List, ◌++◌}
use lib.Pow.{pow_mono}
use lib.ListN.{length, take, drop, length-take}
use Rattle.std.proofs.lemmas.List.{take-append-le}
use lib.Ieee.{Float}
use Rattle.float.specs.Promises.Order.{Span}
use Rattle.polynomial.specs.Cuts.{put}
use Rattle.polynomial.specs.Polynomial.{derivative}
use Rattle.polynomial.specs.Roots.{touches, roots}
use Rattle.polynomial.specs.declared.compensated.Compensated.{Compensated}
use Rattle.polynomial.specs.Promises.Front.{Front}
use Rattle.polynomial.specs.Promises.Inside.{Ready, found, points_of}
use Rattle.polynomial.specs.Laws.Cuts.{put_most}
use Rattle.polynomial.specs.Laws.Degree.{derivative_length}
use Rattle.polynomial.specs.Laws.Enclosed.{all_in, all_most, roots_strict, found_short, points_put, points_short, points_some, points_ready}
use Rattle.polynomial.proofs.roots.Kept.{front_of, front_take, front_rest, put_least}

-- one more value
pub put_room : (v : Float) (k : ℕ) (l : List Float) (r : ℕ) → r ≡ length (put v (take k l)) → r ≤ k + 1
put_room v k l r e = let a = put_most v (take k l) in let b = length-take k l in omega arith

half : (n : ℕ) → 2 < n → (2 ^ n ≡ 2 ^ (n - 1) * 2) × (2 ^ 2 ≤ 2 ^ (n - 1))
half n h =
    let e : suc (n - 1) ≡ n = omega arith in
    (ap (λ (j : ℕ). 2 ^ j) (sym e) ∙ pow-suc 2 (n - 1), pow_mono {i = 2} {j = n - 1} (omega arith))

module _ (p : List Compensated) (lower upper : Float) (N : 2 < length p) where
  abbrev R : List Float
  R = roots (derivative p) lower upper

  most : length R ≤ 2 ^ (length p - 1) - 3
  most = all_most lower upper (length p - 1) (derivative p) (le_of_eq (derivative_length p))

  -- d is the derivative, as the code has it
  module _ (d : List Compensated) (e : d ≡ derivative p) where
    pub shorter : (t : ℕ) → length p + length p ≡ t → length d + length d + 1 < t
    shorter t h = let a = derivative_length p in let b = ap length e in omega arith

    pub few : length p ≤ 9 → length d ≤ 9
    few h = let a = derivative_length p in let b = ap length e in omega arith

    -- its roots have room
    pub inner_room : (len : ℕ) → 2 ^ length p ≤ len → 2 ^ length d ≤ len
    inner_room len h = let a = half (length p) N in let b = ap (λ (n : ℕ). 2 ^ n) (ap length e ∙ derivative_length p) in omega arith

    pub of_derivative : (W A : List Float) (c : ℕ) → Front (roots d lower upper) W c A → Front R W c A
    of_derivative W A c = subst (λ (q : List Compensated). Front (roots q lower upper) W c A) e

  -- both bounds have room behind them
  pub bound_room : (len k : ℕ) → 2 ^ length p ≤ len → k ≡ length R → k + 2 ≤ len
  bound_room len k h e = let r = most in let a = half (length p) N in omega arith

  -- twice as many places as there are points
  pub points_room : (len count : ℕ) → 2 ^ length p ≤ len → count ≡ length (points_of p lower upper) → count + count ≤ len
  points_room len count g e =
      let r = most in
      let s = points_short lower upper R in
      let a = half (length p) N in
      omega arith

  pub found_room : length (found p (points_of p lower upper)) ≤ 2 ^ length p
  found_room = let f = found_short p (points_of p lower upper) in let t = points_room (2 ^ length p) _ (le_refl (2 ^ length p)) refl in omega arith

  -- the derivative's roots stand at the front of A, where W was; with the lower bound, at that of B; with both, at that of D
  module _ (s : Span 2 lower upper) (W A B D : List Float) (c b d : ℕ) (f : Front R W c A) (g : Front (put lower (take c A)) A b B)
      (room : 2 ^ length p ≤ length W) (la : length A ≡ length W) (lb : length B ≡ length A) where
    pub second_room : b < length B
    second_room = let r = bound_room (length W) c room f.0 in let m = put_room lower c A b g.0 in omega arith

    module _ (h : Front (put upper (take b B)) B d D) (ld : length D ≡ length B) where
      strict : put upper (put lower R) ≡ points_of p lower upper
      unfolding roots
      strict = points_put lower upper s R (all_in lower upper s (derivative p)) (roots_strict lower upper (length (derivative p)) (derivative p))

      pub bounded : Front (points_of p lower upper) W d D
      bounded =
          let e : put upper (take b B) ≡ points_of p lower upper =
          ap (put upper) (front_take (put lower (take c A)) A B b g ∙ ap (put lower) (front_take R W A c f)) ∙ strict in
          let r = bound_room (length W) c room f.0 in
          let y = put_room lower c A b g.0 in
          let m = put_least lower A c b (omega arith) g.0 in
          let n = put_least upper B b d (omega arith) h.0 in
          front_of (points_of p lower upper) W D d (h.0 ∙ ap length e) (front_take (put upper (take b B)) B D d h ∙ e)
          (front_rest (put upper (take b B)) B D d h d (le_refl d) ∙ front_rest (put lower (take c A)) A B b g d n ∙ front_rest R W A c f d (le_trans m n))

  -- the points, at the front of D, can be gone through where they stand
  module _ (s : Span 2 lower upper) (W D : List Float) (d : ℕ) (f : Front (points_of p lower upper) W d D) where
    pub points_are : take d D ≡ points_of p lower upper
    points_are = front_take (points_of p lower upper) W D d f

    pub scannable : Ready (take d D)
    scannable = subst Ready (sym points_are) (points_ready lower upper s R (all_in lower upper s (derivative p)))

    pub some : 0 < length (take d D)
    some = let z = points_some lower upper R in let e = ap length points_are in omega arith

    pub twice : (len : ℕ) → 2 ^ length p ≤ len → length (take d D) + length (take d D) ≤ len
    twice len k = points_room len (length (take d D)) k (ap length points_are)

    -- those near zero are in front of what stood there
    pub near_front : (near : ℕ) (after : List Float) → near ≤ length (take d D) → take near after ≡ touches p (take d D) → length after ≡ length (take d D)
        → 2 ^ length p ≤ length W → (near ≤ length W) × (take near (after ++ drop d D) ≡ touches p (points_of p lower upper))
    near_front near after h e l room =
        let t = twice (length W) room in
        (omega arith, take-append-le near after (drop d D) (omega arith) ∙ e ∙ ap (touches p) points_are)

    pub found_front : (out last : List Float) (r : ℕ) → Front (found p (take d D)) out r last → Front (found p (points_of p lower upper)) out r last
    found_front out last r = subst (λ (l : List Float). Front (found p l) out r last) points_are
