-- `float::remainder::remainder` meets its contract: what needs no division by `Fast`, and the rest in whole numbers by `Reduced`.
use Rattle.std.proofs.Common.{◌≡◌, ℕ, ◌*◌, ◌^◌, ◌<◌, Bool, true, false, not, T, sym, ap, ◌∙◌, subst, lt_trans, mod-lt, rules}
use lib.Ieee.{Float, binary64, round, neg, sub, rem, lt, eq, fits, of_bits, is_nan}
use lib.Ieee.Scale.{finite}
use Rattle.float.specs.Number.{abs, negative}
use Rattle.float.specs.Laws.Tests.{nan_test}
use Rattle.float.proofs.Pattern.{the_nan}
use Rattle.float.proofs.mul_add.Special.{some_digits}
use Rattle.float.proofs.remainder.Reduced.{rem_digits}
use Rattle.float.proofs.remainder.Fast.{first_nan, second_nan, first_not, second_fine, second_zero}
use Rattle.float.proofs.remainder.Fast.{first_less, not_lower, once_positive, once_negative, sign_test}
use Rattle.float.proofs.remainder.remainder.Goals as goal
use Rattle.float.proofs.remainder.remainder.Goals.{then-is_nan-via-then-is_nan, then-is_nan-via-else-is_nan+then-is_nan-2}
use Rattle.float.proofs.remainder.remainder.Goals.{then-not-is_finite-via-then-not-is_finite, then-not-is_finite-via-else-not-is_finite+then-m}

-- a test of the two magnitudes, as the code has them
tested : (u v x y : Float) (b : Bool) → u ≡ x → v ≡ y → lt u v ≡ b → lt x y ≡ b
tested u v x y b p q h = sym (λ i. lt (p i) (q i)) ∙ h

-- ---- a finite x whose magnitude u is not below the magnitude v of a number m
module _ (x m u v : Float) (p : u ≡ abs x) (q : v ≡ abs m) (f : T (finite x)) (n : T (not (is_nan m))) (h : lt u v ≡ false) where
  not_less : lt (abs x) (abs m) ≡ false
  not_less = tested u v (abs x) (abs m) false p q h

  m_fine : T (finite m)
  m_fine = second_fine x m f n not_less

  -- and m is no zero: where it goes into x once, what is left is the remainder
  module _ (F : T (fits binary64 m)) (z : eq m (of_bits binary64 0) ≡ false) (l : lt (sub binary64 u v) v ≡ true) where
    is : sub binary64 u v ≡ sub binary64 (abs x) (abs m)
    is = λ i. sub binary64 (p i) (q i)

    small : lt (sub binary64 (abs x) (abs m)) (abs m) ≡ true
    small = tested (sub binary64 u v) v (sub binary64 (abs x) (abs m)) (abs m) true is q l

    sign : lt x (of_bits binary64 0) ≡ negative x
    sign = sign_test x m f m_fine z not_less

    left_negative : lt x (of_bits binary64 0) ≡ true → neg (sub binary64 u v) ≡ rem binary64 x m
    left_negative s = ap neg is ∙ once_negative x m F f m_fine z not_less small (ap not (sym sign ∙ s))

    left_positive : lt x (of_bits binary64 0) ≡ false → sub binary64 u v ≡ rem binary64 x m
    left_positive s = is ∙ once_positive x m F f m_fine z not_less small (ap not (sym sign ∙ s))

-- ---- no division
pub returns-then-is_nan : goal.returns-then-is_nan
returns-then-is_nan c = the_nan ∙ elim c.then-is_nan.branch [
  | then-is_nan-via-then-is_nan w ↦ first_nan c.args.x c.args.m (nan_test c.args.x (search rules))
  | then-is_nan-via-else-is_nan+then-is_nan-2 w ↦ second_nan c.args.x c.args.m (nan_test c.args.m (search rules))
]

pub returns-then-u-v : goal.returns-then-u-v
returns-then-u-v c =
    first_less c.args.x c.args.m (search rules) (search rules) (tested _ _ _ _ true c.abs-u.ensures c.abs-v.ensures c.if-u-v.true)

pub returns-then-not-is_finite : goal.returns-then-not-is_finite
returns-then-not-is_finite c =
    let fine : T (finite c.args.x) → T (finite c.args.m) = λ f.
    m_fine c.args.x c.args.m _ _ c.abs-u.ensures c.abs-v.ensures f (search rules) c.if-u-v.false in
    the_nan ∙ elim c.then-not-is_finite.branch [
      | then-not-is_finite-via-then-not-is_finite w ↦ first_not c.args.x c.args.m (search rules)
      | then-not-is_finite-via-else-not-is_finite+then-m w ↦
          let f : T (finite c.args.x) = search rules in second_zero c.args.x c.args.m f (fine f) w.if-m.true
    ]

pub returns-then-x : goal.returns-then-x
returns-then-x c =
    left_negative c.args.x c.args.m _ _ c.abs-u.ensures c.abs-v.ensures (search rules) (search rules) c.if-u-v.false (search rules) c.if-m.false
    c.if-w-v.true c.if-x.true

pub returns-else-x : goal.returns-else-x
returns-else-x c =
    left_positive c.args.x c.args.m _ _ c.abs-u.ensures c.abs-v.ensures (search rules) (search rules) c.if-u-v.false (search rules) c.if-m.false
    c.if-w-v.true c.if-x.false

-- ---- in whole numbers
pub split-b-requires : goal.split-b-requires
split-b-requires c = m_fine c.args.x c.args.m _ _ c.abs-u.ensures c.abs-v.ensures (search rules) (search rules) c.if-u-v.false

pub overflow_sub-a : goal.overflow_sub-a
overflow_sub-a c =
    not_lower c.args.x c.args.m _ _ _ _ _ _ c.split-a.ensures c.split-b.ensures
    (tested _ _ _ _ false c.abs-u.ensures c.abs-v.ensures c.if-u-v.false)

pub reduce-requires : goal.reduce-requires
reduce-requires c =
    (c.split-a.ensures.short, some_digits c.args.m _ _ _ c.split-b.ensures c.if-m.false, c.split-b.ensures.short)

pub pack-requires : goal.pack-requires
pack-requires c =
    let some = some_digits c.args.m _ _ _ c.split-b.ensures c.if-m.false in
    (subst (λ (r : ℕ). r < 2 ^ 53) (sym c.reduce.ensures) (lt_trans (mod-lt _ some) c.split-b.ensures.short), c.split-b.ensures.place)

pub returns : goal.returns
returns c =
    c.pack.ensures
    ∙ ap (λ (n : ℕ). round binary64 c.split-a.result.neg (n * 2 ^ c.split-b.result.k) (2 ^ 1074)) c.reduce.ensures
    ∙ rem_digits c.args.x c.args.m _ _ _ _ _ _ (search rules) c.split-a.ensures c.split-b.ensures
    (some_digits c.args.m _ _ _ c.split-b.ensures c.if-m.false)
    (not_lower c.args.x c.args.m _ _ _ _ _ _ c.split-a.ensures c.split-b.ensures
    (tested _ _ _ _ false c.abs-u.ensures c.abs-v.ensures c.if-u-v.false))
