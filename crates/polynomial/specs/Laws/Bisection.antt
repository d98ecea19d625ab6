-- The bisection of an interval is its loop: more steps than there are units between the ends change nothing
-- (`enough`), so a step gives what its half gives, with no count of steps (`step`).
-- Each way through a step has its law, whose premises are the code's tests. The result lies between the ends (`bisected-in`).
use Prim.Native.Nat.{ℕ, zero, suc, ◌-◌, ◌^◌, ◌≤◌, ◌<◌}
use Rattle.std.proofs.Common.{le_trans, arith, ap, ◌∙◌, subst, lit≤}
use Rattle.std.specs.Prelude.{◌≡◌, Bool, true, false, not, ◌||◌, T, Float}
use Rattle.std.proofs.Math.Path.{refl, sym}
use Rattle.std.specs.Bool.{beq}
use Rattle.std.specs.Float.{binary64}
use Rattle.std.specs.Float.Ieee.{fits, eq}
use Rattle.float.specs.Number.{negative, middle, zero_float}
use Rattle.float.specs.Promises.Order.{Le}
use Rattle.float.specs.Laws.Le.{or_l}
use Rattle.float.specs.Laws.Interval.{In, Le-refl, Le-trans}
use Rattle.float.specs.Promises.Order.{width}
use Rattle.float.specs.Promises.Order.{Span}
use Rattle.float.specs.Laws.Middle.{middle_fits, span_width, middle_in, right_half, left_half, middle_strict, middle_none}
use Rattle.polynomial.specs.Roots.{ends, one_step, bisect_steps, bisected}

-- ---- the two halves

neither : (a b : Bool) → T (not (a || b)) → (a ≡ false) × (b ≡ false)
neither true b t = absurd t
neither false true t = absurd t
neither false false t = (refl, refl)

narrower : {lo hi : Float} → Span 2 lo hi → T (not (ends lo hi))
    → (width binary64 (middle lo hi) hi < width binary64 lo hi) × (width binary64 lo (middle lo hi) < width binary64 lo hi)
narrower {lo} {hi} s t =
    let n = neither (eq (middle lo hi) lo) (eq (middle lo hi) hi) t in
    let i = middle_strict s n.0 n.1 in
    (i.right, i.left)

none_inside : {lo hi : Float} → Span 2 lo hi → width binary64 lo hi ≤ 0 → T (ends lo hi)
none_inside {lo} {hi} s w = or_l (eq (middle lo hi) lo) (eq (middle lo hi) hi) (middle_none s (omega arith))

-- ---- more steps change nothing

step_stop : (b z r : Bool) (m : Float) (a c : Unit {0} → Float) → T b → one_step b z r m a c ≡ m
step_stop true z r m a c t = refl
step_stop false z r m a c t = absurd t

step_same : (b z r : Bool) (m : Float) (a a' c c' : Unit {0} → Float) → (T (not b) → a tt ≡ a' tt) → (T (not b) → c tt ≡ c' tt)
    → one_step b z r m a c ≡ one_step b z r m a' c'
step_same true z r m a a' c c' p q = refl
step_same false true r m a a' c c' p q = refl
step_same false false true m a a' c c' p q = p tt
step_same false false false m a a' c c' p q = q tt

module _ (f : Float → Float) (p : Bool) where
  pub enough : (n k : ℕ) (lo hi : Float) → Span 2 lo hi → width binary64 lo hi ≤ n → width binary64 lo hi ≤ k
      → bisect_steps f p n lo hi ≡ bisect_steps f p k lo hi
  unfolding bisect_steps
  enough zero zero lo hi s v w = refl
  enough zero (suc k) lo hi s v w = sym (step_stop (ends lo hi) _ _ (middle lo hi) _ _ (none_inside s v))
  enough (suc n) zero lo hi s v w = step_stop (ends lo hi) _ _ (middle lo hi) _ _ (none_inside s w)
  enough (suc n) (suc k) lo hi s v w =
      let m = middle lo hi in
      step_same (ends lo hi) (eq (f m) zero_float) (beq (not (negative (f m))) p) m (λ _. bisect_steps f p n m hi) (λ _. bisect_steps f p k m hi)
      (λ _. bisect_steps f p n lo m) (λ _. bisect_steps f p k lo m)
      (λ t. let x = (narrower s t).0 in enough n k m hi (right_half s) (omega arith) (omega arith))
      (λ t. let x = (narrower s t).1 in enough n k lo m (left_half s) (omega arith) (omega arith))

  more : (n : ℕ) (lo hi : Float)
      → bisect_steps f p (suc n) lo hi ≡ one_step (ends lo hi) (eq (f (middle lo hi)) zero_float) (beq (not (negative (f (middle lo hi)))) p)
      (middle lo hi) (λ _. bisect_steps f p n (middle lo hi) hi) (λ _. bisect_steps f p n lo (middle lo hi))
  unfolding bisect_steps
  more n lo hi = refl

  -- the width is below both numbers of steps
  wide : {lo hi : Float} → Span 2 lo hi → (width binary64 lo hi ≤ 2 ^ 1078 - 1) × (width binary64 lo hi ≤ 2 ^ 1078)
  wide s = (le_trans (span_width s) (lit≤ tt), le_trans (span_width s) (lit≤ tt))

  -- the loop's own equation, with no count of steps
  pub step : (lo hi : Float) → Span 2 lo hi
      → bisected f p lo hi ≡ one_step (ends lo hi) (eq (f (middle lo hi)) zero_float) (beq (not (negative (f (middle lo hi)))) p) (middle lo hi)
      (λ _. bisected f p (middle lo hi) hi) (λ _. bisected f p lo (middle lo hi))
  unfolding bisected
  step lo hi s =
      let m = middle lo hi in
      let r = right_half s in
      let l = left_half s in
      more (2 ^ 1078 - 1) lo hi
      ∙ step_same (ends lo hi) (eq (f m) zero_float) (beq (not (negative (f m))) p) m (λ _. bisect_steps f p (2 ^ 1078 - 1) m hi)
      (λ _. bisect_steps f p (2 ^ 1078) m hi) (λ _. bisect_steps f p (2 ^ 1078 - 1) lo m) (λ _. bisect_steps f p (2 ^ 1078) lo m)
      (λ t. enough (2 ^ 1078 - 1) (2 ^ 1078) m hi r (wide r).0 (wide r).1)
      (λ t. enough (2 ^ 1078 - 1) (2 ^ 1078) lo m l (wide l).0 (wide l).1)

  -- ---- the ways of a step, in the words of its tests: m is the middle, v the value there, g whether v is positive

  module _ (lo hi m : Float) (s : Span 2 lo hi) (e : m ≡ middle lo hi) where
    stepped : (b z r : Bool) → eq m lo || eq m hi ≡ b → eq (f m) zero_float ≡ z → beq (not (negative (f m))) p ≡ r
        → bisected f p lo hi ≡ one_step b z r m (λ _. bisected f p m hi) (λ _. bisected f p lo m)
    stepped b z r B Z R =
        step lo hi s
        ∙ ap (λ (x : Float). one_step (eq x lo || eq x hi) (eq (f x) zero_float) (beq (not (negative (f x))) p) x (λ _. bisected f p x hi)
        (λ _. bisected f p lo x)) (sym e)
        ∙ simp (B, Z, R)

    pub at_lo : eq m lo ≡ true → m ≡ bisected f p lo hi
    at_lo t = sym (stepped true _ _ (ap (λ (b : Bool). b || eq m hi) t) refl refl)

    module _ (l : eq m lo ≡ false) where
      pub at_hi : eq m hi ≡ true → m ≡ bisected f p lo hi
      at_hi t = sym (stepped true _ _ (ap (λ (b : Bool). b || eq m hi) l ∙ t) refl refl)

      module _ (h : eq m hi ≡ false) where
        off : T (not (ends lo hi))
        off = subst (λ (b : Bool). T (not b)) (sym (ap (λ (x : Float). eq x lo || eq x hi) (sym e) ∙ ap (λ (b : Bool). b || eq m hi) l ∙ h)) tt

        here : eq m lo || eq m hi ≡ false
        here = ap (λ (b : Bool). b || eq m hi) l ∙ h

        module _ (v : Float) (at-m : v ≡ f m) where
          pub at_zero : eq v zero_float ≡ true → middle m m ≡ bisected f p lo hi
          at_zero z = sym (stepped false true _ here (ap (λ (x : Float). eq x zero_float) (sym at-m) ∙ z) refl)

          module _ (z : eq v zero_float ≡ false) (g : Bool) (G : g ≡ not (negative v)) where
            on : (r : Bool) → beq g p ≡ r → bisected f p lo hi ≡ one_step false false r m (λ _. bisected f p m hi) (λ _. bisected f p lo m)
            on r R =
                stepped false false r here (ap (λ (x : Float). eq x zero_float) (sym at-m) ∙ z)
                (ap (λ (x : Float). beq (not (negative x)) p) (sym at-m) ∙ ap (λ (b : Bool). beq b p) (sym G) ∙ R)

            pub to_right : beq g p ≡ true → (width binary64 m hi < width binary64 lo hi) × Span 2 m hi × (bisected f p m hi ≡ bisected f p lo hi)
            to_right r = (
              subst (λ (x : Float). width binary64 x hi < width binary64 lo hi) (sym e) (narrower s off).0,
              subst (λ (x : Float). Span 2 x hi) (sym e) (right_half s),
              sym (on true r),
            )

            pub to_left : beq g p ≡ false → (width binary64 lo m < width binary64 lo hi) × Span 2 lo m × (bisected f p lo m ≡ bisected f p lo hi)
            to_left r = (
              subst (λ (x : Float). width binary64 lo x < width binary64 lo hi) (sym e) (narrower s off).1,
              subst (λ (x : Float). Span 2 lo x) (sym e) (left_half s),
              sym (on false r),
            )

-- ---- the result lies between the ends

abbrev pub Between : Float → Float → Float → Type 0
Between lo hi z = In lo hi z × T (fits binary64 z)

step_in : (P : Float → Type 0) (b z r : Bool) (m : Float) (a c : Unit {0} → Float) → P m → P (middle m m) → P (a tt) → P (c tt) → P (one_step b z r m a c)
step_in P true z r m a c p q u v = p
step_in P false true r m a c p q u v = q
step_in P false false true m a c p q u v = u
step_in P false false false m a c p q u v = v

wider : {lo hi lo' hi' z : Float} → Le lo lo' → Le hi' hi → Between lo' hi' z → Between lo hi z
wider l h b = (record { lower = Le-trans l b.0.lower; upper = Le-trans b.0.upper h }, b.1)

-- an interval of one point
point : {lo hi : Float} → Span 2 lo hi → Span 2 lo lo
point {lo} s = record {
  room = s.room;
  lo_fits = s.lo_fits;
  hi_fits = s.lo_fits;
  lo_within = s.lo_within;
  hi_within = s.lo_within;
  order = Le-refl lo s.lo_within.real;
}

module _ (f : Float → Float) (p : Bool) where
  bisect_steps_in : (n : ℕ) (lo hi : Float) → Span 2 lo hi → Between lo hi (bisect_steps f p n lo hi)
  unfolding bisect_steps
  bisect_steps_in zero lo hi s = (middle_in s, middle_fits lo hi)
  bisect_steps_in (suc n) lo hi s =
      let m = middle lo hi in
      let b = middle_in s in
      let r = right_half s in
      let o = point r in
      step_in (Between lo hi) (ends lo hi) (eq (f m) zero_float) (beq (not (negative (f m))) p) m (λ _. bisect_steps f p n m hi)
      (λ _. bisect_steps f p n lo m)
      (b, middle_fits lo hi)
      (wider b.lower b.upper (middle_in o, middle_fits m m))
      (wider b.lower (Le-refl hi s.hi_within.real) (bisect_steps_in n m hi r))
      (wider (Le-refl lo s.lo_within.real) b.upper (bisect_steps_in n lo m (left_half s)))

  pub bisected_in : (lo hi : Float) → Span 2 lo hi → Between lo hi (bisected f p lo hi)
  unfolding bisected
  bisected_in lo hi s = bisect_steps_in (2 ^ 1078) lo hi s
