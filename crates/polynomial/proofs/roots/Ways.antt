-- The ways through the roots of p, by the coefficients q that count.
use Prim.Native.Nat.{ℕ, ◌-◌, ◌^◌, ◌<◌, ◌≤◌}
use native.Mathlib.Omega.{arith}
use native.Mathlib.Nat.{le_refl, le_of_eq}
use mathlib.Core.Path.{◌≡◌, refl, sym, ap, ◌∙◌, subst}
use mathlib.Core.Bool.{Bool, true, false, cond}
use mathlib.Core.List.{List, [], ◌∷◌, ◌++◌}
use lib.ListN.{length, get_or}
use lib.Pow.{pow_mono}
use lib.Ieee.{Float}
use Rattle.polynomial.specs.Polynomial.{zero_pair, derivative, trim, all_finite}
use Rattle.polynomial.specs.Promises.Front.{Front}
use Rattle.polynomial.specs.Promises.Inside.{found, kinds_of, points_of, counting_of}
use Rattle.polynomial.specs.declared.compensated.Compensated.{Compensated}
use Rattle.polynomial.specs.Laws.Degree.{trim_short, derivative_length, counted, roots_enough, none_left, two_left, more_left}
use Rattle.polynomial.specs.Laws.Kinds.{kinds_none, kinds_two, kinds_more}
use Rattle.polynomial.specs.Kinds.{kinds}
use Rattle.polynomial.specs.Roots as Of

module _ (p q : List Compensated) (lower upper : Float) (e : q ≡ counting_of p) where
  abbrev n : ℕ
  n = length p

  abbrev t : List Compensated
  t = trim p

  at_n : Of.roots p lower upper ≡ Of.roots_at n p lower upper
  at_n = sym (roots_enough lower upper n p (le_refl n))

  pub no_longer : length q ≤ n
  no_longer = go (all_finite t) e
    where
      go : (b : Bool) → q ≡ cond b t [] → length q ≤ n
      go true f = let s = trim_short p in let l = ap length f in omega arith
      go false f = let l = ap length f in omega arith

  -- as much room as p needs is enough for q
  pub fits : (len : ℕ) → 2 ^ n ≤ len → 2 ^ length q ≤ len
  fits len h = let w : 2 ^ length q ≤ 2 ^ n = pow_mono no_longer in omega arith

  -- no coefficient counts, or one
  module _ (h : length q < 2) where
    few : counted t < 2
    few = go (all_finite t) refl
      where
        go : (b : Bool) → all_finite t ≡ b → cond b (length t) 0 < 2
        go true f = let l = ap length (e ∙ ap (λ (b : Bool). cond b t []) f) in omega arith
        go false f = omega arith

    none_at : Of.roots_at n p lower upper ≡ []
    none_at = none_left n (counted t) p t lower upper refl refl (le_refl n) few

    pub none : Of.roots p lower upper ≡ []
    none = at_n ∙ none_at

    pub none_front : (out : List Float) → Front (Of.roots p lower upper) out 0 out
    none_front out = (sym (ap length none), sym (ap (λ (l : List Float). l ++ out) none))

    pub no_kinds : kinds p lower upper ≡ []
    no_kinds = kinds_none n p lower upper (le_refl n) none_at

  -- two coefficients or more: all parts are finite
  module _ (h : 1 < length q) where
    counts : (q ≡ t) × (counted q ≡ length q)
    counts = go (all_finite t) refl
      where
        go : (b : Bool) → all_finite t ≡ b → (q ≡ t) × (counted q ≡ length q)
        go true f =
            let l : q ≡ t = e ∙ ap (λ (b : Bool). cond b t []) f in
            (l, ap (λ (b : Bool). cond b (length q) 0) (ap all_finite l ∙ f))
        go false f = absurd (let l = ap length (e ∙ ap (λ (b : Bool). cond b t []) f) in omega arith)

    module _ (two : length q ≡ 2) where
      line_at : Of.roots_at n p lower upper ≡ Of.quotient (get_or q 0 zero_pair) (get_or q 1 zero_pair) lower upper
      line_at = two_left n (length q) p q lower upper counts.0 counts.1 (le_refl n) two

      pub line : Of.roots p lower upper ≡ Of.quotient (get_or q 0 zero_pair) (get_or q 1 zero_pair) lower upper
      line = at_n ∙ line_at

      pub line_front : (d : Compensated) (out last : List Float) (r : ℕ) → Front (Of.quotient (get_or q 0 d) (get_or q 1 d) lower upper) out r last
          → Front (Of.roots p lower upper) out r last
      line_front d out last r = subst (λ (l : List Float). Front l out r last) (same q two ∙ sym line)
        where
          same : (q : List Compensated) → length q ≡ 2
              → Of.quotient (get_or q 0 d) (get_or q 1 d) lower upper ≡ Of.quotient (get_or q 0 zero_pair) (get_or q 1 zero_pair) lower upper
          same [] h = absurd (omega arith)
          same (a ∷ []) h = absurd (omega arith)
          same (a ∷ (b ∷ l)) h = refl

      pub line_kinds : kinds p lower upper ≡ kinds_of [] (Of.roots p lower upper)
      line_kinds = kinds_two n p lower upper (le_refl n) (Of.roots p lower upper) (sym at_n) (length q) q counts.0 refl two

    module _ (three : 2 < length q) where
      inner : Of.roots_at (length q - 1) (derivative q) lower upper ≡ Of.roots (derivative q) lower upper
      inner = roots_enough lower upper (length q - 1) (derivative q) (le_of_eq (derivative_length q))

      pub more : Of.roots p lower upper ≡ found q (points_of q lower upper)
      more =
          at_n ∙ more_left n (length q) p q lower upper counts.0 counts.1 (le_refl n) refl three
          ∙ ap (λ (l : List Float). found q (Of.partitions lower upper l)) inner

      pub more_front : (out last : List Float) (r : ℕ) → Front (found q (points_of q lower upper)) out r last → Front (Of.roots p lower upper) out r last
      more_front out last r = subst (λ (l : List Float). Front l out r last) (sym more)

      pub more_kinds : kinds p lower upper ≡ kinds_of (Of.touches q (points_of q lower upper)) (found q (points_of q lower upper))
      more_kinds =
          kinds_more n p lower upper (le_refl n) _ (sym at_n ∙ more) (length q) q counts.0 refl three
          ∙ ap (λ (l : List Float). kinds_of (Of.touches q (Of.partitions lower upper l)) (found q (points_of q lower upper))) inner
