-- How roots arose: the marked list has the values of `roots`, so that nothing that goes by these is altered (02, change 1);
-- and the kinds by the way through `roots-at`.
use Rattle.std.specs.Prelude.{ℕ, zero, suc, ◌-◌, ◌≤◌, ◌<◌, ◌≡◌, refl, Bool, true, false, cond, List, [], ◌∷◌, map, length, Float}
use Rattle.std.proofs.Common.{le_of_suc-le-suc, not-suc-le-zero, arith, ap₂, sym, ◌∙◌}
use Rattle.std.proofs.Math.Path.{ap}
use Rattle.std.proofs.lemmas.List.{length-map}
use Rattle.polynomial.specs.Polynomial.{trim, derivative}
use Rattle.polynomial.specs.Roots.{partitions, touches, roots_at, roots}
use Rattle.polynomial.specs.Kinds.{value, kind, among, marked, near_points, marked_roots, kinds}
use Rattle.polynomial.specs.Promises.Inside.{kinds_of}
use Rattle.polynomial.specs.Laws.Degree.{derivative_length, roots_enough}
use Rattle.polynomial.specs.declared.compensated.Compensated.{Compensated}
use Rattle.polynomial.specs.declared.kinds.Root.TheVariants.{Touch, Crossing}

value_marked : (near : List Float) (x : Float) → value (marked near x) ≡ x
value_marked near x = go (among x near)
  where
    go : (b : Bool) → value (cond b (Touch x) (Crossing x)) ≡ x
    go true = refl
    go false = refl

all_values : (near l : List Float) → map value (map (marked near) l) ≡ l
all_values near [] = refl
all_values near (x ∷ l) = ap₂ (λ (y : Float) (t : List Float). y ∷ t) (value_marked near x) (all_values near l)

-- THEOREM: The values of the marked roots are the roots.
pub values : (p : List Compensated) (lower upper : Float) → map value (marked_roots p lower upper) ≡ roots p lower upper
unfolding marked_roots
values p lower upper = all_values (near_points (length (trim p)) (trim p) lower upper) (roots p lower upper)

-- as many kinds as roots
pub kinds_length : (p : List Compensated) (lower upper : Float) → length (kinds p lower upper) ≡ length (roots p lower upper)
unfolding marked_roots
kinds_length p lower upper =
    let near = near_points (length (trim p)) (trim p) lower upper in
    length-map (map (marked near) (roots p lower upper)) kind ∙ length-map (roots p lower upper) (marked near)

-- ---- each way through `roots-at`, for l roots: q is the trimmed polynomial of m coefficients

near_two : (p : List Compensated) (lower upper : Float) → near_points 2 p lower upper ≡ []
unfolding near_points
near_two p lower upper = refl

near_more : (m : ℕ) (p : List Compensated) (lower upper : Float) → 2 < m
    → near_points m p lower upper ≡ touches p (partitions lower upper (roots (derivative p) lower upper))
unfolding near_points
near_more zero p lower upper h = absurd (not-suc-le-zero h)
near_more (suc zero) p lower upper h = absurd (not-suc-le-zero (le_of_suc-le-suc h))
near_more (suc (suc zero)) p lower upper h = absurd (not-suc-le-zero (le_of_suc-le-suc (le_of_suc-le-suc h)))
near_more (suc (suc (suc m))) p lower upper h = refl

module _ (n : ℕ) (p : List Compensated) (lower upper : Float) (h : length p ≤ n) (l : List Float) (r : roots_at n p lower upper ≡ l) where
  by_near : kinds p lower upper ≡ kinds_of (near_points (length (trim p)) (trim p) lower upper) l
  unfolding marked_roots
  by_near = ap (kinds_of (near_points (length (trim p)) (trim p) lower upper)) (sym (roots_enough lower upper n p h) ∙ r)

  module _ (m : ℕ) (q : List Compensated) (e : q ≡ trim p) (g : length q ≡ m) where
    by_count : kinds p lower upper ≡ kinds_of (near_points m q lower upper) l
    by_count = by_near
        ∙ ap (λ (s : List Compensated). kinds_of (near_points (length s) s lower upper) l) (sym e)
        ∙ ap (λ (j : ℕ). kinds_of (near_points j q lower upper) l) g

    -- the quotient
    pub kinds_two : m ≡ 2 → kinds p lower upper ≡ kinds_of [] l
    kinds_two s = by_count
        ∙ ap (λ (j : ℕ). kinds_of (near_points j q lower upper) l) s
        ∙ ap (λ (t : List Float). kinds_of t l) (near_two q lower upper)

    -- by partition points
    pub kinds_more : 2 < m → kinds p lower upper ≡ kinds_of (touches q (partitions lower upper (roots_at (m - 1) (derivative q) lower upper))) l
    kinds_more s =
        let d = derivative_length q in
        by_count
        ∙ ap (λ (t : List Float). kinds_of t l)
        (near_more m q lower upper s
        ∙ ap (λ (t : List Float). touches q (partitions lower upper t)) (sym (roots_enough lower upper (m - 1) (derivative q) (omega arith))))

-- no root
pub kinds_none : (n : ℕ) (p : List Compensated) (lower upper : Float) → length p ≤ n → roots_at n p lower upper ≡ [] → kinds p lower upper ≡ []
kinds_none n p lower upper h e = by_near n p lower upper h [] e
