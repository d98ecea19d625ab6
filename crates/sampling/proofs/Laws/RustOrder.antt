-- The order of pairs by the later curve (02, change 3) and the Rust's are permutations of each other. Cuts are sorted, so the cuts, their
-- number and the angles of every job are those of before.
use Prim.Native.Nat.{ℕ, zero, suc, ◌+◌, ◌≤◌}
use Rattle.std.proofs.Common.{arith, subst, ◌∙◌, take_all}
use Rattle.std.specs.Prelude.{None, Some, ◌≡◌, take, Float}
use Rattle.std.proofs.Math.Path.{refl, sym, ap}
use mathlib.Core.List.{List, [], ◌∷◌, ◌++◌, map, flat_map, append_assoc, map-append, map-map, Permᴰ}
use Rattle.std.proofs.Math.ListN.{length, length-append}
use Rattle.std.proofs.lemmas.List.{length-map}
use Rattle.std.proofs.Math.Seq.{take-suc, get_or-append_seam, get_or-append-add}
use Rattle.float.specs.Number.{middle}
use Rattle.polynomial.specs.Cuts.{cuts}
use Rattle.polynomial.specs.Laws.Cuts.{cuts_perm, cuts_cons}
use Rattle.polynomial.specs.declared.curve.Curve.{Curve}
use Rattle.sampling.specs.CriticalSlices.{Chart, Polynomials, polynomials, all_polynomials, tangency, intersection, nowhere, at, asked, chart}
use Rattle.sampling.specs.CriticalSlices.{chart_roots, calls, critical}
use Rattle.sampling.specs.J1j2free.{folded, curves, critical_slices, half_cuts, first_half, second_half, on_interval, all_slices}
use Rattle.sampling.specs.Angles.{angles, cut_count}
use Rattle.sampling.proofs.Laws.J1j2free.{critical_fit}
use Rattle.sampling.proofs.Laws.CriticalSlices.{asked_own, asked_pair}
use Rattle.sampling.specs.declared.j1j2free.Folded.{Folded}
use Rattle.sampling.specs.declared.job.Job.{Job}
use Rattle.sampling.specs.Pairs as Pairs
use Rattle.sampling.specs.J1j2free as J1j2free
use Rattle.sampling.specs.RustOrder as Rust
use Rattle.sampling.specs.Intervals.{Range}

-- ---- permutations

module _ {A : Type 0} where
  same_perm : {a b : List A} → a ≡ b → Permᴰ a b
  same_perm {a} {b} e = subst (Permᴰ a) e (mathlib.Core.List.Permᴰ.refl a)

  -- p moves behind y and o
  moved : (x p y o w : List A) → Permᴰ ((x ++ p) ++ (y ++ (o ++ w))) ((x ++ y) ++ (o ++ (p ++ w)))
  moved x p y o w =
      let start : (x ++ p) ++ (y ++ (o ++ w)) ≡ x ++ ((p ++ (y ++ o)) ++ w) = simp append_assoc in
      let end : x ++ (((y ++ o) ++ p) ++ w) ≡ (x ++ y) ++ (o ++ (p ++ w)) = simp append_assoc in
      mathlib.Core.List.Permᴰ.trans (same_perm start)
      (mathlib.Core.List.Permᴰ.trans
      (mathlib.Core.List.Permᴰ.append_left x (mathlib.Core.List.Permᴰ.append_right w (mathlib.Core.List.Permᴰ.append_comm p (y ++ o))))
      (same_perm end))

flat_perm : {A B : Type 0} (f : A → List B) {a b : List A} → Permᴰ a b → Permᴰ (flat_map f a) (flat_map f b)
unfolding flat_map
flat_perm f mathlib.Core.List.Permᴰ.nil = mathlib.Core.List.Permᴰ.nil
flat_perm f (mathlib.Core.List.Permᴰ.cons {a} {b} {l₂ = m} e d) =
    mathlib.Core.List.Permᴰ.trans (mathlib.Core.List.Permᴰ.append_left (f a) (flat_perm f d)) (same_perm (λ i. f (e i) ++ flat_map f m))
flat_perm f (mathlib.Core.List.Permᴰ.swap {a} {b} {l = l} e₁ e₂) =
    let x : (f a ++ (f b ++ flat_map f l)) ≡ (f a ++ f b) ++ flat_map f l = sym (append_assoc (f a) (f b) (flat_map f l)) in
    let y : (f b ++ f a) ++ flat_map f l ≡ f b ++ (f a ++ flat_map f l) = append_assoc (f b) (f a) (flat_map f l) in
    mathlib.Core.List.Permᴰ.trans (same_perm x)
    (mathlib.Core.List.Permᴰ.trans (mathlib.Core.List.Permᴰ.append_right (flat_map f l) (mathlib.Core.List.Permᴰ.append_comm (f a) (f b)))
    (same_perm (y ∙ (λ i. f (e₂ i) ++ (f (e₁ i) ++ flat_map f l)))))
flat_perm f (mathlib.Core.List.Permᴰ.trans d₁ d₂) = mathlib.Core.List.Permᴰ.trans (flat_perm f d₁) (flat_perm f d₂)

-- ---- the two orders

-- (i, j), (i + 1, j), ..: m pairs
abbrev column : ℕ → ℕ → ℕ → List (ℕ × ℕ)
column i zero j = []
column i (suc m) j = (i, j) ∷ column (suc i) m j

column_more : (i m j : ℕ) → column i (suc m) j ≡ column i m j ++ ((i + m, j) ∷ [])
column_more i zero j = let e : i ≡ i + 0 = omega arith in ap (λ (k : ℕ). (k, j) ∷ []) e
column_more i (suc m) j =
    let e : suc i + m ≡ i + suc m = omega arith in
    ap (λ (l : List (ℕ × ℕ)). (i, j) ∷ l) (column_more (suc i) m j ∙ ap (λ (k : ℕ). column (suc i) m j ++ ((k, j) ∷ [])) e)

earlier_is : (i j : ℕ) → column 0 i j ≡ Pairs.earlier i j
unfolding Pairs.earlier
earlier_is zero j = refl
earlier_is (suc i) j =
    let e : 0 + i ≡ i = omega arith in
    column_more 0 i j ∙ (λ k. earlier_is i j k ++ ((e k, j) ∷ []))

-- a curve more at the end: in the Rust's order its pairs go to many places
from_more : (i m : ℕ) → Permᴰ (Rust.from i (suc m)) (Rust.from i m ++ ((i + m, i + m) ∷ column i m (i + m)))
unfolding Rust.from Rust.later
from_more i zero = let e : i ≡ i + 0 = omega arith in same_perm (ap (λ (k : ℕ). (k, k) ∷ []) e)
from_more i (suc m) =
    let j = i + suc m in
    let e : suc i + m ≡ j = omega arith in
    let x : List (ℕ × ℕ) = (i, i) ∷ Rust.later i m in
    let p : List (ℕ × ℕ) = (i, j) ∷ [] in
    let y = Rust.from (suc i) m in
    let new : Permᴰ (Rust.from (suc i) (suc m)) (y ++ ((j, j) ∷ column (suc i) m j)) =
    mathlib.Core.List.Permᴰ.trans (from_more (suc i) m) (same_perm (ap (λ (k : ℕ). y ++ ((k, k) ∷ column (suc i) m k)) e)) in
    mathlib.Core.List.Permᴰ.trans (mathlib.Core.List.Permᴰ.append_left (x ++ p) new) (moved x p y ((j, j) ∷ []) (column (suc i) m j))

-- The two orders have the same pairs, each as often.
pub order_perm : (n : ℕ) → Permᴰ (Rust.order n) (Pairs.order n)
unfolding Rust.order Rust.from Pairs.order
order_perm zero = mathlib.Core.List.Permᴰ.nil
order_perm (suc n) =
    let e : 0 + n ≡ n = omega arith in
    let new : ((0 + n, 0 + n) ∷ column 0 n (0 + n)) ≡ ((n, n) ∷ Pairs.earlier n n) =
    ap (λ (k : ℕ). (k, k) ∷ column 0 n k) e ∙ ap (λ (l : List (ℕ × ℕ)). (n, n) ∷ l) (earlier_is n n) in
    mathlib.Core.List.Permᴰ.trans (from_more 0 n)
    (mathlib.Core.List.Permᴰ.trans (mathlib.Core.List.Permᴰ.append_right ((0 + n, 0 + n) ∷ column 0 n (0 + n)) (order_perm n))
    (same_perm (ap (λ (l : List (ℕ × ℕ)). Pairs.order n ++ l) new)))

-- ---- the definition of before, by its places

-- behind the curves a
module _ (origin : Float) where
  abbrev of : List Curve → List Polynomials
  of l = all_polynomials origin l

  later_asked : (a : List Polynomials) (k : Polynomials) (ks : List Polynomials) (m : ℕ) → m ≤ length ks
      → map (asked (a ++ (k ∷ ks))) (Rust.later (length a) m) ≡ map (λ (l : Polynomials). intersection k l) (take m ks)
  unfolding Rust.later
  later_asked a k ks zero h = refl
  later_asked a k ks (suc m) h =
      let all = a ++ (k ∷ ks) in
      let i = length a in
      let one : asked all (i, i + suc m) ≡ intersection k (at ks m) =
      asked_pair all i (i + suc m) (omega arith) ∙ rw (get_or-append_seam a k ks nowhere, get_or-append-add a (k ∷ ks) (suc m) nowhere) in
      let front = map-append (asked all) (Rust.later i m) ((i, i + suc m) ∷ []) in
      let back = map-append (λ (l : Polynomials). intersection k l) (take m ks) (at ks m ∷ []) in
      front ∙ rw (later_asked a k ks m (omega arith), one, take-suc ks m nowhere h) (sym back)

  calls_from : (a : List Polynomials) (l : List Curve) → Rust.calls origin l ≡ map (asked (a ++ of l)) (Rust.from (length a) (length l))
  unfolding Rust.calls Rust.from
  calls_from a [] = refl
  calls_from a (q ∷ l) =
      let k = polynomials q origin in
      let all = a ++ (k ∷ of l) in
      let i = length a in
      let m = length l in
      let size : m ≡ length (of l) = sym (length-map l (λ (d : Curve). polynomials d origin)) in
      let own : asked all (i, i) ≡ tangency k = asked_own all i ∙ ap tangency (get_or-append_seam a k (of l) nowhere) in
      let pairs : map (asked all) (Rust.later i m) ≡ map (λ (d : Curve). intersection k (polynomials d origin)) l =
      later_asked a k (of l) m (omega (arith, size)) ∙ ap (map (λ (e : Polynomials). intersection k e)) (take_all m (of l) (omega (arith, size)))
      ∙ map-map (λ (e : Polynomials). intersection k e) (λ (d : Curve). polynomials d origin) l in
      let next : length (a ++ (k ∷ [])) ≡ suc i = omega (arith, length-append a (k ∷ [])) in
      let rest : map (asked all) (Rust.from (suc i) m) ≡ Rust.calls origin l =
      sym (calls_from (a ++ (k ∷ [])) l ∙ (λ s. map (asked (append_assoc a (k ∷ []) (of l) s)) (Rust.from (next s) m))) in
      let split = map-append (asked all) (Rust.later i m) (Rust.from (suc i) m) in
      sym (λ s. own s ∷ (split ∙ (λ r. pairs r ++ rest r)) s)

  -- what was asked before, by the places of the Rust's order
  pub calls_are : (l : List Curve) → Rust.calls origin l ≡ map (asked (of l)) (Rust.order (length (of l)))
  unfolding Rust.order
  calls_are l = calls_from [] l ∙ ap (λ (n : ℕ). map (asked (of l)) (Rust.from 0 n)) (sym (length-map l (λ (d : Curve). polynomials d origin)))

  -- The root finder is asked about the same polynomials, each as often.
  pub calls_perm : (l : List Curve) → Permᴰ (Rust.calls origin l) (calls (of l))
  unfolding calls
  calls_perm l = rw (calls_are l) (mathlib.Core.List.Permᴰ.map (asked (of l)) (order_perm (length (of l))))

-- ---- what the calls give

module _ (c : Chart) where
  -- The curves give the same angles, each as often.
  pub critical_perm : (l : List Curve) → Permᴰ (Rust.critical c l) (critical c l)
  unfolding Rust.critical critical
  critical_perm l = flat_perm (chart_roots c) (calls_perm c.origin l)

pub critical_slices_same : (l : List Curve) (lower upper : Float) → Rust.critical_slices l lower upper ≡ critical_slices l lower upper
unfolding Rust.critical_slices critical_slices
critical_slices_same l lower upper =
    let c = chart lower upper in
    let a = Rust.critical c l in
    let b = critical c l in
    let e : cuts a ≡ cuts b = sym (cuts_perm (mathlib.Core.List.Permᴰ.symm (critical_perm c l)) (critical_fit c l)) in
    rw (cuts_cons lower (upper ∷ a), cuts_cons upper a, e, ← cuts_cons upper b) (sym (cuts_cons lower (upper ∷ b)))

-- ---- two free joints

module _ (t : Folded) where
  pub half_cuts_same : (lower upper : Float) → Rust.half_cuts t lower upper ≡ half_cuts t lower upper
  unfolding Rust.half_cuts half_cuts
  half_cuts_same lower upper = rw (critical_slices_same (curves t) lower upper)

  first_same : (lower upper : Float) → Rust.first_half t lower upper ≡ first_half t lower upper
  unfolding Rust.first_half first_half
  first_same lower upper = half_cuts_same lower (middle lower upper)

  second_same : (lower upper : Float) → Rust.second_half t lower upper ≡ second_half t lower upper
  unfolding Rust.second_half second_half
  second_same lower upper = half_cuts_same (middle lower upper) upper

  -- what goes by the interval's ends
  on_same : {A : Type 0} (none : A) (f g : Float → Float → A) → ((lower upper : Float) → f lower upper ≡ g lower upper)
      → on_interval t.range1 none f ≡ on_interval t.range1 none g
  on_same none f g e = go t.range1
    where
      go : (r : Range) → on_interval r none f ≡ on_interval r none g
      go None = refl
      go (Some (lower, upper)) = e lower upper

  pub slices_count_same : Rust.slices_count t ≡ J1j2free.cut_count t
  unfolding Rust.slices_count J1j2free.cut_count
  slices_count_same = on_same 0 _ _ (λ lower upper. rw (first_same lower upper, second_same lower upper))

  pub all_slices_same : Rust.all_slices t ≡ all_slices t
  unfolding Rust.all_slices all_slices
  all_slices_same = on_same [] _ _ (λ lower upper. rw (first_same lower upper, second_same lower upper))

-- ---- every job

-- The angles and the number of cuts are those of before.
module _ (job : Job) where
  pub angles_same : Rust.angles job ≡ angles job
  unfolding Rust.angles angles
  angles_same = rw (all_slices_same (folded job))

  pub cut_count_same : Rust.cut_count job ≡ cut_count job
  unfolding Rust.cut_count cut_count
  cut_count_same = rw (slices_count_same (folded job))
