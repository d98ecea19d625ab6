-- A step of the stream: it gives the first of what is to come, and one value fewer is left behind it.
use Prim.Native.Nat.{ℕ, zero, suc, ◌+◌, ◌-◌, ◌≤◌}
use Rattle.std.proofs.Common.{le_of_suc-le-suc, not-suc-le-zero, arith, sym, subst}
use Rattle.std.specs.Prelude.{Some, None, ◌≡◌, Bool, not, cond, ◌&&◌, T, length, drop}
use Rattle.std.proofs.Math.Path.{refl}
use Rattle.std.proofs.Math.Bool.{true, false}
use mathlib.Core.List.{List, [], ◌∷◌, ◌++◌}
use Rattle.std.proofs.Math.ListN.{get_or}
use Rattle.std.specs.Float.Ieee.{Float, nan, is_nan, eq, ne, fits}
use Rattle.std.specs.Float.{binary64}
use Rattle.std.proofs.lemmas.Bool.{not-true, not-false}
use Rattle.float.specs.Number.{total_le}
use Rattle.float.specs.Laws.Total.{total_le_total, total_le_trans, total_le_refl}
use Rattle.polynomial.specs.Cuts.{sort, rest}
use Rattle.sampling.specs.Promises.Stream.{Step, weave, pending, stream, distinct, Woven, Steps, yielded, least, advance, on_step, next_of, left, next}
use Rattle.sampling.proofs.Laws.Least.{head, no_head}
use Rattle.sampling.proofs.Laws.Heads.{Heads, number_index, first, second, third, done}
use Rattle.sampling.specs.declared.stream.Cursor.{Cursor}

holds : {b : Bool} → b ≡ true → T b
holds e = subst T (sym e) tt

-- ---- the least of three

module _ (s : List Float) (f : Cursor → List Float) where
  yielded_steps : (y : Float) (c : Cursor) → (T (is_nan y) → s ≡ []) → (T (not (is_nan y)) → s ≡ y ∷ f c) → Steps s f (yielded y c)
  yielded_steps y c none some = go (is_nan y) none some refl
    where
      go : (b : Bool) → (T b → s ≡ []) → (T (not b) → s ≡ y ∷ f c) → is_nan y ≡ b → Steps s f (cond b None (Some (y, c)))
      go true none some e = none tt
      go false none some e = (some tt, holds (subst (λ (b : Bool). not b ≡ true) (sym e) refl))

module _ (a b : List Float) (r : Float) (c : Cursor) (x y z : Float) (H : Heads a b r c.i c.j c.used x y z) where
  least_steps : Steps (stream a b r c) (stream a b r) (least x y z c)
  unfolding least stream
  least_steps = go (total_le x y) (total_le x z) (total_le y z) refl refl refl
    where
      here : List Float
      here = sort (drop c.i (weave a) ++ (drop c.j (weave b) ++ pending c.used r))

      then : Cursor → List Float
      then d = sort (drop d.i (weave a) ++ (drop d.j (weave b) ++ pending d.used r))

      at_x : T (total_le x y) → T (total_le x z) → Steps here then (yielded x (record { i = c.i + 1; j = c.j; used = c.used; last = c.last }))
      at_x p q = yielded_steps here then x _ (λ n. done H x n (total_le_refl x) p q) (λ n. first H n p q)

      at_y : T (total_le y x) → T (total_le y z) → Steps here then (yielded y (record { i = c.i; j = c.j + 1; used = c.used; last = c.last }))
      at_y p q = yielded_steps here then y _ (λ n. done H y n p (total_le_refl y) q) (λ n. second H n p q)

      at_z : T (total_le z x) → T (total_le z y) → Steps here then (yielded z (record { i = c.i; j = c.j; used = true; last = c.last }))
      at_z p q = yielded_steps here then z _ (λ n. done H z n p q (total_le_refl z)) (λ n. third H n p q)

      go : (p q s : Bool) → total_le x y ≡ p → total_le x z ≡ q → total_le y z ≡ s
          → Steps here then
          (cond (p && q) (yielded x (record { i = c.i + 1; j = c.j; used = c.used; last = c.last }))
          (cond s (yielded y (record { i = c.i; j = c.j + 1; used = c.used; last = c.last }))
          (yielded z (record { i = c.i; j = c.j; used = true; last = c.last }))))
      go true true s p q e = at_x (holds p) (holds q)
      go true false true p q e = at_y (total_le_trans y z x (holds e) (total_le_total x z q)) (holds e)
      go true false false p q e = at_z (total_le_total x z q) (total_le_total y z e)
      go false q true p o e = at_y (total_le_total x y p) (holds e)
      go false q false p o e = at_z (total_le_trans z y x (total_le_total y z e) (total_le_total x y p)) (total_le_total y z e)

pending_head : (u : Bool) (r : Float) → cond u nan r ≡ head (pending u r)
pending_head true r = refl
pending_head false r = refl

module _ (a b : List Float) (r : Float) (wa : Woven a) (wb : Woven b) (n : T (not (is_nan r))) (f : T (fits binary64 r)) where
  advance_steps : (c : Cursor) → Steps (stream a b r c) (stream a b r) (advance a b r c)
  unfolding advance
  advance_steps c =
      least_steps a b r c _ _ _
      (record { woven_a = wa; woven_b = wb; number_r = n; fit_r = f; at_x = refl; at_y = refl; at_z = pending_head c.used r })

-- ---- one value fewer

-- so many values were left before a step
abbrev pub Drops : ℕ → (Cursor → ℕ) → Step → Type 0
Drops n f None = Unit {0}
Drops n f (Some (y, c)) = n ≡ suc (f c)

yielded_drops : (n : ℕ) (f : Cursor → ℕ) (y : Float) (c : Cursor) → (T (not (is_nan y)) → n ≡ suc (f c)) → Drops n f (yielded y c)
yielded_drops n f y c h = go (is_nan y) h
  where
    go : (b : Bool) → (T (not b) → n ≡ suc (f c)) → Drops n f (cond b None (Some (y, c)))
    go true h = tt
    go false h = h tt

module _ (a b : List Float) (r : Float) (c : Cursor) where
  -- THEOREM: A step that gives a value leaves one fewer.
  pub advance_drops : Drops (left a b c) (left a b) (advance a b r c)
  unfolding advance least left
  advance_drops = go (total_le x y && total_le x z) (total_le y z)
    where
      x : Float
      x = get_or (weave a) c.i nan

      y : Float
      y = get_or (weave b) c.j nan

      z : Float
      z = cond c.used nan r

      n : ℕ
      n = (length (weave a) - c.i) + (length (weave b) - c.j) + cond c.used 0 1

      f : Cursor → ℕ
      f d = (length (weave a) - d.i) + (length (weave b) - d.j) + cond d.used 0 1

      last_left : (u : Bool) → T (not (is_nan (cond u nan r))) → ◌≡◌ {A = ℕ} (cond u 0 1) 1
      last_left true h = no_head _ h
      last_left false h = refl

      go : (p s : Bool)
          → Drops n f
          (cond p (yielded x (record { i = c.i + 1; j = c.j; used = c.used; last = c.last }))
          (cond s (yielded y (record { i = c.i; j = c.j + 1; used = c.used; last = c.last }))
          (yielded z (record { i = c.i; j = c.j; used = true; last = c.last }))))
      go true s = yielded_drops n f x _ (λ h. let k = number_index (weave a) c.i h in omega (arith, k))
      go false true = yielded_drops n f y _ (λ h. let k = number_index (weave b) c.j h in omega (arith, k))
      go false false = yielded_drops n f z _ (λ h. let k = last_left c.used h in omega (arith, k))

-- ---- without what equals the last value

-- the stream ended
rest_end : (p : Float) (s : List Float) → s ≡ [] → rest p s ≡ []
unfolding rest
rest_end p s e = rw e

-- y came, and equals the last one
rest_skip : (p y : Float) (s t : List Float) → s ≡ y ∷ t → ne y p ≡ false → rest p s ≡ rest p t
unfolding rest ne
rest_skip p y s t e n = rw (e, not-false (eq y p) n)

-- y came, and does not
rest_keep : (p y : Float) (s t : List Float) → s ≡ y ∷ t → ne y p ≡ true → rest p s ≡ y ∷ rest y t
unfolding rest ne
rest_keep p y s t e n = rw (e, not-true (eq y p) n)

module _ (a b : List Float) (r last : Float) (k : ℕ) (c d : Cursor) (y : Float) where
  -- what `next_of` does with a value
  keep_or_skip : (t : Bool) → ne y last ≡ t → (stream a b r c ≡ y ∷ stream a b r d) × T (not (is_nan y))
      → (ne y last ≡ false → Steps (rest last (stream a b r d)) (distinct a b r) (next_of k a b r last d))
      → Steps (rest last (stream a b r c)) (distinct a b r)
      (cond t (Some (y, record { i = d.i; j = d.j; used = d.used; last = y })) (next_of k a b r last d))
  unfolding distinct stream
  keep_or_skip true t e g = (rest_keep last y (stream a b r c) (stream a b r d) e.0 t, e.1)
  keep_or_skip false t e g = rw (rest_skip last y (stream a b r c) (stream a b r d) e.0 t) (g t)

module _ (a b : List Float) (r last : Float) (k : ℕ) (c : Cursor) where
  stepped : (s : Step) → Steps (stream a b r c) (stream a b r) s → Drops (left a b c) (left a b) s
      → ((d : Cursor) → left a b c ≡ suc (left a b d) → Steps (rest last (stream a b r d)) (distinct a b r) (next_of k a b r last d))
      → Steps (rest last (stream a b r c)) (distinct a b r)
      (on_step s (λ y d. cond (ne y last) (Some (y, record { i = d.i; j = d.j; used = d.used; last = y })) (next_of k a b r last d)))
  stepped None e g h = rest_end last (stream a b r c) e
  stepped (Some (y, d)) e g h = keep_or_skip a b r last k c d y (ne y last) refl e (λ t. h d g)

module _ (a b : List Float) (r : Float) (wa : Woven a) (wb : Woven b) (n : T (not (is_nan r))) (f : T (fits binary64 r)) where
  skips : (k : ℕ) (last : Float) (c : Cursor) → left a b c ≤ k → Steps (rest last (stream a b r c)) (distinct a b r) (next_of (suc k) a b r last c)
  unfolding next_of
  skips zero last c h =
      stepped a b r last 0 c (advance a b r c) (advance_steps a b r wa wb n f c) (advance_drops a b r c)
      (λ d g. absurd (not-suc-le-zero (subst (λ (m : ℕ). m ≤ 0) g h)))
  skips (suc k) last c h =
      stepped a b r last (suc k) c (advance a b r c) (advance_steps a b r wa wb n f c) (advance_drops a b r c)
      (λ d g. skips k last d (le_of_suc-le-suc (subst (λ (m : ℕ). m ≤ suc k) g h)))

  -- THEOREM: The next value is the first of what is to come.
  pub next_steps : (c : Cursor) → Steps (distinct a b r c) (distinct a b r) (next a b r c)
  unfolding next distinct
  next_steps c = skips (left a b c) c.last c (omega arith)
