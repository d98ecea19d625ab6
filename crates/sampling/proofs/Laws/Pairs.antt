-- The order of pairs: each (i, j) with i ≤ j < n stands in it once, nothing else does, and a curve more only adds at its end.
use Prim.Native.Nat.{ℕ, zero, suc, ◌+◌, ◌≤◌, ◌<◌}
use native.Mathlib.Omega.{arith}
use Rattle.std.proofs.Math.Decide.{ℕ_discrete, dec_lt}
use Rattle.std.specs.Prelude.{◌≡◌, Bool, true, false, cond, ◌&&◌, leb, length, take, drop}
use Rattle.std.proofs.Math.Path.{refl, ap}
use Rattle.std.proofs.Common.{sym, ◌∙◌}
use mathlib.Core.List.{List, [], ◌∷◌, ◌++◌, append-nil, append_assoc}
use Rattle.std.proofs.Math.Dec.{eqb, ltb}
use Rattle.std.proofs.Math.Seq.{take-append_seam, drop-append_seam}
use borrow.Author.Tests.{lt-ltb, le-ltb, le-leb, lt-leb, eq-eqb, ne_eqb}
use Rattle.polynomial.specs.Promises.Lists.{All}
use Rattle.polynomial.specs.Laws.Lists.{all_append}
use Rattle.sampling.specs.Pairs.{earlier, order}

-- The order of n + 1 curves is that of n with the new curve's pairs behind it.
pub order_more : (n : ℕ) → order (suc n) ≡ order n ++ ((n, n) ∷ earlier n n)
unfolding order
order_more n = refl

-- ---- nothing but places of the list, in order

abbrev pub Placed : ℕ → ℕ × ℕ → Type 0
Placed n p = (p.0 ≤ p.1) × (p.1 < n)

earlier_placed : (i j n : ℕ) → i ≤ j → j < n → All (Placed n) (earlier i j)
unfolding earlier
earlier_placed zero j n h k = tt
earlier_placed (suc i) j n h k = all_append (Placed n) (earlier i j) ((i, j) ∷ []) (earlier_placed i j n (omega arith) k) ((omega arith, k), tt)

order_placed_below : (n m : ℕ) → n ≤ m → All (Placed m) (order n)
unfolding order
order_placed_below zero m h = tt
order_placed_below (suc n) m h =
    all_append (Placed m) (order n) ((n, n) ∷ earlier n n) (order_placed_below n m (omega arith)) ((omega arith, h), earlier_placed n n m (omega arith) h)

pub order_placed : (n : ℕ) → All (Placed n) (order n)
order_placed n = order_placed_below n n (omega arith)

-- ---- more curves at the list's end

module _ (n : ℕ) where
  -- what m curves behind n add
  abbrev pub added : ℕ → List (ℕ × ℕ)
  added zero = []
  added (suc m) = added m ++ ((n + m, n + m) ∷ earlier (n + m) (n + m))

  pub order_added : (m : ℕ) → order (n + m) ≡ order n ++ added m
  order_added zero =
      let e : n + 0 ≡ n = omega arith in
      ap order e ∙ sym (append-nil (order n))
  order_added (suc m) =
      let e : n + suc m ≡ suc (n + m) = omega arith in
      let new : List (ℕ × ℕ) = (n + m, n + m) ∷ earlier (n + m) (n + m) in
      ap order e ∙ order_more (n + m) ∙ ap (λ (l : List (ℕ × ℕ)). l ++ new) (order_added m) ∙ append_assoc (order n) (added m) new

  -- All that was in the order stands in front, as it was.
  pub order_front : (m : ℕ) → take (length (order n)) (order (n + m)) ≡ order n
  order_front m = rw (order_added m) (take-append_seam (order n) (added m))

  -- its later curve is a new one
  abbrev pub New : ℕ × ℕ → Type 0
  New p = n ≤ p.1

  earlier_new : (i j : ℕ) → n ≤ j → All New (earlier i j)
  unfolding earlier
  earlier_new zero j h = tt
  earlier_new (suc i) j h = all_append New (earlier i j) ((i, j) ∷ []) (earlier_new i j h) (h, tt)

  added_new : (m : ℕ) → All New (added m)
  added_new zero = tt
  added_new (suc m) =
      let h : n ≤ n + m = omega arith in
      all_append New (added m) ((n + m, n + m) ∷ earlier (n + m) (n + m)) (added_new m) (h, earlier_new (n + m) (n + m) h)

  -- Behind it the later curve of each pair is one of the new ones.
  pub order_behind : (m : ℕ) → All New (drop (length (order n)) (order (n + m)))
  order_behind m = rw (order_added m, drop-append_seam (order n) (added m)) (added_new m)

-- ---- how often

abbrev pub once : Bool → ℕ
once b = cond b 1 0

-- how often (i, j) stands in a list
unfoldable pub times : ℕ → ℕ → List (ℕ × ℕ) → ℕ
times i j [] = 0
times i j (p ∷ l) = once (eqb i p.0 && eqb j p.1) + times i j l

off : (b : Bool) → once (b && false) ≡ 0
off true = refl
off false = refl

module _ (i j : ℕ) where
  times_append : (l m : List (ℕ × ℕ)) → times i j (l ++ m) ≡ times i j l + times i j m
  unfolding times
  times_append [] m = omega arith
  times_append (p ∷ l) m = let h = times_append l m in omega arith

  earlier_more : (k n : ℕ) → times i j (earlier (suc k) n) ≡ times i j (earlier k n) + once (eqb i k && eqb j n)
  unfolding times earlier
  earlier_more k n = let h = times_append (earlier k n) ((k, n) ∷ []) in omega arith

  -- with another later curve
  earlier_other : (k n : ℕ) → (j ≡ n → ⊥) → times i j (earlier k n) ≡ 0
  unfolding times earlier
  earlier_other zero n h = refl
  earlier_other (suc k) n h =
      let e : once (eqb i k && eqb j n) ≡ 0 = ap (λ (b : Bool). once (eqb i k && b)) (ne_eqb j n h) ∙ off (eqb i k) in
      omega (arith, earlier_more k n, earlier_other k n h)

  -- before curve i
  earlier_below : (k n : ℕ) → k ≤ i → times i j (earlier k n) ≡ 0
  unfolding times earlier
  earlier_below zero n h = refl
  earlier_below (suc k) n h =
      let e : once (eqb i k && eqb j n) ≡ 0 = ap (λ (b : Bool). once (b && eqb j n)) (ne_eqb i k (λ q. omega arith)) in
      omega (arith, earlier_more k n, earlier_below k n (omega arith))

  earlier_once : (k n : ℕ) → i < k → j ≡ n → times i j (earlier k n) ≡ 1
  earlier_once zero n h q = absurd (omega arith)
  earlier_once (suc k) n h q = go (ℕ_discrete i k) (λ g. earlier_once k n g q)
    where
      go : Dec (i ≡ k) → (i < k → times i j (earlier k n) ≡ 1) → times i j (earlier (suc k) n) ≡ 1
      go (yes p) ih =
          let e : once (eqb i k && eqb j n) ≡ 1 = rw (eq-eqb i k p, eq-eqb j n q) in
          omega (arith, earlier_more k n, e, earlier_below k n (omega arith))
      go (no p) ih =
          let e : once (eqb i k && eqb j n) ≡ 0 = rw (ne_eqb i k p) in
          omega (arith, earlier_more k n, ih (omega (arith, p)), e)

  times_more : (n : ℕ) → times i j (order (suc n)) ≡ times i j (order n) + (once (eqb i n && eqb j n) + times i j (earlier n n))
  unfolding times order
  times_more n = times_append (order n) ((n, n) ∷ earlier n n)

  -- the new curve's: (i, j) is among them once if j is the new curve and i one up to it
  abbrev new : ℕ → ℕ
  new n = once (eqb i n && eqb j n) + times i j (earlier n n)

  new_once : (n : ℕ) → i ≤ j → j ≡ n → new n ≡ 1
  new_once n h q = go (ℕ_discrete i n)
    where
      go : Dec (i ≡ n) → new n ≡ 1
      go (yes p) =
          let e : once (eqb i n && eqb j n) ≡ 1 = rw (eq-eqb i n p, eq-eqb j n q) in
          omega (arith, e, earlier_below n n (omega arith))
      go (no p) =
          let e : once (eqb i n && eqb j n) ≡ 0 = rw (ne_eqb i n p) in
          omega (arith, e, earlier_once n n (omega (arith, p)) q)

  new_turned : (n : ℕ) → j < i → j ≡ n → new n ≡ 0
  new_turned n h q =
      let e : once (eqb i n && eqb j n) ≡ 0 = rw (ne_eqb i n (λ p. omega arith)) in
      omega (arith, e, earlier_below n n (omega arith))

  new_other : (n : ℕ) → (j ≡ n → ⊥) → new n ≡ 0
  new_other n h =
      let e : once (eqb i n && eqb j n) ≡ 0 = rw (ne_eqb j n h) (off (eqb i n)) in
      omega (arith, e, earlier_other n n h)

  ltb_more : (n : ℕ) → (j ≡ n → ⊥) → ltb j (suc n) ≡ ltb j n
  ltb_more n h = go (dec_lt j n)
    where
      go : Dec (j < n) → ltb j (suc n) ≡ ltb j n
      go (yes k) = lt-ltb j (suc n) (omega arith) ∙ sym (lt-ltb j n k)
      go (no k) = le-ltb j (suc n) (omega (arith, h, k)) ∙ sym (le-ltb j n (omega (arith, k)))

  -- (i, j) stands in the order of n curves once if i ≤ j < n, and else not at all.
  pub stands : (n : ℕ) → times i j (order n) ≡ once (leb i j && ltb j n)
  unfolding times order
  stands zero = rw (le-ltb j 0 (omega arith)) (sym (off (leb i j)))
  stands (suc n) = times_more n ∙ go (ℕ_discrete j n) (dec_lt j i) (stands n)
    where
      go : Dec (j ≡ n) → Dec (j < i) → times i j (order n) ≡ once (leb i j && ltb j n) → times i j (order n) + new n ≡ once (leb i j && ltb j (suc n))
      go (yes q) (yes h) ih =
          let x : once (leb i j && ltb j n) ≡ 0 = rw (lt-leb i j h) in
          let y : once (leb i j && ltb j (suc n)) ≡ 0 = rw (lt-leb i j h) in
          omega (arith, ih, x, y, new_turned n h q)
      go (yes q) (no h) ih =
          let k : i ≤ j = omega (arith, h) in
          let x : once (leb i j && ltb j n) ≡ 0 = rw (le-ltb j n (omega arith)) (off (leb i j)) in
          let y : once (leb i j && ltb j (suc n)) ≡ 1 = rw (le-leb i j k, lt-ltb j (suc n) (omega arith)) in
          omega (arith, ih, x, y, new_once n k q)
      go (no q) d ih =
          let x : once (leb i j && ltb j n) ≡ once (leb i j && ltb j (suc n)) = rw (ltb_more n q) in
          omega (arith, ih, x, new_other n q)
