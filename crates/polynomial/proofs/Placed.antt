-- What `insert` has to show at each of its ends, on plain lists: w is the room, its first n places hold the list, and at is where v belongs.
use Rattle.std.specs.Prelude.{Some, None}
use mathlib.Core.Path.{◌≡◌, refl, sym, ap, subst, ◌∙◌}
use mathlib.Core.Bool.{Bool, true, false, ◌||◌}
use mathlib.Core.List.{List, [], ◌∷◌, ◌++◌}
use Prim.Native.Nat.{ℕ, zero, suc, ◌+◌, ◌-◌, ◌≤◌, ◌<◌, suc-le-suc}
use native.Mathlib.Nat.{not-suc-le-zero, le_of_suc-le-suc, zero-lt-suc}
use native.Mathlib.Numerals.{add-one}
use native.Mathlib.Decide.{dec_lt}
use native.Mathlib.Omega.{arith}
use borrow.Author.Tests.{le-leb, lt-leb, not-true, not-false}
use lib.Dec.{T}
use lib.ListN.{length, get_or, set, take, drop, length-append, length-drop, length-set, take-append-drop, drop_of_length-le}
use lib.Seq.{paste, take-take, take-add, drop_at, drop-cons, set_split, set-append_left, get_or-take, length-take-le}
use lib.Ieee.{Float, nan, eq}
use lib.Ieee.Bits.{is_true}
use Rattle.float.specs.Number.{total_le}
use Rattle.polynomial.specs.Cuts.{put}
use Rattle.float.specs.Laws.Total.{eq_comm}
use Rattle.polynomial.specs.Promises.Insert.{passed, grown, put_answer, put_room, Found}

or_left : (a b : Bool) → a || b ≡ false → a ≡ false
or_left true b e = e
or_left false b e = refl

pub or_right : (a b : Bool) → a || b ≡ false → b ≡ false
or_right true b e = absurd (subst T e tt)
or_right false b e = e

-- v goes past the first j
put_past : (v : Float) (j : ℕ) (l : List Float) → j ≤ length l → ((k : ℕ) → k < j → passed v (get_or l k nan) ≡ true) → put v l ≡ take j l ++ put v (drop j l)
unfolding put passed
put_past v zero l h p = refl
put_past v (suc j) [] h p = absurd (not-suc-le-zero h)
put_past v (suc j) (y ∷ l) h p =
    let b : total_le v y || eq v y ≡ false = not-true (total_le v y || eq v y) (p zero (zero-lt-suc j)) in
    simp (or_left (total_le v y) (eq v y) b, or_right (total_le v y) (eq v y) b)
    (ap (λ (r : List Float). y ∷ r) (put_past v j l (le_of_suc-le-suc h) (λ k g. p (suc k) (suc-le-suc g))))

module _ (v y : Float) (l : List Float) where
  put_replace : T (eq y v) → T (total_le v y) → put v (y ∷ l) ≡ v ∷ l
  unfolding put
  put_replace e t = simp (is_true (total_le v y) t, is_true (eq y v) e)

  put_keep : T (eq y v) → total_le v y ≡ false → put v (y ∷ l) ≡ y ∷ l
  unfolding put
  put_keep e t = simp (t, eq_comm v y ∙ is_true (eq y v) e)

  put_here : passed v y ≡ false → eq y v ≡ false → put v (y ∷ l) ≡ v ∷ y ∷ l
  unfolding put passed
  put_here p e = simp (go (total_le v y) refl, e)
    where
      go : (b : Bool) → total_le v y ≡ b → total_le v y ≡ true
      go true b = b
      go false b =
          let n : total_le v y || eq v y ≡ false = simp (b, eq_comm v y ∙ e) in
          absurd (subst T (sym (not-false (total_le v y || eq v y) p) ∙ n) tt)

-- the part behind `at` of the first n
drop_take : (at j : ℕ) (w : List Float) → at ≤ length w → drop at (take (at + j) w) ≡ take j (drop at w)
drop_take at j w h = ap (drop at) (take-add at j w) ∙ drop_at (take at w) (take j (drop at w)) at (length-take-le at w h)

module _ (w : List Float) (n : ℕ) (v : Float) where
  -- the new list is G, and has room
  fits : (G : List Float) (m : ℕ) → grown w n v ≡ G → length G ≡ m → m ≤ length w → (Some m ≡ put_answer w n v) × (G ++ drop m w ≡ put_room w n v)
  fits G m g e h = (sym (simp (g, e, le-leb m (length w) h)), sym (simp (g, e, le-leb m (length w) h)))

  none : (G : List Float) → grown w n v ≡ G → length w < length G → (None ≡ put_answer w n v) × (w ≡ put_room w n v)
  none G g h = (sym (simp (g, lt-leb (length G) (length w) h)), sym (simp (g, lt-leb (length G) (length w) h)))

module _ (w : List Float) (n : ℕ) (v : Float) (at : ℕ) (le : n ≤ length w) (f : Found (take n w) v at) where
  abbrev y : Float
  y = get_or w at nan

  len : length (take n w) ≡ n
  len = length-take-le n w le

  within : at ≤ n
  within = let l = len in omega (arith, f.within)

  stops : at < n → passed v y ≡ false
  stops h = let l = len in ap (passed v) (sym (get_or-take n w at nan h)) ∙ f.stops (omega arith)

  split : grown w n v ≡ take at w ++ put v (drop at (take n w))
  split =
      let l = len in
      put_past v at (take n w) (omega (arith, f.within)) f.before
      ∙ ap (λ (r : List Float). r ++ put v (drop at (take n w))) (take-take at n w within)

  next : at < n → drop at (take n w) ≡ y ∷ drop (suc at) (take n w)
  next h =
      let l = len in
      drop-cons (take n w) at nan (omega arith) ∙ ap (λ (z : Float). z ∷ drop (suc at) (take n w)) (get_or-take n w at nan h)

  pub replaced : at < n → T (eq y v) → T (total_le v y) → (Some n ≡ put_answer w n v) × (set w at v ≡ put_room w n v)
  replaced h e t =
      let l = len in
      let G : grown w n v ≡ set (take n w) at v =
      split ∙ ap (λ (r : List Float). take at w ++ put v r) (next h) ∙ ap (λ (r : List Float). take at w ++ r) (put_replace v y (drop (suc at) (take n w)) e t)
      ∙ ap (λ (r : List Float). r ++ v ∷ drop (suc at) (take n w)) (sym (take-take at n w within))
      ∙ sym (set_split (take n w) at v (omega arith)) in
      let r = fits w n v (set (take n w) at v) n G (length-set (take n w) at v ∙ l) le in
      (r.0, ap (λ (z : List Float). set z at v) (sym (take-append-drop n w)) ∙ set-append_left (take n w) (drop n w) at v (omega arith) ∙ r.1)

  pub kept : at < n → T (eq y v) → total_le v y ≡ false → (Some n ≡ put_answer w n v) × (w ≡ put_room w n v)
  kept h e t =
      let l = len in
      let G : grown w n v ≡ take n w =
      split ∙ ap (λ (r : List Float). take at w ++ put v r) (next h)
      ∙ ap (λ (r : List Float). take at w ++ r) (put_keep v y (drop (suc at) (take n w)) e t ∙ sym (next h))
      ∙ ap (λ (r : List Float). r ++ drop at (take n w)) (sym (take-take at n w within))
      ∙ take-append-drop at (take n w) in
      let r = fits w n v (take n w) n G l le in
      (r.0, sym (take-append-drop n w) ∙ r.1)

  -- v is new
  alone : (at < n → eq y v ≡ false) → put v (drop at (take n w)) ≡ v ∷ drop at (take n w)
  alone e = elim (dec_lt at n) [
    | yes h ↦ rw (next h) (put_here v y (drop (suc at) (take n w)) (stops h) (e h))
    | no h ↦
        let l = len in
        let z : drop at (take n w) ≡ [] = drop_of_length-le (take n w) {i = at} (omega arith) in
        rw z (unfold put in refl)
  ]

  behind : drop at (take n w) ≡ take (n - at) (drop at w)
  behind =
      let i = within in
      let k : at + (n - at) ≡ n = omega arith in
      subst (λ (m : ℕ). drop at (take m w) ≡ take (n - at) (drop at w)) k (drop_take at (n - at) w (omega arith))

  abbrev G : List Float
  G = take at w ++ v ∷ take (n - at) (drop at w)

  new : (at < n → eq y v ≡ false) → grown w n v ≡ G
  new e = split ∙ ap (λ (r : List Float). take at w ++ r) (alone e ∙ ap (λ (r : List Float). v ∷ r) behind)

  new_length : length G ≡ n + 1
  new_length =
      let i = within in
      let a = length-append (take at w) (v ∷ take (n - at) (drop at w)) in
      let d = length-drop at w in
      let b : length (take at w) ≡ at = length-take-le at w (omega arith) in
      let c : length (take (n - at) (drop at w)) ≡ n - at = length-take-le (n - at) (drop at w) (omega arith) in
      omega arith

  pub full : (at < n → eq y v ≡ false) → n ≡ length w → (None ≡ put_answer w n v) × (w ≡ put_room w n v)
  full e h = none w n v G (new e) (omega (arith, new_length))

  pub inserted : (at < n → eq y v ≡ false) → n < length w → (Some (n + 1) ≡ put_answer w n v) × (paste w at (v ∷ drop at w) (n - at + 1) ≡ put_room w n v)
  inserted e h =
      let i = within in
      let k : at + (n - at + 1) ≡ n + 1 = omega arith in
      let r = fits w n v G (n + 1) (new e) new_length (omega arith) in
      (r.0, (λ j. take at w ++ take (add-one (n - at) j) (v ∷ drop at w) ++ drop (k j) w) ∙ r.1)
