-- The blanked request byte by byte, and field by field: what the loops that write it and compare it need.
use Rattle.std.specs.Prelude.{Option}
use Prim.Native.Nat.{ℕ, zero, suc, ◌+◌, ◌-◌, ◌/◌, ◌%◌, ◌≤◌, ◌<◌}
use native.Mathlib.Omega.{arith}
use native.Mathlib.Nat.{add-zero}
use mathlib.Core.Path.{◌≡◌, refl, sym, ap, subst, ◌∙◌}
use mathlib.Core.List.{List, [], ◌∷◌, ◌++◌}
use mathlib.Core.Bool.{Bool, true, false, cond, false≢true}
use lib.Dec.{ltb}
use lib.ListN.{length, get_or, drop, set, drop_of_length-le}
use lib.Seq.{sets, drop-cons}
use borrow.Author.Tests.{ltb-true, ltb-false, lt-ltb, le-ltb}
use Rattle.sampling.specs.declared.reads.Shape.{Shape}
use Rattle.sheet.specs.Bytes.{bytes, part, same_bytes}
use Rattle.sheet.specs.Request.{name_at, byte_read, blank_from}
use Rattle.sheet.specs.Laws.Bytes.{bytes_suc, bytes_zero, length_bytes, length_part, same_step, same_stop, same_nil}
use Rattle.sheet.specs.Laws.Blank.{blank_cons, blank_nil}

-- a step stores the first byte of those that are left
pub put_step : (out r : List ℕ) (i v : ℕ) (s : Option Shape) → i < length r → v ≡ cond (byte_read s i) (get_or r i 0) 0
    → sets (set out i v) (i + 1) (blank_from s (i + 1) (drop (i + 1) r)) ≡ sets out i (blank_from s i (drop i r))
put_step out r i v s h q =
    let f : i + 1 ≡ suc i = omega arith in
    rw (q, drop-cons r i 0, blank_cons, f)

-- a byte that is kept, as it is read or zero, and one that is not
pub kept_read : (t : Bool) (b : ℕ) → t ≡ true → cond t b 0 ≡ b
kept_read true b e = refl
kept_read false b e = absurd (false≢true e)

pub kept_zero : (t : Bool) (b : ℕ) → b ≡ 0 → cond t b 0 ≡ b
kept_zero true b e = refl
kept_zero false b e = sym e

pub kept_not : (t : Bool) (b : ℕ) → t ≡ false → (b ≡ 0 → ⊥) → cond t b 0 ≡ b → ⊥
kept_not true b e n q = false≢true (sym e)
kept_not false b e n q = n (sym q)

module _ (s : Option Shape) (r : List ℕ) (i : ℕ) (l : i < length r) where
  copies : drop i r ≡ get_or r i 0 ∷ drop (i + 1) r
  copies =
      let f : i + 1 ≡ suc i = omega arith in
      rw f (drop-cons r i 0 l)

  -- a step whose byte is read or zero
  pub blank_step : cond (byte_read s i) (get_or r i 0) 0 ≡ get_or r i 0
      → same_bytes (blank_from s (i + 1) (drop (i + 1) r)) (drop (i + 1) r) ≡ same_bytes (blank_from s i (drop i r)) (drop i r)
  blank_step e =
      let f : i + 1 ≡ suc i = omega arith in
      rw (copies, blank_cons, f) (same_step _ _ _ _ e)

  -- a step whose byte is neither
  pub blank_stop : (cond (byte_read s i) (get_or r i 0) 0 ≡ get_or r i 0 → ⊥) → false ≡ same_bytes (blank_from s i (drop i r)) (drop i r)
  blank_stop e = rw (copies, blank_cons) (same_stop _ _ _ _ e)

-- no step is left
pub blank_end : (s : Option Shape) (r : List ℕ) (i : ℕ) → length r ≤ i → true ≡ same_bytes (blank_from s i (drop i r)) (drop i r)
blank_end s r i h = rw (drop_of_length-le r h, blank_nil) same_nil

-- what `unread_zero` goes by
pub ruleset comparing = (blank_step, blank_stop, blank_end, kept_read, kept_zero, kept_not)

-- ---- a field's bytes are read together

test : (i t : ℕ) → t % 8 ≡ 0 → 0 < (i + 1) % 8 → ltb (i + 1) t ≡ ltb i t
test i t e k = go (ltb i t) refl
  where
    go : (b : Bool) → ltb i t ≡ b → ltb (i + 1) t ≡ ltb i t
    go true q = lt-ltb (i + 1) t (omega (arith, ltb-true i t q)) ∙ sym q
    go false q = le-ltb (i + 1) t (omega (arith, ltb-false i t q)) ∙ sym q

joint : (i t : ℕ) → t % 8 ≡ 0 → 0 < (i + 1) % 8 → (i + 1 - t) / 8 ≡ (i - t) / 8
joint i t e k = omega arith

pub same_field : (s : Option Shape) (i : ℕ) → 16 ≤ i → 0 < (i + 1) % 8 → byte_read s i ≡ byte_read s (i + 1)
unfolding byte_read
same_field s i h k =
    rw (
      le-ltb i 4 (omega arith),
      le-ltb (i + 1) 4 (omega arith),
      le-ltb i 10 (omega arith),
      le-ltb (i + 1) 10 (omega arith),
      test i 48 refl k,
      test i 72 refl k,
      test i 120 refl k,
      test i 168 refl k,
      test i 216 refl k,
      test i name_at refl k,
      joint i 48 refl k,
      joint i 72 refl k,
      joint i 120 refl k,
      joint i 168 refl k,
      joint i 216 refl k,
    )

module _ (s : Option Shape) (r : List ℕ) where
  -- k bytes that are all read, or none of them
  run_read : (k i : ℕ) → i + k ≤ length r → ((j : ℕ) → j < k → byte_read s (i + j) ≡ true)
      → blank_from s i (drop i r) ≡ part i k r ++ blank_from s (i + k) (drop (i + k) r)
  run_read zero i h q = rw add-zero
  run_read (suc k) i h q =
      let e : i + suc k ≡ suc i + k = omega arith in
      let first : byte_read s i ≡ true = subst (λ (j : ℕ). byte_read s j ≡ true) (add-zero i) (q 0 (omega arith)) in
      let next : (j : ℕ) → j < k → byte_read s (suc i + j) ≡ true =
      λ j l. subst (λ (m : ℕ). byte_read s m ≡ true) (omega arith) (q (suc j) (omega arith)) in
      rw (e, drop-cons r i 0 (omega arith), blank_cons, first, run_read k (suc i) (omega arith) next)

  run_unread : (k i : ℕ) → i + k ≤ length r → ((j : ℕ) → j < k → byte_read s (i + j) ≡ false)
      → blank_from s i (drop i r) ≡ bytes k 0 ++ blank_from s (i + k) (drop (i + k) r)
  run_unread zero i h q = rw (add-zero, bytes_zero)
  run_unread (suc k) i h q =
      let e : i + suc k ≡ suc i + k = omega arith in
      let first : byte_read s i ≡ false = subst (λ (j : ℕ). byte_read s j ≡ false) (add-zero i) (q 0 (omega arith)) in
      let next : (j : ℕ) → j < k → byte_read s (suc i + j) ≡ false =
      λ j l. subst (λ (m : ℕ). byte_read s m ≡ false) (omega arith) (q (suc j) (omega arith)) in
      rw (e, drop-cons r i 0 (omega arith), blank_cons, first, bytes_suc, run_unread k (suc i) (omega arith) next)

  -- the bytes of a field
  module _ (i : ℕ) (from : 16 ≤ i) (whole : i % 8 ≡ 0) (room : i + 8 ≤ length r) where
    alike : (k : ℕ) → k < 8 → byte_read s (i + k) ≡ byte_read s i
    alike zero l = ap (byte_read s) (add-zero i)
    alike (suc k) l =
        let e : i + suc k ≡ i + k + 1 = omega arith in
        ap (byte_read s) e ∙ sym (same_field s (i + k) (omega arith) (omega arith)) ∙ alike k (omega arith)

    field : (b : Bool) → byte_read s i ≡ b → blank_from s i (drop i r) ≡ cond b (part i 8 r) (bytes 8 0) ++ blank_from s (i + 8) (drop (i + 8) r)
    field true e = run_read 8 i room (λ k l. alike k l ∙ e)
    field false e = run_unread 8 i room (λ k l. alike k l ∙ e)

    -- the first field of those that are left, of eight bytes
    pub field_left : (b : Bool) → byte_read s i ≡ b → (blank_from s i (drop i r) ≡ cond b (part i 8 r) (bytes 8 0) ++ blank_from s (i + 8) (drop (i + 8) r))
        × (length (cond b (part i 8 r) (bytes 8 0)) ≡ 8)
    field_left true e = (field true e, length_part i 8 r room)
    field_left false e = (field false e, length_bytes 8 0)

  -- from the name on each byte is kept
  pub name_kept : (l : List ℕ) (i : ℕ) → 264 ≤ i → blank_from s i l ≡ l
  unfolding blank_from byte_read
  name_kept [] i h = refl
  name_kept (b ∷ l) i h =
      rw (
        le-ltb i 4 (omega arith),
        le-ltb i 10 (omega arith),
        le-ltb i 48 (omega arith),
        le-ltb i 72 (omega arith),
        le-ltb i 120 (omega arith),
        le-ltb i 168 (omega arith),
        le-ltb i 216 (omega arith),
        le-ltb i name_at (omega arith),
        name_kept l (suc i) (omega arith),
      )
