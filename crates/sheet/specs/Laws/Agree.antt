-- Two requests that agree in all that is read, or in all that is read before the name: what follows for their fields, that byte by byte and field by field
-- say the same, and that they agree exactly where their blanked requests are equal.
use Rattle.std.specs.Prelude.{ℕ, ◌+◌, ◌-◌, ◌/◌, ◌≤◌, ◌<◌, ◌↔◌, ◌≡◌, refl, List, Bool, true, false, cond, length, get_or, drop, T}
use Rattle.std.proofs.Common.{arith, sym, ap, subst, ◌∙◌, length-take, length-drop, ext_get_or, get_or-take, get_or-drop}
use Rattle.std.proofs.Math.Decide.{dec_lt}
use Rattle.std.proofs.Math.Path.{subst⁻¹}
use Rattle.std.proofs.Math.ListN.{get_or-eq_default}
use Rattle.std.specs.Float.Ieee.{of_bits}
use Rattle.std.specs.Float.{binary64}
use Rattle.std.specs.Float.Ieee.Bits.{is_true}
use Rattle.float.specs.Laws.Le.{yes_of}
use Rattle.sheet.specs.declared.request.Field.{Field}
use Rattle.sheet.specs.declared.request.Field.TheVariants.{Sign, Arm, Reference, Offset, From, To}
use Rattle.sheet.specs.Bytes.{little_endian, part, float_at}
use Rattle.sheet.specs.Request.{core_size, request_size, name_at, name_size, shape_of, reads, place, last, width, byte_read, Agree, AgreeFields, blank}
use Rattle.sheet.specs.declared.edition.Edition.{Edition}
use Rattle.sheet.specs.Laws.Places.{place_most, byte_is, byte_first, byte_always, byte_name, core_least, named_most}
use Rattle.sheet.specs.Laws.Bytes.{length_part}
use Rattle.sheet.specs.Laws.Blank.{length_blank, get_d_blank}

-- two lists whose bytes agree over a stretch, of which both have as much, have the same stretch
pub stretch : (r s : List ℕ) (at n : ℕ) → length (part at n r) ≡ length (part at n s) → ((i : ℕ) → at ≤ i → i < at + n → get_or r i 0 ≡ get_or s i 0)
    → part at n r ≡ part at n s
stretch r s at n e h =
    ext_get_or 0 (part at n r) (part at n s) e
    (λ i l.
    let k : i < n = omega (arith, simp (length-take, length-drop) at l) in
    rw (get_or-take n (drop at r) i 0 k, get_or-take n (drop at s) i 0 k, get_or-drop at r i 0, get_or-drop at s i 0) (h (at + i) (omega arith) (omega arith)))

-- a byte of a stretch that agrees
one_of : (r s : List ℕ) (at n i : ℕ) → part at n r ≡ part at n s → at ≤ i → i < at + n → get_or r i 0 ≡ get_or s i 0
one_of r s at n i e a b =
    let k : i - at < n = omega arith in
    let f : at + (i - at) ≡ i = omega arith in
    rw
    (get_or-take n (drop at r) (i - at) 0 k, get_or-take n (drop at s) (i - at) 0 k, get_or-drop at r (i - at) 0, get_or-drop at s (i - at) 0, f) at
    (ap (λ (l : List ℕ). get_or l (i - at) 0) e)

-- ---- what agrees

-- in all that is read before the name
pub record Core (r s : List ℕ) : Type 0 where
  pub least : core_size ≤ length r
  pub least' : core_size ≤ length s
  pub same : (i : ℕ) → i < core_size → T (byte_read (shape_of r) i) → get_or r i 0 ≡ get_or s i 0

pub core_of : {e : Edition} {r s : List ℕ} → Agree e r s → Core r s
core_of {e} g =
    record { least = omega (arith, g.whole, core_least e); least' = omega (arith, g.whole', core_least e); same = λ i h t. g.same i t }

module _ (r s : List ℕ) (g : Core r s) where
  pub as_much : (at n : ℕ) → at + n ≤ core_size → length (part at n r) ≡ length (part at n s)
  as_much at n h = length_part at n r (omega (arith, g.least)) ∙ sym (length_part at n s (omega (arith, g.least')))

  pub same_first : (i : ℕ) → i < 4 → get_or r i 0 ≡ get_or s i 0
  same_first i h = g.same i (omega arith) (yes_of (byte_first (shape_of r) i h))

  pub same_shape : shape_of r ≡ shape_of s
  unfolding shape_of
  same_shape = rw (same_first 0 (omega arith), same_first 1 (omega arith), same_first 2 (omega arith))

  pub same_always : (i : ℕ) → 10 ≤ i → i < 48 → get_or r i 0 ≡ get_or s i 0
  same_always i a b = g.same i (omega arith) (yes_of (byte_always (shape_of r) i a b))

  pub same_part : (f : Field) (j : ℕ) → 1 ≤ j → j ≤ last f → T (reads (shape_of r) f j) → part (place f j) (width f) r ≡ part (place f j) (width f) s
  same_part f j a b t =
      stretch r s (place f j) (width f) (as_much (place f j) (width f) (place_most f j a b))
      (λ i c d. g.same i (omega (arith, place_most f j a b)) (subst⁻¹ T (byte_is (shape_of r) f j i a b c d) t))

  -- a sign
  pub same_sign : (j : ℕ) → 1 ≤ j → j ≤ 6 → T (reads (shape_of r) Sign j) → get_or r (place Sign j) 0 ≡ get_or s (place Sign j) 0
  same_sign j a b t = one_of r s (place Sign j) 1 (place Sign j) (same_part Sign j a b t) (omega arith) (omega arith)

  -- any other field, of eight bytes
  pub same_float : (f : Field) (j : ℕ) → 1 ≤ j → j ≤ last f → width f ≡ 8 → T (reads (shape_of r) f j) → float_at r (place f j) ≡ float_at s (place f j)
  same_float f j a b e t =
      let q : part (place f j) 8 r ≡ part (place f j) 8 s = subst (λ (n : ℕ). part (place f j) n r ≡ part (place f j) n s) e (same_part f j a b t) in
      ap (λ (l : List ℕ). of_bits binary64 (little_endian l)) q

  -- a part of the rotation
  pub same_rotation : (at : ℕ) → 16 ≤ at → at + 8 ≤ 48 → float_at r at ≡ float_at s at
  same_rotation at a b = ap (λ (l : List ℕ). of_bits binary64 (little_endian l))
      (stretch r s at 8 (as_much at 8 (omega arith)) (λ k c d. same_always k (omega arith) (omega arith)))

by_fields : {e : Edition} (r s : List ℕ) → Agree e r s → AgreeFields e r s
by_fields r s g =
    let k = core_of g in
    record {
      whole = g.whole;
      whole' = g.whole';
      head = stretch r s 0 4 (as_much r s k 0 4 (omega arith)) (λ i a b. same_first r s k i (omega arith));
      reserved = stretch r s 10 6 (as_much r s k 10 6 (omega arith)) (λ i a b. same_always r s k i a (omega arith));
      rotation = stretch r s 16 32 (as_much r s k 16 32 (omega arith)) (λ i a b. same_always r s k i (omega arith) b);
      field = same_part r s k;
      name = stretch r s name_at name_size (simp (length-take, length-drop) (rw (g.whole, g.whole')))
          (λ i a b. g.same i (yes_of (byte_name (shape_of r) i a)));
    }

-- ---- field by field

module _ {e : Edition} (r s : List ℕ) (g : AgreeFields e r s) where
  -- a byte of field j
  in_field : (f : Field) (i j : ℕ) → 1 ≤ j → j ≤ last f → place f j ≤ i → i < place f j + width f → T (byte_read (shape_of r) i) → get_or r i 0 ≡ get_or s i 0
  in_field f i j a b c d t =
      one_of r s (place f j) (width f) i (g.field f j a b (subst T (byte_is (shape_of r) f j i a b c d) t)) c d

  by_byte : (i : ℕ) → T (byte_read (shape_of r) i) → get_or r i 0 ≡ get_or s i 0
  by_byte i t = at4 (dec_lt i 4)
    where
      at_end : Dec (i < name_at + name_size) → name_at ≤ i → get_or r i 0 ≡ get_or s i 0
      at_end (yes h) l = one_of r s name_at name_size i g.name l h
      at_end (no h) l =
          let m : length r ≤ i = omega (arith, g.whole, named_most e) in
          let k : length s ≤ i = omega (arith, g.whole', named_most e) in
          get_or-eq_default r 0 m ∙ sym (get_or-eq_default s 0 k)

      at264 : Dec (i < name_at) → 216 ≤ i → get_or r i 0 ≡ get_or s i 0
      at264 (yes h) l = in_field To i ((i - 216) / 8 + 1) (omega arith) (omega arith) (omega arith) (omega arith) t
      at264 (no h) l = at_end (dec_lt i (name_at + name_size)) (omega arith)

      at216 : Dec (i < 216) → 168 ≤ i → get_or r i 0 ≡ get_or s i 0
      at216 (yes h) l = in_field From i ((i - 168) / 8 + 1) (omega arith) (omega arith) (omega arith) (omega arith) t
      at216 (no h) l = at264 (dec_lt i name_at) (omega arith)

      at168 : Dec (i < 168) → 120 ≤ i → get_or r i 0 ≡ get_or s i 0
      at168 (yes h) l = in_field Offset i ((i - 120) / 8 + 1) (omega arith) (omega arith) (omega arith) (omega arith) t
      at168 (no h) l = at216 (dec_lt i 216) (omega arith)

      at120 : Dec (i < 120) → 72 ≤ i → get_or r i 0 ≡ get_or s i 0
      at120 (yes h) l = in_field Reference i ((i - 72) / 8 + 1) (omega arith) (omega arith) (omega arith) (omega arith) t
      at120 (no h) l = at168 (dec_lt i 168) (omega arith)

      at72 : Dec (i < 72) → 48 ≤ i → get_or r i 0 ≡ get_or s i 0
      at72 (yes h) l = in_field Arm i ((i - 48) / 8 + 1) (omega arith) (omega arith) (omega arith) (omega arith) t
      at72 (no h) l = at120 (dec_lt i 120) (omega arith)

      at48 : Dec (i < 48) → 16 ≤ i → get_or r i 0 ≡ get_or s i 0
      at48 (yes h) l = one_of r s 16 32 i g.rotation l h
      at48 (no h) l = at72 (dec_lt i 72) (omega arith)

      at16 : Dec (i < 16) → 10 ≤ i → get_or r i 0 ≡ get_or s i 0
      at16 (yes h) l = one_of r s 10 6 i g.reserved l h
      at16 (no h) l = at48 (dec_lt i 48) (omega arith)

      at10 : Dec (i < 10) → 4 ≤ i → get_or r i 0 ≡ get_or s i 0
      at10 (yes h) l = in_field Sign i (i - 4 + 1) (omega arith) (omega arith) (omega arith) (omega arith) t
      at10 (no h) l = at16 (dec_lt i 16) (omega arith)

      at4 : Dec (i < 4) → get_or r i 0 ≡ get_or s i 0
      at4 (yes h) = one_of r s 0 4 i g.head (omega arith) h
      at4 (no h) = at10 (dec_lt i 10) (omega arith)

-- to agree byte by byte and field by field is the same
pub agree_fields : {e : Edition} (r s : List ℕ) → Agree e r s ↔ AgreeFields e r s
agree_fields r s = (by_fields r s, λ g. record { whole = g.whole; whole' = g.whole'; same = by_byte r s g })

-- ---- blanked requests

-- a byte of a blanked request
blank_byte : (r : List ℕ) (i : ℕ) → i < length r → get_or (blank r) i 0 ≡ cond (byte_read (shape_of r) i) (get_or r i 0) 0
blank_byte r i h =
    let z : 0 + i ≡ i = omega arith in
    rw z at (get_d_blank (shape_of r) 0 i r h)

kept_same : (b : Bool) (x y : ℕ) → (T b → x ≡ y) → cond b x 0 ≡ cond b y 0
kept_same true x y h = h tt
kept_same false x y h = refl

-- requests that agree have one blanked request
pub agree_blank : {e : Edition} (r s : List ℕ) → Agree e r s → blank r ≡ blank s
agree_blank {e} r s g =
    ext_get_or 0 (blank r) (blank s) (length_blank (shape_of r) 0 r ∙ g.whole ∙ sym g.whole' ∙ sym (length_blank (shape_of s) 0 s))
    (λ i l.
    let h : i < request_size e = omega (arith, length_blank (shape_of r) 0 r, g.whole) in
    rw (blank_byte r i (omega (arith, g.whole)), blank_byte s i (omega (arith, g.whole')), ← same_shape r s (core_of g))
    (kept_same (byte_read (shape_of r) i) (get_or r i 0) (get_or s i 0) (g.same i)))

module _ (e : Edition) (r s : List ℕ) (a : length r ≡ request_size e) (b : length s ≡ request_size e) (q : blank r ≡ blank s) where
  both : (i : ℕ) → i < request_size e → cond (byte_read (shape_of r) i) (get_or r i 0) 0 ≡ cond (byte_read (shape_of s) i) (get_or s i 0) 0
  both i h = sym (blank_byte r i (omega arith)) ∙ ap (λ (l : List ℕ). get_or l i 0) q ∙ blank_byte s i (omega arith)

  first : (i : ℕ) → i < 4 → get_or r i 0 ≡ get_or s i 0
  first i h = rw (byte_first (shape_of r) i h, byte_first (shape_of s) i h) at (both i (omega (arith, core_least e)))

  shapes : shape_of r ≡ shape_of s
  unfolding shape_of
  shapes = rw (first 0 (omega arith), first 1 (omega arith), first 2 (omega arith))

  inside : (i : ℕ) → i < request_size e → T (byte_read (shape_of r) i) → get_or r i 0 ≡ get_or s i 0
  inside i h t =
      let y : byte_read (shape_of r) i ≡ true = is_true _ t in
      rw (← shapes, y) at (both i h)

  -- requests with one blanked request agree
  pub blank_agree : Agree e r s
  blank_agree = record { whole = a; whole' = b; same = λ i t. go i t (dec_lt i (request_size e)) }
    where
      go : (i : ℕ) → T (byte_read (shape_of r) i) → Dec (i < request_size e) → get_or r i 0 ≡ get_or s i 0
      go i t (yes h) = inside i h t
      go i t (no h) =
          let m : length r ≤ i = omega arith in
          let k : length s ≤ i = omega arith in
          get_or-eq_default r 0 m ∙ sym (get_or-eq_default s 0 k)

-- a request agrees with its own blanked one
pub agree_own : (e : Edition) (r : List ℕ) → length r ≡ request_size e → Agree e r (blank r)
agree_own e r w =
    record {
      whole = w;
      whole' = length_blank (shape_of r) 0 r ∙ w;
      same = λ i t. go i t (dec_lt i (request_size e));
    }
  where
    go : (i : ℕ) → T (byte_read (shape_of r) i) → Dec (i < request_size e) → get_or r i 0 ≡ get_or (blank r) i 0
    go i t (yes h) =
        let y : byte_read (shape_of r) i ≡ true = is_true _ t in
        sym (blank_byte r i (omega arith) ∙ rw y)
    go i t (no h) =
        let m : length r ≤ i = omega arith in
        let k : length (blank r) ≤ i = omega (arith, length_blank (shape_of r) 0 r) in
        get_or-eq_default r 0 m ∙ sym (get_or-eq_default (blank r) 0 k)

-- blanking twice is blanking once
pub blank_twice : (e : Edition) (r : List ℕ) → length r ≡ request_size e → blank (blank r) ≡ blank r
blank_twice e r w = sym (agree_blank r (blank r) (agree_own e r w))
