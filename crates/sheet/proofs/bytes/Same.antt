-- Parts of bytes that are copied and compared: what std's methods say of them, in the words of `Bytes`.
use Rattle.std.proofs.Common.{ℕ, suc, ◌+◌, ◌-◌, ◌^◌, ◌≤◌, ◌<◌, ◌≡◌, refl, sym, ap, ◌∙◌, arith, List, [], ◌∷◌, Bool, true, false, length, get_or, drop, take}
use Rattle.std.proofs.Common.{drop-drop, eqb-true, eq-eqb, append_assoc, length-drop, take_all}
use Rattle.std.proofs.lemmas.List.Edits.{sets, sets-eq}
use Rattle.std.specs.Cmp.Lexicographic.{pointwise}
use lib.Seq.{length-sets}
use mathlib.Core.List.{◌++◌}
use borrow.Rule.Slice.PartMut.{put_mid}
use lib.Dec.{eqb}
use Rattle.sheet.specs.Bytes.{little_endian, bytes, part, same_bytes}
use Rattle.std.specs.Int.{sum_through, byte_worth}
use Rattle.std.specs.List.{slice_index}
use Rattle.sheet.specs.Laws.Bytes.{sets_append, from_le, to_le, little_endian_bytes, bytes_part, length_part, same_is, same_itself}

-- a copy into a part is a run of stores
pub put_part : (out : List ℕ) (at : ℕ) (bs : List ℕ) → at + length bs ≤ length out → put_mid at (at + length bs - at) out bs ≡ sets out at bs
put_part out at bs h =
    let k : at + length bs - at ≡ length bs = omega arith in
    let d : drop (length bs) (drop at out) ≡ drop (at + length bs) out = drop-drop (length bs) at out in
    rw k (sym (sets-eq bs out at h ∙ rw (append_assoc, ← d)))

pub put_range : (out : List ℕ) (at to : ℕ) (bs : List ℕ) → at + length bs ≡ to → to ≤ length out → put_mid at (to - at) out bs ≡ sets out at bs
put_range out at to bs e h = rw (← e) (put_part out at bs (omega (arith, e, h)))

-- the first part of what is left to store, c, is stored; b is left
pub put_next : (out p b c : List ℕ) (at to : ℕ) → at + length p ≡ to → to ≤ length out → c ≡ p ++ b
    → (length (put_mid at (to - at) out p) ≡ length out) × (sets (put_mid at (to - at) out p) to b ≡ sets out at c)
put_next out p b c at to e h q =
    let m = put_range out at to p e h in (
      ap length m ∙ length-sets out at p,
      ap (λ (o : List ℕ). sets o to b) m ∙ rw (q, sets_append p b out at, e),
    )

-- std's number of the bytes of a part
pub number_part : (k : ℕ) (s : List ℕ) (at : ℕ) (bs : List ℕ) → at + suc k ≤ length s → bs ≡ part at (suc k) s
    → sum_through (λ (i : ℕ). byte_worth i (slice_index bs i)) k ≡ little_endian (part at (suc k) s)
number_part k s at bs h e = from_le k bs (ap length e ∙ length_part at (suc k) s h) ∙ ap little_endian e

-- the first bytes of a number's eight
pub four_bytes : (n : ℕ) → take 4 (bytes 8 n) ≡ bytes 4 n
unfolding bytes
four_bytes n = refl

-- slices compared are bytes compared
pub same_pointwise : (a b : List ℕ) → pointwise eqb a b ≡ same_bytes a b
unfolding same_bytes
same_pointwise [] [] = refl
same_pointwise [] (y ∷ b) = refl
same_pointwise (x ∷ a) [] = refl
same_pointwise (x ∷ a) (y ∷ b) = rw (same_pointwise a b)

same_comm : (a b : List ℕ) → same_bytes a b ≡ same_bytes b a
same_comm a b = go (same_bytes a b) refl (same_bytes b a) refl
  where
    go : (t : Bool) → same_bytes a b ≡ t → (u : Bool) → same_bytes b a ≡ u → same_bytes a b ≡ same_bytes b a
    go true e true f = e ∙ sym f
    go false e false f = e ∙ sym f
    go true e false f = ap (λ (l : List ℕ). same_bytes l b) (same_is a b e) ∙ ap (same_bytes b) (sym (same_is a b e))
    go false e true f = ap (λ (l : List ℕ). same_bytes l b) (sym (same_is b a f)) ∙ ap (same_bytes b) (same_is b a f)

-- the end of bytes, as `ends_with` compares it
pub same_end : (s b : List ℕ) → length b ≡ 16 → 16 ≤ length s
    → pointwise eqb b (drop (length s - length b) s) ≡ same_bytes (part (length s - 16) (length b) s) b
same_end s b e h =
    let l : length (drop (length s - 16) s) ≤ 16 = omega (arith, length-drop (length s - 16) s) in
    same_pointwise b (drop (length s - length b) s) ∙ same_comm b (drop (length s - length b) s) ∙ rw (e, take_all 16 (drop (length s - 16) s) l)

-- eight bytes are the same as those of a number exactly if their number is it
pub same_number : (s : List ℕ) (at v : ℕ) → at + 8 ≤ length s → ((i : ℕ) → i < length s → get_or s i 0 < 256) → v < 2 ^ 64
    → eqb (little_endian (part at 8 s)) v ≡ same_bytes (part at 8 s) (bytes 8 v)
same_number s at v h b w = go (same_bytes (part at 8 s) (bytes 8 v)) refl
  where
    go : (t : Bool) → same_bytes (part at 8 s) (bytes 8 v) ≡ t → eqb (little_endian (part at 8 s)) v ≡ t
    go true e = eq-eqb _ _ (ap little_endian (same_is (part at 8 s) (bytes 8 v) e) ∙ little_endian_bytes 8 v w)
    go false e = other (eqb (little_endian (part at 8 s)) v) refl
      where
        other : (t : Bool) → eqb (little_endian (part at 8 s)) v ≡ t → t ≡ false
        other false q = refl
        other true q =
            let n = eqb-true (little_endian (part at 8 s)) v q in
            let p : part at 8 s ≡ bytes 8 v = sym (bytes_part s at 8 h b) ∙ ap (bytes 8) n in
            sym (same_itself (bytes 8 v)) ∙ ap (λ (l : List ℕ). same_bytes l (bytes 8 v)) (sym p) ∙ e

-- what the bytes of numbers are
pub ruleset number_bytes = (to_le, four_bytes)
