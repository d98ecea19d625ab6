-- Refusals 1 to 8 and 41 depend on what is read alone.
use Rattle.std.specs.Prelude.{ℕ, zero, suc, ◌+◌, ◌≤◌, ◌<◌, ◌≡◌, List, Bool, true, false, cond, ◌||◌, length, get_or, drop, T}
use Rattle.std.proofs.Common.{arith, length-drop, ext_get_or, get_or-drop}
use Rattle.std.proofs.Math.Path.{refl, ap}
use Rattle.std.proofs.Math.Dec.{eqb}
use Rattle.sheet.specs.declared.request.Field.{Field}
use Rattle.sheet.specs.declared.request.Field.TheVariants.{Sign, Arm, Reference, Offset}
use Rattle.sheet.specs.Request.{request_size, name_at, shape_of, reads, place, last, width, Agree}
use Rattle.sheet.specs.declared.edition.Edition.{Edition}
use Rattle.sheet.specs.Fields.{field, rotation_of}
use Rattle.sheet.specs.Validate.{all_from, zero_at, head_right, is_name, name_right, sign_right, signs_right, passes, field_right, fields_right}
use Rattle.sheet.specs.Validate.{arm_within, references_finite, offsets_within, validate}
use Rattle.sheet.specs.Refusals.{Answer}
use Rattle.sheet.specs.Laws.Places.{byte_name}
use Rattle.float.specs.Laws.Le.{yes_of}
use Rattle.sheet.specs.Laws.Agree.{Core, same_first, same_shape, same_always, same_sign, same_float, same_rotation}

-- equal tests
all_same : (p q : ℕ → Bool) (n j : ℕ) → ((i : ℕ) → j ≤ i → i < j + n → p i ≡ q i) → all_from n j p ≡ all_from n j q
unfolding all_from
all_same p q zero j h = refl
all_same p q (suc n) j h = rw (h j (omega arith) (omega arith), all_same p q n (suc j) (λ i a b. h i (omega arith) (omega arith)))

-- where an unread field passes, a test depends on read fields alone
guarded : {A : Type 0} (b : Bool) (p : A → Bool) (x y : A) → (T b → x ≡ y) → cond b (p x) true ≡ cond b (p y) true
guarded true p x y h = ap p (h tt)
guarded false p x y h = refl

module _ (r s : List ℕ) (g : Core r s) where
  head_same : head_right r ≡ head_right s
  unfolding head_right
  head_same =
      rw (
        ← same_shape r s g,
        same_first r s g 3 (omega arith),
        all_same (zero_at r) (zero_at s) 6 10 (λ i a b. ap (λ (v : ℕ). eqb v 0) (same_always r s g i (omega arith) (omega arith))),
      )

  signs_same : signs_right r ≡ signs_right s
  unfolding signs_right sign_right
  signs_same =
      rw (← same_shape r s g)
      (all_same (sign_right (shape_of r) r) (sign_right (shape_of r) s) 6 1
      (λ j a b.
      guarded (reads (shape_of r) Sign j) (λ (v : ℕ). eqb v 1 || eqb v 255) (get_or r (place Sign j) 0) (get_or s (place Sign j) 0)
      (same_sign r s g j a (omega arith))))

  pub rotation_same : rotation_of r ≡ rotation_of s
  unfolding rotation_of
  rotation_same =
      rw (
        same_rotation r s g 16 (omega arith) (omega arith),
        same_rotation r s g 24 (omega arith) (omega arith),
        same_rotation r s g 32 (omega arith) (omega arith),
        same_rotation r s g 40 (omega arith) (omega arith),
      )

  fields_same : (f : Field) → width f ≡ 8 → fields_right f r ≡ fields_right f s
  unfolding field_right
  fields_same f h =
      rw (← same_shape r s g)
      (all_same (field_right (shape_of r) f r) (field_right (shape_of r) f s) (last f) 1
      (λ j a b. guarded (reads (shape_of r) f j) (passes f) (field r f j) (field s f j) (same_float r s g f j a (omega arith) h)))

  arm_same : arm_within r ≡ arm_within s
  unfolding arm_within
  arm_same = fields_same Arm refl

  references_same : references_finite r ≡ references_finite s
  unfolding references_finite
  references_same = fields_same Reference refl

  offsets_same : offsets_within r ≡ offsets_within s
  unfolding offsets_within
  offsets_same = fields_same Offset refl

  -- two requests that agree before the name, as requests of editions whose lengths and names are both right, or both wrong, meet the same of refusals 1 to 8
  -- and 41
  pub validate_same : (e e' : Edition) → eqb (length r) (request_size e) ≡ eqb (length s) (request_size e') → name_right r ≡ name_right s → (v : Answer)
      → validate e r v ≡ validate e' s v
  unfolding validate
  validate_same e e' l n v = rw (l, head_same, n, signs_same, rotation_same, arm_same, references_same, offsets_same)

-- requests that agree have one name
pub one_name : {e : Edition} (r s : List ℕ) → Agree e r s → drop name_at r ≡ drop name_at s
one_name r s g =
    ext_get_or 0 (drop name_at r) (drop name_at s) (simp length-drop (rw (g.whole, g.whole')))
    (λ i l. rw (get_or-drop name_at r i 0, get_or-drop name_at s i 0) (g.same (name_at + i) (yes_of (byte_name (shape_of r) (name_at + i) (omega arith)))))

pub name_same : {e : Edition} (r s : List ℕ) → Agree e r s → name_right r ≡ name_right s
unfolding name_right
name_same r s g = ap is_name (one_name r s g)
