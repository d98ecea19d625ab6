-- What the tests of a request come to, and what is known of a request that passes them.
use Rattle.std.specs.Prelude.{ℕ, zero, suc, ◌+◌, ◌≤◌, ◌<◌, refl, List, Bool, true, false, cond, length, T, eqb, Result, Ok, Err}
use Rattle.std.proofs.Common.{arith, sym, ◌∙◌, eqb-true, eq-eqb}
use Rattle.std.proofs.Math.Decide.{dec_lt}
use Rattle.std.proofs.Math.Path.{◌≡◌, ap}
use Rattle.std.specs.Float.Ieee.Scale.{finite}
use Rattle.float.specs.Laws.Tests.{and_left, and_right}
use Rattle.polynomial.specs.Angle.{two_pi}
use Rattle.sampling.specs.Pose.{Normalized, try_normalize}
use Rattle.sampling.specs.declared.pose.Quaternion.{Quaternion}
use Rattle.sampling.specs.declared.pose.Degenerate.TheVariants.{NotFinite, Zero}
use Rattle.sheet.specs.declared.edition.Edition.{Edition}
use Rattle.sheet.specs.declared.request.Field.{Field}
use Rattle.sheet.specs.declared.request.Field.TheVariants.{Arm, Reference, Offset}
use Rattle.sheet.specs.declared.refusals.Refusal.{Refusal}
use Rattle.sheet.specs.Request.{request_size, shape_of, reads, last}
use Rattle.sheet.specs.Fields.{field, rotation_of}
use Rattle.sheet.specs.Refusals.{Answer, accepted, refused, need, number}
use Rattle.sheet.specs.Validate.{all_from, head_right, name_right, signs_right, rotation_finite, rotation_nonzero, passes, field_right, fields_right}
use Rattle.sheet.specs.Validate.{within, eight, arm_within, references_finite, offsets_within, validate}
use Rattle.sheet.specs.Promises.Tested.{refusal_of, tested_fields, tested_rotation, tested, after, Passed}
use Rattle.sheet.specs.declared.refusals.Refusal.TheVariants as refusal

pub need_holds : (b : Bool) (k n : ℕ) (v : Answer) → need b k v ≡ accepted n → b ≡ true
unfolding need
need_holds true k n v e = refl
need_holds false k n v e = let z : ◌≡◌ {A = ℕ} 0 1 = cc in absurd (omega arith)

pub need_accepted : (b : Bool) (k n : ℕ) (v : Answer) → need b k v ≡ accepted n → v ≡ accepted n
unfolding need
need_accepted true k n v e = e
need_accepted false k n v e = let z : ◌≡◌ {A = ℕ} 0 1 = cc in absurd (omega arith)

-- an accepted request passes all tests
pub validate_passed : (e : Edition) (r : List ℕ) (n : ℕ) (v : Answer) → validate e r v ≡ accepted n → Passed e r
unfolding validate
validate_passed e r n v h =
    let e2 = need_accepted _ 1 n _ h in
    let e41 = need_accepted _ 2 n _ e2 in
    let e3 = need_accepted _ 41 n _ e41 in
    let e4 = need_accepted _ 3 n _ e3 in
    let e5 = need_accepted _ 4 n _ e4 in
    let e6 = need_accepted _ 5 n _ e5 in
    let e7 = need_accepted _ 6 n _ e6 in
    let e8 = need_accepted _ 7 n _ e7 in
    record {
      whole = eqb-true _ _ (need_holds _ 1 n _ h);
      head = need_holds _ 2 n _ e2;
      name = need_holds _ 41 n _ e41;
      signs = need_holds _ 3 n _ e3;
      rotation = need_holds _ 4 n _ e4;
      nonzero = need_holds _ 5 n _ e5;
      arm = need_holds _ 6 n _ e6;
      references = need_holds _ 7 n _ e7;
      offsets = need_holds _ 8 n _ e8;
    }

-- and behind the tests comes what was to come
pub passed_validate : (e : Edition) (r : List ℕ) (v : Answer) → Passed e r → validate e r v ≡ v
unfolding validate need
passed_validate e r v p =
    rw (eq-eqb (length r) (request_size e) p.whole, p.head, p.name, p.signs, p.rotation, p.nonzero, p.arm, p.references, p.offsets)

-- ---- the tests as the code makes them

test : (b : Bool) (k : Refusal) (t : Result Quaternion Refusal) (v u : Answer) → after t v ≡ u → after (cond b t (Err k)) v ≡ need b (number k) u
unfolding need
test true k t v u e = e
test false k t v u e = refl

after_fields : (r : List ℕ) (q : Quaternion) (v : Answer)
    → after (tested_fields r q) v ≡ need (arm_within r) 6 (need (references_finite r) 7 (need (offsets_within r) 8 v))
after_fields r q v =
    test (arm_within r) refusal.Arm _ v _
    (test (references_finite r) refusal.Reference _ v _ (test (offsets_within r) refusal.Offset (Ok q) v v refl))

after_rotation : (r : List ℕ) (n : Normalized) (v : Answer)
    → after (tested_rotation r n) v
    ≡ need (rotation_finite n) 4 (need (rotation_nonzero n) 5 (need (arm_within r) 6 (need (references_finite r) 7 (need (offsets_within r) 8 v))))
unfolding tested_rotation refusal_of rotation_finite rotation_nonzero need
after_rotation r (Ok q) v = after_fields r q v
after_rotation r (Err NotFinite) v = refl
after_rotation r (Err Zero) v = refl

pub tested_validate : (e : Edition) (r : List ℕ) (v : Answer) → after (tested e r) v ≡ validate e r v
unfolding tested validate
tested_validate e r v =
    test (eqb (length r) (request_size e)) refusal.Length _ v _
    (test (head_right r) refusal.Head _ v _
    (test (name_right r) refusal.Name _ v _
    (test (signs_right r) refusal.Sign _ v _ (after_rotation r (try_normalize (rotation_of r)) v))))

-- a request that is refused
pub tested_refused : (e : Edition) (r : List ℕ) (k : Refusal) (v : Answer) → tested e r ≡ Err k → validate e r v ≡ refused (number k)
tested_refused e r k v h = sym (tested_validate e r v) ∙ ap (λ (t : Result Quaternion Refusal). after t v) h

-- one that passes, and the quaternion that it passes with
module _ (e : Edition) (r : List ℕ) (q : Quaternion) (h : tested e r ≡ Ok q) where
  pub tested_passed : Passed e r
  tested_passed = validate_passed e r 0 (accepted 0) (sym (tested_validate e r (accepted 0)) ∙ ap (λ (t : Result Quaternion Refusal). after t (accepted 0)) h)

  inner : (b : Bool) (k : Refusal) (t : Result Quaternion Refusal) → cond b t (Err k) ≡ Ok q → t ≡ Ok q
  inner true k t i = i
  inner false k t i = let z : ◌≡◌ {A = ℕ} 0 1 = cc in absurd (omega arith)

  unit : (n : Normalized) → tested_rotation r n ≡ Ok q → n ≡ Ok q
  unfolding tested_rotation
  unit (Ok p) j =
      let i : Ok p ≡ Ok q = inner (offsets_within r) refusal.Offset _
      (inner (references_finite r) refusal.Reference _ (inner (arm_within r) refusal.Arm _ j)) in
      let z : p ≡ q = cc in
      ap Ok z
  unit (Err NotFinite) j = let z : ◌≡◌ {A = ℕ} 0 1 = cc in absurd (omega arith)
  unit (Err Zero) j = let z : ◌≡◌ {A = ℕ} 0 1 = cc in absurd (omega arith)

  pub tested_unit : try_normalize (rotation_of r) ≡ Ok q
  unfolding tested
  tested_unit =
      unit (try_normalize (rotation_of r))
      (inner (signs_right r) refusal.Sign _
      (inner (name_right r) refusal.Name _ (inner (head_right r) refusal.Head _ (inner (eqb (length r) (request_size e)) refusal.Length _ h))))

-- ---- what the tests say of each read field

all_holds : (p : ℕ → Bool) (n j i : ℕ) → all_from n j p ≡ true → j ≤ i → i < j + n → p i ≡ true
unfolding all_from
all_holds p zero j i e a b = absurd (omega arith)
all_holds p (suc n) j i e a b = go (all_holds p n (suc j) i (and_right (p j) (all_from n (suc j) p) e)) (dec_lt j i)
  where
    go : (suc j ≤ i → i < suc j + n → p i ≡ true) → Dec (j < i) → p i ≡ true
    go later (yes h) = later (omega arith) (omega arith)
    go later (no h) =
        let q : j ≡ i = omega arith in
        rw q at (and_left (p j) (all_from n (suc j) p) e)

opened : (b p : Bool) → cond b p true ≡ true → T b → p ≡ true
opened true p e t = e
opened false p e t = absurd t

module _ {e : Edition} (r : List ℕ) (g : Passed e r) where
  field_passes : (f : Field) (j : ℕ) → fields_right f r ≡ true → 1 ≤ j → j ≤ last f → T (reads (shape_of r) f j) → passes f (field r f j) ≡ true
  unfolding field_right
  field_passes f j h a b t = opened (reads (shape_of r) f j) _ (all_holds (field_right (shape_of r) f r) (last f) 1 j h a (omega arith)) t

  pub passed_reference : (j : ℕ) → 1 ≤ j → j ≤ 6 → T (reads (shape_of r) Reference j) → finite (field r Reference j) ≡ true
  unfolding references_finite passes
  passed_reference j a b t = field_passes Reference j g.references a b t

  pub passed_offset : (j : ℕ) → 1 ≤ j → j ≤ 6 → T (reads (shape_of r) Offset j) → within two_pi (field r Offset j) ≡ true
  unfolding offsets_within passes
  passed_offset j a b t = field_passes Offset j g.offsets a b t

  pub passed_arm : (q : ℕ) → 1 ≤ q → q ≤ 3 → T (reads (shape_of r) Arm q) → within eight (field r Arm q) ≡ true
  unfolding arm_within passes
  passed_arm q a b t = field_passes Arm q g.arm a b t
