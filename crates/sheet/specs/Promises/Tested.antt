-- What the tests of a request come to in code, and what is known of a request that passes them. Definitions only; `Laws.Tested` joins them to `Validate`.
use Rattle.std.specs.Prelude.{ℕ, ◌≡◌, List, true, cond, length, eqb, Result, Ok, Err}
use Rattle.sampling.specs.Pose.{Normalized, try_normalize}
use Rattle.sampling.specs.declared.pose.Quaternion.{Quaternion}
use Rattle.sampling.specs.declared.pose.Degenerate.{Degenerate}
use Rattle.sampling.specs.declared.pose.Degenerate.TheVariants.{NotFinite, Zero}
use Rattle.sheet.specs.declared.edition.Edition.{Edition}
use Rattle.sheet.specs.declared.refusals.Refusal.{Refusal}
use Rattle.sheet.specs.Request.{request_size}
use Rattle.sheet.specs.Fields.{rotation_of}
use Rattle.sheet.specs.Refusals.{Answer, refused, number}
use Rattle.sheet.specs.Validate.{head_right, name_right, signs_right, rotation_finite, rotation_nonzero, arm_within, references_finite, offsets_within}
use Rattle.sheet.specs.declared.refusals.Refusal.TheVariants as refusal

-- 6 to 8, for a rotation that is normalized to q
abbrev pub tested_fields : List ℕ → Quaternion → Result Quaternion Refusal
tested_fields r q =
    cond (arm_within r)
    (cond (references_finite r) (cond (offsets_within r) (Ok q) (Err refusal.Offset)) (Err refusal.Reference))
    (Err refusal.Arm)

-- 4 and 5
unfoldable pub refusal_of : Degenerate → Refusal
refusal_of NotFinite = refusal.NotFinite
refusal_of Zero = refusal.Zero

-- 4 to 8
unfoldable pub tested_rotation : List ℕ → Normalized → Result Quaternion Refusal
tested_rotation r (Ok q) = tested_fields r q
tested_rotation r (Err d) = Err (refusal_of d)

-- 1 to 8 and 41
unfoldable pub tested : Edition → List ℕ → Result Quaternion Refusal
tested e r =
    cond (eqb (length r) (request_size e))
    (cond (head_right r)
    (cond (name_right r)
    (cond (signs_right r) (tested_rotation r (try_normalize (rotation_of r))) (Err refusal.Sign))
    (Err refusal.Name))
    (Err refusal.Head))
    (Err refusal.Length)

-- what follows: v, or the refusal
abbrev pub after : Result Quaternion Refusal → Answer → Answer
after (Ok q) v = v
after (Err k) v = refused (number k)

-- none of refusals 1 to 8 and 41 is met
pub record Passed (e : Edition) (r : List ℕ) : Type 0 where
  pub whole : length r ≡ request_size e
  pub head : head_right r ≡ true
  pub name : name_right r ≡ true
  pub signs : signs_right r ≡ true
  pub rotation : rotation_finite (try_normalize (rotation_of r)) ≡ true
  pub nonzero : rotation_nonzero (try_normalize (rotation_of r)) ≡ true
  pub arm : arm_within r ≡ true
  pub references : references_finite r ≡ true
  pub offsets : offsets_within r ≡ true
