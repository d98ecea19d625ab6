-- Two requests that agree in all that is read have the same angles, and the same answers; the name alters neither.
use Rattle.std.specs.Prelude.{ℕ, ◌≤◌, ◌≡◌, Bool, ◌&&◌, length, eqb, leb, Option, Some, None}
use Rattle.std.proofs.Common.{arith, sym, subst, ◌∙◌, eq-eqb}
use Rattle.std.proofs.Math.Path.{refl, ap}
use mathlib.Core.List.{List, map}
use Rattle.std.proofs.Math.Bool.{true, false}
use Rattle.std.proofs.lemmas.Bool.{false≢true}
use Rattle.std.proofs.Math.Dec.{T}
use Rattle.std.specs.Float.Ieee.{to_bits}
use Rattle.std.specs.Float.{binary64}
use Rattle.std.specs.Float.Ieee.Fits.{and_i}
use Rattle.float.specs.Laws.Tests.{and_left}
use Rattle.sampling.specs.Reads.{joint_read, reference_read, arm_read, SameJoint, SameRead}
use Rattle.sampling.specs.declared.reads.Shape.{Shape}
use Rattle.sheet.specs.declared.request.Field.TheVariants.{Sign, Arm, Reference, Offset, From, To}
use Rattle.sheet.specs.Request.{request_size, shape_of, reads}
use Rattle.sheet.specs.Fields.{sign_of, joint_at, arm_of, kind_of, limited_of, fixed_of, job_of, matrix}
use Rattle.sheet.specs.Refusals.{Answer, accepted, need}
use Rattle.sheet.specs.Validate.{right, head_right, name_right, validate}
use Rattle.sheet.specs.Sampling.{angles, items, cut_count, by_work, answer, before_output}
use Rattle.sheet.specs.Edition.{newest}
use Rattle.sheet.specs.Sheet.{sheet_size}
use Rattle.sheet.specs.declared.edition.Edition.{Edition}
use Rattle.sheet.specs.Laws.Agree.{Core, same_shape, same_sign, same_float}
use Rattle.sheet.specs.Laws.Validate.{rotation_same, validate_same}
use Rattle.sampling.proofs.Laws.Reads as Reads

-- ---- what the job's kind and flags read is what the shape reads

record Reading (s : Option Shape) (k : ℕ) : Type 0 where
  sign : joint_read (kind_of s) (limited_of s) (fixed_of s) k ≡ reads s Sign k
  offset : joint_read (kind_of s) (limited_of s) (fixed_of s) k ≡ reads s Offset k
  reference : reference_read (kind_of s) (limited_of s) (fixed_of s) k ≡ reads s Reference k
  arm : arm_read (kind_of s) k ≡ reads s Arm k
  from : limited_of s && joint_read (kind_of s) (limited_of s) (fixed_of s) k ≡ reads s From k
  to : limited_of s && joint_read (kind_of s) (limited_of s) (fixed_of s) k ≡ reads s To k

reading : (s : Option Shape) (k : ℕ) → right s ≡ true → Reading s k
unfolding right reads kind_of limited_of fixed_of
reading None k h = absurd (false≢true h)
reading (Some s) k h = record { sign = refl; offset = refl; reference = refl; arm = refl; from = refl; to = refl }

-- ---- from requests to jobs

module _ (r s : List ℕ) (g : Core r s) where
  module _ (h : head_right r ≡ true) where
    shape_right : right (shape_of r) ≡ true
    unfolding head_right
    shape_right = and_left (right (shape_of r)) _ h

    read : (k : ℕ) → Reading (shape_of r) k
    read k = reading (shape_of r) k shape_right

    joint_same : (k : ℕ) → 1 ≤ k → k ≤ 6
        → SameJoint (kind_of (shape_of r)) (limited_of (shape_of r)) (fixed_of (shape_of r)) k (joint_at r k) (joint_at s k)
    unfolding joint_at
    joint_same k a b =
        record {
          sign = λ t. ap sign_of (same_sign r s g k a b (subst T (read k).sign t));
          offset = λ t. same_float r s g Offset k a b refl (subst T (read k).offset t);
          reference = λ t. same_float r s g Reference k a b refl (subst T (read k).reference t);
          center = λ l t.
              let u = and_i (limited_of (shape_of r)) _ l t in
              rw (same_float r s g From k a b refl (subst T (read k).from u), same_float r s g To k a b refl (subst T (read k).to u));
        }

    same_read : SameRead (job_of r) (job_of s)
    unfolding job_of arm_of
    same_read =
        record {
          kind = ap kind_of (same_shape r s g);
          limited = ap limited_of (same_shape r s g);
          fixed = ap fixed_of (same_shape r s g);
          matrix = ap matrix (rotation_same r s g);
          q1 = λ t. same_float r s g Arm 1 (omega arith) (omega arith) refl (subst T (read 1).arm t);
          q2 = λ t. same_float r s g Arm 2 (omega arith) (omega arith) refl (subst T (read 2).arm t);
          q3 = λ t. same_float r s g Arm 3 (omega arith) (omega arith) refl (subst T (read 3).arm t);
          j1 = joint_same 1 (omega arith) (omega arith);
          j2 = joint_same 2 (omega arith) (omega arith);
          j4 = joint_same 4 (omega arith) (omega arith);
          j5 = joint_same 5 (omega arith) (omega arith);
          j6 = joint_same 6 (omega arith) (omega arith);
        }

    pub angles_same : angles r ≡ angles s
    unfolding angles
    angles_same = Reads.angles_same (job_of r) (job_of s) same_read

    pub items_same : items r ≡ items s
    unfolding items
    items_same = ap (map (to_bits binary64)) angles_same

    cuts_same : cut_count r ≡ cut_count s
    unfolding cut_count
    cuts_same = Reads.cuts_same (job_of r) (job_of s) same_read

  -- a wrong head is refused whatever comes behind
  validate_wrong : (e : Edition) (v u : Answer) → head_right r ≡ false → validate e r v ≡ validate e r u
  unfolding validate need
  validate_wrong e v u h = rw h

  -- two requests that agree before the name, as requests of editions whose lengths and names are both right, or both wrong, get the same refusal, or go on
  -- alike
  by_work_same : (e e' : Edition) → eqb (length r) (request_size e) ≡ eqb (length s) (request_size e') → name_right r ≡ name_right s → (places : ℕ)
      → (v u : Answer) → (head_right r ≡ true → v ≡ u) → by_work e r places v ≡ by_work e' s places u
  unfolding by_work
  by_work_same e e' l n places v u h = go (head_right r) refl ∙ validate_same r s g e e' l n _
    where
      go : (b : Bool) → head_right r ≡ b
          → validate e r (need (leb (cut_count r) places) 10 v) ≡ validate e r (need (leb (cut_count s) places) 10 u)
      go true q = rw (cuts_same q, h q)
      go false q = validate_wrong e _ _ q

  pub answer_same : length r ≡ length s → name_right r ≡ name_right s → (places room : ℕ) → answer r places room ≡ answer s places room
  unfolding answer
  answer_same l n places room =
      by_work_same newest newest (rw l) n places _ _
      (λ h. ap (λ (l : List ℕ). need (leb (sheet_size newest (length l)) room) 11 (accepted (length l))) (items_same h))

  pub before_same : (e e' : Edition) → length r ≡ request_size e → length s ≡ request_size e' → name_right r ≡ name_right s → (places : ℕ)
      → before_output e r places ≡ before_output e' s places
  before_same e e' l l' n places =
      by_work_same e e' (eq-eqb (length r) (request_size e) l ∙ sym (eq-eqb (length s) (request_size e') l')) n places _ _
      (λ h. ap (λ (l : List ℕ). accepted (length l)) (items_same h))
