-- For every request that meets none of refusals 1 to 8 and 41, every inner call of the root finder is fair: bounds, coefficients and list are as 02's change 5
-- says. So refusal 9 never came, and every answer is what it was with it. Of refusals 2 to 8 the arm angles (6) and the offsets (8) are used; a sign byte is
-- 1 or -1 whatever it is, the matrix lies within 17 in all cases, and a reference need only be a float.
use Rattle.std.specs.Prelude.{Ok, Err, ℕ, ◌≤◌, ◌≡◌, refl, Bool, true, false, cond, List, T, Option, Some, None}
use Rattle.std.proofs.Common.{arith, sym, subst, eqb-true}
use Rattle.std.proofs.lemmas.Bool.{false≢true}
use Rattle.std.specs.Float.Ieee.{binary64}
use Rattle.std.specs.Float.Ieee.Bits.{of_bits-fits}
use Rattle.float.specs.Number.{zero_float}
use Rattle.float.specs.Trig.{widest}
use Rattle.float.specs.Promises.Order.{Within}
use Rattle.float.specs.Laws.Tests.{and_left}
use Rattle.float.specs.Laws.Within.{numeral, weaken, add_within}
use Rattle.polynomial.specs.Angle.{two_pi}
use Rattle.polynomial.specs.InnerCalls.{Fair, all_taken}
use Rattle.polynomial.specs.Promises.Lists.{All}
use Rattle.polynomial.specs.Laws.InnerCalls.{all_fair_taken}
use Rattle.sampling.specs.Pose.{Normalized, try_normalize, vector}
use Rattle.sampling.specs.Reads.{joint_read, arm_read}
use Rattle.sampling.specs.InnerCalls.{free_calls, inner_calls}
use Rattle.sampling.specs.SampleAngles.{free}
use Rattle.sampling.specs.J1j2free.{folded, all_slices}
use Rattle.sampling.proofs.Laws.AngleBounds.{folded_small}
use Rattle.sampling.proofs.Laws.InnerCalls.{Steady, Domain, calls_fair, rows_fair}
use Rattle.sampling.proofs.Laws.Pose.{seventeen, Quaternion-fits, Vector-within, Matrix-within, normalize_within, from_quat_within}
use Rattle.sampling.specs.declared.job.Kind.{Kind}
use Rattle.sampling.specs.declared.job.Kind.TheVariants.{J1free, J2free, J1j2free}
use Rattle.sampling.specs.declared.pose.Quaternion.{Quaternion}
use Rattle.sampling.specs.declared.pose.Degenerate.TheVariants.{NotFinite, Zero}
use Rattle.sheet.specs.declared.edition.Edition.{Edition}
use Rattle.sampling.specs.declared.reads.Shape.{Shape}
use Rattle.sheet.specs.declared.request.Field.TheVariants.{Arm, Offset}
use Rattle.sheet.specs.Edition.{known}
use Rattle.sheet.specs.Request.{shape_of, reads}
use Rattle.sheet.specs.Fields.{field, joint_at, arm_of, rotation_of, zero_matrix, matrix_by, matrix, kind_of, limited_of, fixed_of, job_of}
use Rattle.sheet.specs.Refusals.{Answer, accepted, need}
use Rattle.sheet.specs.Validate.{right, head_right, eight, validate}
use Rattle.sheet.specs.Sampling.{by_work, answer}
use Rattle.sheet.specs.Check.{edition_of, request_of, meets_none, by_edition, by_said}
use Rattle.sheet.specs.Demands.{InnerCallsFair, NineAsBefore}
use Rattle.sheet.specs.Promises.Tested.{Passed}
use Rattle.sheet.specs.Laws.Tested.{passed_offset, passed_arm}
use Rattle.sheet.specs.Laws.Plan.{within_is, sign_either, passed_moderate, reference_fits}
use Rattle.sheet.specs.Laws.Accepted.{meets_passed}
use Rattle.sampling.specs.J2free as J2free
use Rattle.sheet.specs.Check as Check
use Rattle.sheet.specs.WithNine as WithNine

-- ---- the matrix lies within 17; it is zero in the cases of refusals 4 and 5

zero_within : Matrix-within seventeen zero_matrix
unfolding zero_matrix vector
zero_within =
    let o = numeral seventeen zero_float tt in
    let v : Vector-within seventeen (vector zero_float zero_float zero_float) = record { x = o; y = o; z = o } in
    record { x = v; y = v; z = v }

matrix_within : (q : Quaternion) → Quaternion-fits q → Matrix-within seventeen (matrix q)
unfolding matrix matrix_by
matrix_within q f = go (try_normalize q) refl
  where
    go : (n : Normalized) → try_normalize q ≡ n → Matrix-within seventeen (matrix_by n)
    go (Ok u) e = from_quat_within u (normalize_within q u f e)
    go (Err NotFinite) e = zero_within
    go (Err Zero) e = zero_within

rotation_fits : (r : List ℕ) → Quaternion-fits (rotation_of r)
unfolding rotation_of
rotation_fits r = record { x = of_bits-fits binary64 _; y = of_bits-fits binary64 _; z = of_bits-fits binary64 _; w = of_bits-fits binary64 _ }

-- ---- what each kind reads

arm_reads : (s : Option Shape) (k : Kind) (q : ℕ) → right s ≡ true → kind_of s ≡ k → T (arm_read k q) → T (reads s Arm q)
unfolding right kind_of reads
arm_reads None k q h e t = absurd (false≢true h)
arm_reads (Some s) k q h e t = subst (λ (x : Kind). T (arm_read x q)) (sym e) t

offset_reads : (s : Option Shape) (k : Kind) (j : ℕ) → right s ≡ true → kind_of s ≡ k → T (joint_read k (limited_of s) (fixed_of s) j) → T (reads s Offset j)
unfolding right kind_of limited_of fixed_of reads
offset_reads None k j h e t = absurd (false≢true h)
offset_reads (Some s) k j h e t = subst (λ (x : Kind). T (joint_read x s.limits s.fixed j)) (sym e) t

-- kind 3 with limits reads joints 4, 5 and, unless fixed, 6
fourth_read : (l f : Bool) → T l → T (joint_read J1j2free l f 4)
unfolding joint_read
fourth_read true f t = tt
fourth_read false f t = absurd t

fifth_read : (l f : Bool) → T l → T (joint_read J1j2free l f 5)
unfolding joint_read
fifth_read true f t = tt
fifth_read false f t = absurd t

sixth_read : (l f : Bool) → T (cond f false l) → T (joint_read J1j2free l f 6)
unfolding joint_read
sixth_read l true t = absurd t
sixth_read true false t = tt
sixth_read false false t = absurd t

-- ---- a request that passes

module _ {e : Edition} (r : List ℕ) (g : Passed e r) where
  known_shape : right (shape_of r) ≡ true
  unfolding head_right
  known_shape = and_left (right (shape_of r)) _ g.head

  arm : (k : Kind) (q : ℕ) → kind_of (shape_of r) ≡ k → 1 ≤ q → q ≤ 3 → T (arm_read k q) → Within eight (field r Arm q)
  arm k q h a b t = within_is eight (field r Arm q) tt tt (passed_arm r g q a b (arm_reads (shape_of r) k q known_shape h t))

  wide : (k : Kind) (q : ℕ) → kind_of (shape_of r) ≡ k → 1 ≤ q → q ≤ 3 → T (arm_read k q) → Within widest (field r Arm q)
  wide k q h a b t = weaken widest tt (arm k q h a b t)

  module _ (h : kind_of (shape_of r) ≡ J1j2free) where
    steady : (j : ℕ) → 1 ≤ j → j ≤ 6 → T (joint_read J1j2free (limited_of (shape_of r)) (fixed_of (shape_of r)) j) → Steady (joint_at r j)
    unfolding joint_at
    steady j a b t =
        let o = passed_offset r g j a b (offset_reads (shape_of r) J1j2free j known_shape h t) in
        record { fit = of_bits-fits binary64 _; sign = sign_either _; offset = within_is two_pi (field r Offset j) tt tt o }

  narrow_matrix : Matrix-within seventeen (job_of r).matrix
  unfolding job_of
  narrow_matrix = matrix_within (rotation_of r) (rotation_fits r)

  domain : Domain (job_of r)
  unfolding job_of arm_of arm_read joint_read
  domain =
      let l = limited_of (shape_of r) in
      let f = fixed_of (shape_of r) in
      record {
        matrix = narrow_matrix;
        first = λ k. add_within binary64 widest tt (arm J1free 2 k (omega arith) (omega arith) tt) (arm J1free 3 k (omega arith) (omega arith) tt);
        second = λ k. (wide J2free 1 k (omega arith) (omega arith) tt, wide J2free 3 k (omega arith) (omega arith) tt);
        both = λ k. record {
          arm = arm J1j2free 3 k (omega arith) (omega arith) tt;
          first = steady k 1 (omega arith) (omega arith) tt;
          second = steady k 2 (omega arith) (omega arith) tt;
          fourth = λ t. steady k 4 (omega arith) (omega arith) (fourth_read l f t);
          fifth = λ t. steady k 5 (omega arith) (omega arith) (fifth_read l f t);
          sixth = λ t. steady k 6 (omega arith) (omega arith) (sixth_read l f t);
        };
      }

  -- THEOREM: Every inner call of the root finder is fair.
  pub passed_fair : All Fair (inner_calls (job_of r))
  passed_fair = calls_fair (job_of r) domain

  none_refused : all_taken (inner_calls (job_of r)) ≡ true
  none_refused = all_fair_taken (inner_calls (job_of r)) passed_fair

  -- The same where joint 2 is sampled at each slice of kind 3, with the request's q3.
  pub passed_rows : (job_of r).kind ≡ J1j2free → All (λ a. All Fair (free_calls (free
      (J2free.arm_axes (record { q1 = a; q2 = zero_float; q3 = (job_of r).arm.q3 })) (job_of r) (job_of r).j2))) (all_slices (folded (job_of r)))
  passed_rows k =
      rows_fair (job_of r) (all_slices (folded (job_of r))) narrow_matrix (weaken widest tt (domain.both k).arm)
      (folded_small (job_of r) (reference_fits r g) (passed_moderate r g k))

pub inner_calls_fair : InnerCallsFair
inner_calls_fair e r h = passed_fair r (meets_passed e r h)

-- ---- the answers

need_same : (b : Bool) (k : ℕ) (v w : Answer) → (b ≡ true → v ≡ w) → need b k v ≡ need b k w
unfolding need
need_same true k v w h = h refl
need_same false k v w h = refl

-- what follows the tests counts for a request that passes
validate_behind : (e : Edition) (r : List ℕ) (v w : Answer) → (Passed e r → v ≡ w) → validate e r v ≡ validate e r w
unfolding validate
validate_behind e r v w h =
    need_same _ 1 _ _ (λ a.
    need_same _ 2 _ _ (λ b.
    need_same _ 41 _ _ (λ n.
    need_same _ 3 _ _ (λ c.
    need_same _ 4 _ _ (λ d.
    need_same _ 5 _ _ (λ f.
    need_same _ 6 _ _ (λ i.
    need_same _ 7 _ _ (λ j.
    need_same _ 8 _ _ (λ k.
    h (record { whole = eqb-true _ _ a; head = b; name = n; signs = c; rotation = d; nonzero = f; arm = i; references = j; offsets = k }))))))))))

by_request_same : (e : Edition) (r : List ℕ) (v : Answer) → WithNine.by_request e r v ≡ validate e r v
unfolding WithNine.by_request need
by_request_same e r v = validate_behind e r _ v (λ g. rw (none_refused r g))

answer_same : (r : List ℕ) (places room : ℕ) → WithNine.answer r places room ≡ answer r places room
unfolding WithNine.answer answer by_work
answer_same r places room = by_request_same _ r _

edition_same : (e : Edition) (s : List ℕ) (places : ℕ) → WithNine.check_edition e s places ≡ by_edition e s places
unfolding WithNine.check_edition by_edition meets_none
edition_same e s places = rw (by_request_same e (request_of e s) (accepted 0))

said_same : (k : Option Edition) (s : List ℕ) (places : ℕ) → WithNine.check_said k s places ≡ by_said k s places
unfolding WithNine.check_said by_said
said_same (Some e) s places = edition_same e s places
said_same None s places = refl

check_same : (upto : Edition) (s : List ℕ) (places : ℕ) → WithNine.check upto s places ≡ Check.answer upto s places
unfolding WithNine.check Check.answer
check_same upto s places = rw (said_same (known upto (edition_of s)) s places)

-- THEOREM: Every answer is what it was with refusal 9.
pub nine_as_before : NineAsBefore
nine_as_before = record { sampling = answer_same; check = check_same }
