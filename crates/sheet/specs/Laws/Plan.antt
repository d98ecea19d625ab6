-- What inner functions find of a request that passed its tests is what the definitions say of it.
use Rattle.std.specs.Prelude.{ℕ, ◌≡◌, refl, ◌⊎◌, List, [], ◌∷◌, Bool, cond, ◌&&◌, length, get_or, T, eqb, leb, Float, Result, Ok, Err, Option, Some, None}
use Rattle.std.proofs.Common.{arith, sym, subst, ◌∙◌, inl, inr, leb-true, le-leb}
use Rattle.std.proofs.Math.Path.{ap}
use Rattle.std.proofs.Math.Bool.{true, false}
use Rattle.std.proofs.lemmas.Bool.{false≢true}
use Rattle.std.specs.Option.{option_map}
use Rattle.std.specs.Float.Ieee.{neg, le, fits, binary64}
use Rattle.std.specs.Float.Ieee.Scale.{finite}
use Rattle.std.specs.Float.Ieee.Bits.{of_bits-fits}
use Rattle.std.specs.Float.Ieee.Fits.{and_l, and_r, and_i}
use Rattle.float.specs.Number.{one_float}
use Rattle.float.specs.Laws.Le.{plain, yes_of, neg_finite}
use Rattle.float.specs.Laws.Tests.{and_left, and_right}
use Rattle.float.specs.Promises.Order.{Within}
use Rattle.float.specs.Laws.Interval.{in_of, in_within}
use Rattle.polynomial.specs.Angle.{two_pi}
use Rattle.sampling.specs.Reads.{joint_read, reference_read}
use Rattle.sampling.specs.Promises.Stream.{Step, start}
use Rattle.sampling.specs.Promises.Plan.{Moderate, Drawable, by_plan, plan, work_after, to_come, Ready, Gives, step}
use Rattle.sampling.proofs.Laws.Charts.{moderate_drawable}
use Rattle.sampling.proofs.Laws.Plan.{plan_by, plan_ready, plan_yields, places_ready, places_yield, step_gives}
use Rattle.sampling.specs.declared.stream.Cursor.{Cursor}
use Rattle.sampling.specs.declared.lists.Plan.{Plan}
use Rattle.sampling.specs.Angles as Angles
use Rattle.sampling.specs.declared.job.Kind.{Kind}
use Rattle.sampling.specs.declared.job.Kind.TheVariants.{J1free, J2free, J1j2free}
use Rattle.sampling.specs.declared.pose.Quaternion.{Quaternion}
use Rattle.sheet.specs.Edition.{newest}
use Rattle.sheet.specs.declared.edition.Edition.{Edition}
use Rattle.sheet.specs.declared.refusals.Refusal.{Refusal}
use Rattle.sampling.specs.declared.reads.Shape.{Shape}
use Rattle.sheet.specs.declared.request.Field.TheVariants.{Sign, Reference, Offset}
use Rattle.sheet.specs.Bytes.{words_bytes}
use Rattle.sheet.specs.Request.{shape_of, reads}
use Rattle.sheet.specs.Fields.{sign_of, joint_at, kind_of, job_of}
use Rattle.sheet.specs.Refusals.{number}
use Rattle.sheet.specs.Validate.{right, head_right, within}
use Rattle.sheet.specs.Sampling.{angles, items, cut_count, by_work, answer}
use Rattle.sheet.specs.Check.{is_accepted, meets_none}
use Rattle.sheet.specs.Promises.Floats.{floats_bytes}
use Rattle.sheet.specs.Promises.Tested.{tested, Passed}
use Rattle.sheet.specs.Promises.Plan.{PlannedFor, CameOf, work_tested, work_left, planned_answer}
use Rattle.sheet.specs.Laws.Bytes.{floats_words}
use Rattle.sheet.specs.Laws.Sampling.{length_items}
use Rattle.sheet.specs.Laws.Tested.{passed_validate, tested_refused, passed_reference, passed_offset}
use Rattle.sheet.specs.Refusals as Refusals

-- ---- kind 3 reads sign, offset and reference of joint 1

folded_reads : (s : Option Shape) → right s ≡ true → kind_of s ≡ J1j2free → T (reads s Sign 1 && (reads s Offset 1 && reads s Reference 1))
unfolding right kind_of reads joint_read reference_read
folded_reads None h e = absurd (false≢true h)
folded_reads (Some s) h e = go s.kind s.limits s.fixed e
  where
    go : (k : Kind) (l f : Bool) → k ≡ J1j2free → T (joint_read k l f 1 && (joint_read k l f 1 && reference_read k l f 1))
    go J1free l f e = let z : ◌≡◌ {A = ℕ} 0 1 = cc in absurd (omega arith)
    go J2free l f e = let z : ◌≡◌ {A = ℕ} 0 1 = cc in absurd (omega arith)
    go J1j2free l f e = tt

pub sign_either : (b : ℕ) → (sign_of b ≡ one_float) ⊎ (sign_of b ≡ neg one_float)
unfolding sign_of
sign_either b = go (eqb b 1)
  where
    go : (t : Bool) → (cond t one_float (neg one_float) ≡ one_float) ⊎ (cond t one_float (neg one_float) ≡ neg one_float)
    go true = inl refl
    go false = inr refl

pub within_is : (B x : Float) → T (finite B) → T (plain B) → within B x ≡ true → Within B x
unfolding within
within_is B x f p e =
    in_within p (in_of (neg B) B x (and_i (finite (neg B)) (finite B) (neg_finite B f) f) (yes_of (and_left (le (neg B) x) (le x B) e))
    (yes_of (and_right (le (neg B) x) (le x B) e)))

-- so the angles can be read off the plan
module _ {e : Edition} (r : List ℕ) (g : Passed e r) where
  pub passed_moderate : (job_of r).kind ≡ J1j2free → Moderate (job_of r).j1
  unfolding job_of joint_at head_right
  passed_moderate k =
      let t = folded_reads (shape_of r) (and_left _ _ g.head) k in
      let u = and_r (reads (shape_of r) Sign 1) _ t in
      record {
        sign = sign_either (get_or r 4 0);
        offset = within_is two_pi _ tt tt (passed_offset r g 1 (omega arith) (omega arith) (and_l (reads (shape_of r) Offset 1) _ u));
        reference = yes_of (passed_reference r g 1 (omega arith) (omega arith) (and_r (reads (shape_of r) Offset 1) _ u));
      }

  -- a reference is read from its bits
  pub reference_fits : T (fits binary64 (job_of r).j1.reference)
  unfolding job_of joint_at
  reference_fits = of_bits-fits binary64 _

  pub passed_drawable : Drawable (job_of r)
  passed_drawable = moderate_drawable (job_of r) reference_fits passed_moderate

  -- what comes of it, from work v, is its plan, or none where there are too few places
  module _ (s : Option Plan) (v w : List Float) (a : s ≡ plan (job_of r) (length v)) (b : w ≡ work_after (job_of r) v) (l : length w ≡ length v) where
    fits_by : (t : Bool) → by_plan s false true ≡ t → leb (cut_count r) (length w) ≡ t
    unfolding cut_count
    fits_by t e =
        go (leb (Angles.cut_count (job_of r)) (length w))
        (rw l (sym (plan_by false true (job_of r) (length v)) ∙ ap (λ (o : Option Plan). by_plan o false true) (sym a) ∙ e))
      where
        go : (u : Bool) → cond u true false ≡ t → u ≡ t
        go true h = h
        go false h = h

    pub fits_no : s ≡ None → leb (cut_count r) (length w) ≡ false
    fits_no e = fits_by false (ap (λ (o : Option Plan). by_plan o false true) e)

    module _ (p : Plan) (f : s ≡ Some p) where
      pub plan_asked : Ready p w
      plan_asked = rw b (plan_ready v (job_of r) reference_fits passed_moderate p (sym a ∙ f))

      pub planned_for : PlannedFor r p w
      unfolding angles
      planned_for =
          record {
            room = leb-true (cut_count r) (length w) (fits_by true (ap (λ (o : Option Plan). by_plan o false true) f));
            yields = rw b (plan_yields v (job_of r) reference_fits passed_moderate p (sym a ∙ f));
          }

    -- THEOREM: Of a request that passed its tests comes its plan, or none where there are too few places.
    pub came_of : CameOf r s w
    unfolding cut_count angles
    came_of =
        record {
          made = a ∙ ap (plan (job_of r)) (sym l);
          ready = rw (a, b) (places_ready v (job_of r) reference_fits passed_moderate);
          yields = λ k. rw (a, b) (places_yield v (job_of r) reference_fits passed_moderate (omega (arith, l)));
        }

-- ---- 10, by what came

module _ (r : List ℕ) (s : Option Plan) (w : List Float) (g : CameOf r s w) where
  -- THEOREM: There is no plan exactly where there are fewer places than cuts.
  pub came_short : by_plan s true false ≡ cond (leb (cut_count r) (length w)) false true
  unfolding cut_count
  came_short = ap (λ (o : Option Plan). by_plan o true false) g.made ∙ plan_by true false (job_of r) (length w)

  short_by : (t : Bool) → by_plan s true false ≡ t → leb (cut_count r) (length w) ≡ cond t false true
  short_by t e = go (leb (cut_count r) (length w)) (sym came_short ∙ e)
    where
      go : (u : Bool) → cond u false true ≡ t → u ≡ cond t false true
      go true h = ap (λ (k : Bool). cond k false true) h
      go false h = ap (λ (k : Bool). cond k false true) h

  pub came_none : s ≡ None → leb (cut_count r) (length w) ≡ false
  came_none e = short_by true (ap (λ (o : Option Plan). by_plan o true false) e)

  module _ (p : Plan) (f : s ≡ Some p) where
    pub came_some : leb (cut_count r) (length w) ≡ true
    came_some = short_by false (ap (λ (o : Option Plan). by_plan o true false) f)

    pub came_angles : to_come p w start ≡ angles r
    came_angles = same (ap (option_map (λ q. to_come q w start)) (sym f) ∙ g.yields (leb-true (cut_count r) (length w) came_some))
      where
        same : {x y : List Float} → ◌≡◌ {A = Option (List Float)} (Some x) (Some y) → x ≡ y
        same h = cc

    pub came_planned : PlannedFor r p w
    came_planned = record { room = leb-true (cut_count r) (length w) came_some; yields = came_angles }

-- ---- 10

module _ (r : List ℕ) (p : Plan) (w : List Float) (g : PlannedFor r p w) where
  pub fits_yes : leb (cut_count r) (length w) ≡ true
  fits_yes = le-leb (cut_count r) (length w) g.room

  pub found_angles : to_come p w start ≡ angles r
  found_angles = g.yields

  pub found_count : length (to_come p w start) ≡ length (items r)
  found_count = ap length found_angles ∙ sym (length_items r)

  pub found_items : floats_bytes (to_come p w start) ≡ words_bytes (items r)
  unfolding items
  found_items = ap floats_bytes found_angles ∙ floats_words (angles r)

pub ruleset planned = (fits_yes, found_count)

-- ---- the angles one at a time

module _ (p : Plan) (w : List Float) (c : Cursor) (t : Step) (g : Ready p w) (e : t ≡ step p w c) where
  gives : (s : Step) → t ≡ s → Gives (to_come p w c) (to_come p w) s
  gives s f = subst (Gives (to_come p w c) (to_come p w)) (sym e ∙ f) (step_gives p w c g)

  pub step_yields : (y : Float) (d : Cursor) → t ≡ Some (y, d) → to_come p w c ≡ y ∷ to_come p w d
  step_yields y d f = gives (Some (y, d)) f

  pub step_done : t ≡ None → to_come p w c ≡ []
  step_done f = gives None f

-- ---- work, before it is cleared

pub left_passed : (e : Edition) (r : List ℕ) (q : Quaternion) (v w : List Float) → tested e r ≡ Ok q → w ≡ work_after (job_of r) v
    → w ≡ work_left e r v
left_passed e r q v w h f = f ∙ sym (ap (λ (t : Result Quaternion Refusal). work_tested t r v) h)

pub left_refused : (e : Edition) (r : List ℕ) (k : Refusal) (w : List Float) → tested e r ≡ Err k → w ≡ work_left e r w
left_refused e r k w h = sym (ap (λ (t : Result Quaternion Refusal). work_tested t r w) h)

-- ---- Sampling

pub passed_answer : (r : List ℕ) (places room : ℕ) → Passed newest r → planned_answer r places room ≡ answer r places room
unfolding answer by_work planned_answer
passed_answer r places room p = sym (passed_validate newest r _ p)

pub refused_answer : (r : List ℕ) (k : Refusal) (places room : ℕ) → tested newest r ≡ Err k → Refusals.refused (number k) ≡ answer r places room
unfolding answer by_work
refused_answer r k places room e = sym (tested_refused newest r k _ e)

-- ---- Check

pub refused_meets : (e : Edition) (r : List ℕ) (k : Refusal) → tested e r ≡ Err k → meets_none e r ≡ false
unfolding meets_none
refused_meets e r k h = ap is_accepted (tested_refused e r k _ h)
