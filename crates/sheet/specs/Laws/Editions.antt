-- What the editions promise (02, change 2): a check built earlier refuses what an edition that it does not know lays out, an older sheet is checked as
-- before, and the name alters neither angle nor answer.
use Rattle.std.specs.Prelude.{ℕ, ◌+◌, ◌≤◌, ◌<◌, ◌≡◌, refl, List, Bool, true, false, length, take, get_or, eqb, leb, Option, Some, None}
use Rattle.std.proofs.Common.{arith, sym, ◌∙◌, drop_of_length-le, get_or-take, take-take, length-take-le, eqb-true, eq-eqb}
use Rattle.std.proofs.Math.Path.{ap}
use Rattle.std.specs.Float.Ieee.{of_bits}
use Rattle.std.specs.Float.{binary64}
use Rattle.sheet.specs.Bytes.{little_endian, float_at}
use Rattle.sheet.specs.Edition.{number, newest, known}
use Rattle.sheet.specs.Request.{core_size, request_size, place}
use Rattle.sheet.specs.Fields.{joint_at, rotation_of, arm_of, job_of}
use Rattle.sampling.specs.Pose.{try_normalize}
use Rattle.sheet.specs.Validate.{head_right, is_name, name_right, signs_right, rotation_finite, rotation_nonzero, arm_within, references_finite}
use Rattle.sheet.specs.Validate.{offsets_within, validate}
use Rattle.sheet.specs.Refusals.{Answer, accepted, refused, need}
use Rattle.sheet.specs.Sheet.{trailer_size}
use Rattle.sheet.specs.Sampling.{angles, sheet}
use Rattle.sheet.specs.Check.{edition_of, formed, by_said, by_edition}
use Rattle.sheet.specs.Demands.{EarlierRefuses, OlderAsBefore, ByNameAlone, Unnamed}
use Rattle.sheet.specs.declared.edition.Edition.{Edition}
use Rattle.sheet.specs.declared.edition.Edition.TheVariants.{One, Two}
use Rattle.sheet.specs.declared.request.Field.TheVariants.{Sign, Reference, Offset, From, To}
use Rattle.sheet.specs.Laws.Places.{core_least, place_fits}
use Rattle.sheet.specs.Laws.Validate.{one_name}
use Rattle.sheet.specs.Laws.Agree.{Core, as_much, same_shape, stretch}
use Rattle.sheet.specs.Laws.Alike.{answer_same, before_same}
use Rattle.sheet.specs.Laws.Check.{answer_unknown, known_number, not_known, known_said, known_upto, edition_unformed, formed_edition}
use Rattle.sheet.specs.Laws.Accepted.{answer_passed}
use Rattle.sheet.specs.Laws.Written.{size, says}
use Rattle.sheet.specs.Laws.Demands.{sound, exact, sheets_agree}
use Rattle.sampling.specs.Angles as Angles
use Rattle.sheet.specs.Check as Check

-- ---- sheets of a later edition

pub later_refused : (upto e : Edition) → number upto < number e → (r : List ℕ) → length r ≡ request_size e → (places : ℕ)
    → Check.answer upto (sheet e r) places ≡ refused 32
later_refused upto e h r w places =
    sym
    (answer_unknown upto (sheet e r) places (omega (arith, size e r w, core_least e)) (ap (known upto) (says e r w) ∙ not_known upto e h))

pub earlier_refuses : EarlierRefuses
earlier_refuses r places room n q places' = later_refused One newest (omega arith) r (answer_passed r places room n q).whole places'

-- ---- sheets of an older edition

-- two checks that know an edition answer alike where the trailer says it
pub known_alike : (upto upto' e : Edition) → number e ≤ number upto → number e ≤ number upto' → (s : List ℕ) (places : ℕ) → edition_of s ≡ number e
    → Check.answer upto s places ≡ Check.answer upto' s places
unfolding Check.answer
known_alike upto upto' e h h' s places q = rw (q, known_number upto e h, known_number upto' e h')

-- what a check accepts, one that knows more editions accepts
pub accepts_more : (upto upto' : Edition) → number upto ≤ number upto' → (s : List ℕ) (places n : ℕ) → Check.answer upto s places ≡ accepted n
    → Check.answer upto' s places ≡ accepted n
accepts_more upto upto' h s places n q =
    let p = sound upto s places n q in
    (exact upto' s places n).1
    (record { edition = p.edition; is_known = omega (arith, p.is_known); whole = p.whole; accepts = p.accepts })

pub older_as_before : OlderAsBefore
older_as_before =
    record {
      answers = known_alike newest One One (omega arith) (omega arith);
      accepts = accepts_more One newest (omega arith);
    }

-- ---- the check that knows only edition 1 is 01's

-- it goes on as 01's does whatever the trailer says: where that is not edition 1, the sheet is not formed
said_one : (s : List ℕ) (places : ℕ) (t : Option Edition) → known One (edition_of s) ≡ t → Check.by_said t s places ≡ Check.by_edition One s places
unfolding Check.by_said
said_one s places (Some One) k = refl
said_one s places (Some Two) k = absurd (omega (arith, known_said One Two (edition_of s) k, known_upto One Two (edition_of s) k))
said_one s places None k = go (formed One s) refl
  where
    go : (b : Bool) → formed One s ≡ b → refused 32 ≡ Check.by_edition One s places
    go true f =
        let q : Some One ≡ None = sym (known_number One One (omega arith)) ∙ ap (known One) (sym (formed_edition One s f)) ∙ k in
        let z : ◌≡◌ {A = ℕ} 0 1 = cc in
        absurd (omega arith)
    go false f = edition_unformed One s places f

pub base_check : (s : List ℕ) (places : ℕ)
    → Check.answer One s places ≡ need (leb (core_size + trailer_size) (length s)) 31 (Check.by_edition One s places)
unfolding Check.answer
base_check s places = ap (need (leb (core_size + trailer_size) (length s)) 31) (said_one s places (known One (edition_of s)) refl)

-- and the tests of its request are 01's: one of 264 bytes has no name that could be wrong
no_name : (r : List ℕ) → eqb (length r) core_size ≡ true → name_right r ≡ true
unfolding name_right is_name
no_name r q =
    let h : length r ≤ core_size = omega (arith, eqb-true (length r) core_size q) in
    rw (drop_of_length-le r h)

without : (b h n : Bool) (v : Answer) → (b ≡ true → n ≡ true) → need b 1 (need h 2 (need n 41 v)) ≡ need b 1 (need h 2 v)
unfolding need
without true h n v f = rw (f refl)
without false h n v f = refl

pub base_tests : (r : List ℕ) (v : Answer)
    → validate One r v
    ≡ need (eqb (length r) core_size) 1
    (need (head_right r) 2
    (need (signs_right r) 3
    (need (rotation_finite (try_normalize (rotation_of r))) 4
    (need (rotation_nonzero (try_normalize (rotation_of r))) 5
    (need (arm_within r) 6
    (need (references_finite r) 7
    (need (offsets_within r) 8
    v)))))))
unfolding validate
base_tests r v = without (eqb (length r) core_size) (head_right r) (name_right r) _ (no_name r)

-- ---- the name

-- two requests with the same first 264 bytes
module _ (r s : List ℕ) (a : core_size ≤ length r) (b : core_size ≤ length s) (q : take core_size r ≡ take core_size s) where
  byte : (i : ℕ) → i < core_size → get_or r i 0 ≡ get_or s i 0
  byte i h = sym (get_or-take core_size r i 0 h) ∙ ap (λ (l : List ℕ). get_or l i 0) q ∙ get_or-take core_size s i 0 h

  core : Core r s
  core = record { least = a; least' = b; same = λ i h t. byte i h }

  float : (at : ℕ) → at + 8 ≤ core_size → float_at r at ≡ float_at s at
  float at h = ap (λ (l : List ℕ). of_bits binary64 (little_endian l)) (stretch r s at 8 (as_much r s core at 8 h) (λ i c d. byte i (omega arith)))

  rotation_alike : rotation_of r ≡ rotation_of s
  unfolding rotation_of
  rotation_alike = rw (float 16 (omega arith), float 24 (omega arith), float 32 (omega arith), float 40 (omega arith))

  arm_alike : arm_of r ≡ arm_of s
  unfolding arm_of
  arm_alike = rw (float 48 (omega arith), float 56 (omega arith), float 64 (omega arith))

  joint_alike : (j : ℕ) → 1 ≤ j → j ≤ 6 → joint_at r j ≡ joint_at s j
  unfolding joint_at
  joint_alike j c d =
      rw (
        byte (place Sign j) (omega (arith, place_fits Sign j c d)),
        float (place Offset j) (place_fits Offset j c d),
        float (place Reference j) (place_fits Reference j c d),
        float (place From j) (place_fits From j c d),
        float (place To j) (place_fits To j c d),
      )

  job_alike : job_of r ≡ job_of s
  unfolding job_of
  job_alike =
      rw (
        same_shape r s core,
        rotation_alike,
        arm_alike,
        joint_alike 1 (omega arith) (omega arith),
        joint_alike 2 (omega arith) (omega arith),
        joint_alike 4 (omega arith) (omega arith),
        joint_alike 5 (omega arith) (omega arith),
        joint_alike 6 (omega arith) (omega arith),
      )

  angles_alike : angles r ≡ angles s
  unfolding angles
  angles_alike = ap Angles.angles job_alike

pub by_name_alone : ByNameAlone
by_name_alone r s g =
    let a : core_size ≤ length r = omega (arith, g.whole) in
    let b : core_size ≤ length s = omega (arith, g.whole') in (
      angles_alike r s a b g.core,
      answer_same r s (core r s a b g.core) (g.whole ∙ sym g.whole'),
      λ e. g.names (one_name r s (sheets_agree newest r s g.whole g.whole' e)),
    )

pub unnamed : Unnamed
unnamed r w =
    let s = take core_size r in
    let a : core_size ≤ length r = omega (arith, w) in
    let l : length s ≡ core_size = length-take-le core_size r a in
    let q : take core_size s ≡ take core_size r = take-take core_size core_size r (omega arith) in
    let b : core_size ≤ length s = omega (arith, l) in (
      angles_alike s r b a q,
      λ n. before_same s r (core s r b a q) One newest l w (no_name s (eq-eqb (length s) core_size l) ∙ sym n),
    )
