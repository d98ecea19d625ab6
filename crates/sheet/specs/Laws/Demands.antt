-- The demands, proved of the definitions.
use Rattle.std.specs.Prelude.{ℕ, ◌+◌, ◌-◌, ◌*◌, ◌≤◌, ◌<◌, ◌≡◌, refl, ◌↔◌, List, Bool, true, false, length, take, drop, T, eqb, leb, ltb, Option, Some, None}
use Rattle.std.proofs.Common.{arith, sym, ap, ◌∙◌, take_at, length-take-le}
use Rattle.float.specs.Laws.Tests.{and_right}
use Rattle.sampling.proofs.Laws.Angles.{angles_few}
use Rattle.sheet.specs.Bytes.{words_bytes, same_bytes}
use Rattle.sheet.specs.Edition.{number, newest, known}
use Rattle.sheet.specs.Request.{core_size, request_size, blank, Agree}
use Rattle.sheet.specs.Fields.{job_of}
use Rattle.sheet.specs.Validate.{head_right, validate}
use Rattle.sheet.specs.Refusals.{Answer, accepted, refused, need}
use Rattle.sheet.specs.Sheet.{trailer, trailer_size, frame_size, items_bound, sheet_size}
use Rattle.sheet.specs.Sampling.{angles, items, cut_count, by_work, answer, before_output, sheet, output_after}
use Rattle.sheet.specs.Check.{trailer_of, count_of, edition_of, request_of, items_of, formed, meets_none, clean}
use Rattle.sheet.specs.Demands.{of_sampling, of_check, Among, Answers, Leaves, Counted, Faithful, OtherEdition, Written, Sound, Complete, Exact, Few}
use Rattle.sheet.specs.Demands.{SameAnswer, SameAngles, SameSheet, Together}
use Rattle.sheet.specs.Promises.Plan.{compared, checked}
use Rattle.sheet.specs.declared.edition.Edition.{Edition}
use Rattle.sheet.specs.Laws.Bytes.{length_words_bytes, same_is, same_itself}
use Rattle.sheet.specs.Laws.Places.{core_least}
use Rattle.sheet.specs.Laws.Agree.{core_of, agree_blank, blank_agree, agree_own, blank_twice}
use Rattle.sheet.specs.Laws.Validate.{name_same}
use Rattle.sheet.specs.Laws.Tested.{need_holds, need_accepted}
use Rattle.sheet.specs.Laws.Sampling.{length_items, length_sheet}
use Rattle.sheet.specs.Laws.Faithful.{angle_at}
use Rattle.sheet.specs.Laws.Check.{formed_length, edition_formed, answer_known, answer_unknown, known_number, known_said, known_upto}
use Rattle.sheet.specs.Laws.Alike.{angles_same, items_same, answer_same, before_same}
use Rattle.sheet.specs.Laws.Accepted.{work_passed, work_fits, work_on, before_passed, before_count}
use Rattle.sheet.specs.Laws.Accepted.{answer_passed, answer_count, meets_passed, passed_meets}
use Rattle.sheet.specs.Laws.Written.{cut, size, says, items_in, request_in, count_in, formed_in}
use Rattle.sheet.specs.Check as Check

-- ---- demands 1 and 2

-- one refusal more: a number that may be, in front of an answer that may be
among_need : (p : ℕ → Bool) (b : Bool) (k : ℕ) (v : Answer) → T (p k) → Among p v → Among p (need b k v)
unfolding need
among_need p true k v t w = w
among_need p false k v t w = t

of_validate : (e : Edition) (r : List ℕ) (v : Answer) → Among of_sampling v → Among of_sampling (validate e r v)
unfolding validate
of_validate e r v w =
    among_need of_sampling _ 1 _ tt
    (among_need of_sampling _ 2 _ tt
    (among_need of_sampling _ 41 _ tt
    (among_need of_sampling _ 3 _ tt
    (among_need of_sampling _ 4 _ tt
    (among_need of_sampling _ 5 _ tt
    (among_need of_sampling _ 6 _ tt
    (among_need of_sampling _ 7 _ tt
    (among_need of_sampling _ 8 v tt w))))))))

of_edition : (e : Edition) (s : List ℕ) (places : ℕ) → Among of_check (Check.by_edition e s places)
unfolding Check.by_edition
of_edition e s places =
    among_need of_check _ 32 _ tt
    (among_need of_check _ 33 _ tt
    (among_need of_check _ 34 _ tt (among_need of_check _ 35 _ tt (among_need of_check _ 36 (accepted (count_of s)) tt tt))))

of_said : (t : Option Edition) (s : List ℕ) (places : ℕ) → Among of_check (Check.by_said t s places)
unfolding Check.by_said
of_said (Some e) s places = of_edition e s places
of_said None s places = tt

pub answers : Answers
unfolding answer by_work Check.answer
answers =
    record {
      sampling = λ r places room.
          of_validate newest r _
          (among_need of_sampling _ 10 _ tt (among_need of_sampling _ 11 (accepted (length (items r))) tt tt));
      check = λ upto s places. among_need of_check _ 31 _ tt (of_said (known upto (edition_of s)) s places);
    }

pub leaves : Leaves
leaves r output k = refl

pub counted : Counted
counted r places room n e =
    let k = answer_count r places room n e in
    (k ∙ length_items r, length_sheet newest r (answer_passed r places room n e).whole ∙ ap (sheet_size newest) (sym k))

pub faithful : Faithful
faithful r places room n e i h = angle_at newest r i (omega (arith, answer_count r places room n e))

-- what is equal where Check accepts
record Parts (e : Edition) (r a : List ℕ) (m n places : ℕ) : Type 0 where
  meets : meets_none e r ≡ true
  unread : blank r ≡ r
  fits : leb (cut_count r) places ≡ true
  bytes : a ≡ words_bytes (items r)
  number : m ≡ n

checked_parts : (e : Edition) (r a : List ℕ) (m n places : ℕ) → checked e r a m places ≡ accepted n → Parts e r a m n places
unfolding checked compared
checked_parts e r a m n places q =
    let f = need_accepted (meets_none e r) 33 n _ q in
    let g = need_accepted (clean r) 34 n _ f in
    let h = need_accepted (leb (cut_count r) places) 35 n _ g in
    let i : accepted m ≡ accepted n = need_accepted (same_bytes a (words_bytes (items r))) 36 n _ h in
    record {
      meets = need_holds (meets_none e r) 33 n _ q;
      unread = same_is _ _ (need_holds (clean r) 34 n _ f);
      fits = need_holds (leb (cut_count r) places) 35 n _ g;
      bytes = same_is _ _ (need_holds (same_bytes a (words_bytes (items r))) 36 n _ h);
      number = cc;
    }

-- what an edition accepts it lays out
module _ (e : Edition) (s : List ℕ) (places n : ℕ) (q : Check.by_edition e s places ≡ accepted n) where
  is_formed : formed e s ≡ true
  unfolding Check.by_edition
  is_formed = need_holds (formed e s) 32 n _ q

  parts : Parts e (request_of e s) (items_of e s) (count_of s) n places
  parts = checked_parts e (request_of e s) (items_of e s) (count_of s) n places (sym (edition_formed e s places is_formed) ∙ q)

  same_count : count_of s ≡ length (items (request_of e s))
  same_count =
      omega (
        arith,
        formed_length e s is_formed,
        length_words_bytes (items (request_of e s)),
        ap length parts.bytes,
        length-take-le (length s - frame_size e) s (omega arith),
      )

  laid_out : s ≡ sheet e (request_of e s)
  unfolding formed sheet
  laid_out =
      let t : trailer_of s ≡ trailer e (count_of s) = same_is _ _
      (and_right (ltb (count_of s) items_bound) _ (and_right (eqb (length s) (sheet_size e (count_of s))) _ is_formed)) in
      cut e s (omega (arith, formed_length e s is_formed)) ∙ rw (parts.bytes, t, same_count, parts.unread)

  accepts_inside : before_output e (request_of e s) places ≡ accepted n
  accepts_inside =
      let p = meets_passed e (request_of e s) parts.meets in
      work_on e (request_of e s) places (accepted (length (items (request_of e s)))) p parts.fits
      ∙ ap accepted (sym same_count ∙ parts.number)

-- an edition that is known has a number up to that of the newest
known_least : (upto e : Edition) (k : ℕ) → known upto k ≡ Some e → number e ≤ number upto
known_least upto e k h = omega (arith, known_said upto e k h, known_upto upto e k h)

pub sound : Sound
unfolding Check.answer Check.by_said
sound upto s places n q = go (known upto (edition_of s)) refl (need_accepted (leb (core_size + trailer_size) (length s)) 31 n _ q)
  where
    go : (t : Option Edition) → known upto (edition_of s) ≡ t → Check.by_said t s places ≡ accepted n → Written upto s places n
    go (Some e) k a =
        record {
          edition = e;
          is_known = known_least upto e (edition_of s) k;
          whole = laid_out e s places n a;
          accepts = accepts_inside e s places n a;
        }
    go None k a = let z : ◌≡◌ {A = ℕ} 0 1 = cc in absurd (omega arith)

-- an accepted sheet has the length of its n angles, in one of the editions
pub checked_length : (upto : Edition) (s : List ℕ) (places n : ℕ) → Check.answer upto s places ≡ accepted n → core_size + trailer_size + 8 * n ≤ length s
checked_length upto s places n q =
    let p = sound upto s places n q in
    let r = request_of p.edition s in
    omega (
      arith,
      ap length p.whole,
      length_sheet p.edition r (before_passed p.edition r places n p.accepts).whole,
      before_count p.edition r places n p.accepts,
      core_least p.edition,
    )

-- its request passes for what it is
checked_own : (e : Edition) (r : List ℕ) (m n places : ℕ) → before_output e r places ≡ accepted n → blank r ≡ r
    → checked e r (words_bytes (items r)) m places ≡ accepted m
unfolding checked compared need
checked_own e r m n places q f =
    let p = work_passed e r places n _ q in
    rw (passed_meets e r p, f, same_itself r, work_fits e r places n _ q, same_itself (words_bytes (items r)))

pub few : Few
few = angles_few

pub few_items : (r : List ℕ) → length (items r) < items_bound
unfolding angles
few_items r =
    let f : length (angles r) < items_bound = few (job_of r) in
    omega (arith, length_items r)

-- what an edition lays out it accepts
own_edition : (e : Edition) (r : List ℕ) (places n : ℕ) → before_output e r places ≡ accepted n → Check.by_edition e (sheet e r) places ≡ accepted n
own_edition e r places n q =
    let p = before_passed e r places n q in
    let h = few_items r in
    let own : Agree e r (blank r) = agree_own e r p.whole in
    let a : items_of e (sheet e r) ≡ words_bytes (items (blank r)) =
    items_in e r p.whole ∙ ap words_bytes (items_same r (blank r) (core_of own) p.head) in
    let b = before_same r (blank r) (core_of own) e e own.whole own.whole' (name_same r (blank r) own) places in
    let c : count_of (sheet e r) ≡ n = count_in e r p.whole h ∙ sym (before_count e r places n q) in
    edition_formed e (sheet e r) places (formed_in e r p.whole h)
    ∙ ap (λ (x : List ℕ). checked e x (items_of e (sheet e r)) (count_of (sheet e r)) places) (request_in e r p.whole)
    ∙ ap (λ (l : List ℕ). checked e (blank r) l (count_of (sheet e r)) places) a
    ∙ checked_own e (blank r) (count_of (sheet e r)) n places (sym b ∙ q) (blank_twice e r p.whole)
    ∙ ap accepted c

pub complete : Complete
complete upto e r places n k q =
    let p = before_passed e r places n q in
    sym
    (answer_known upto (sheet e r) places (omega (arith, size e r p.whole, core_least e)) e
    (ap (known upto) (says e r p.whole) ∙ known_number upto e k))
    ∙ own_edition e r places n q

pub other_edition : OtherEdition
other_edition upto s places h n = go (known upto (edition_of s)) refl
  where
    go : (t : Option Edition) → known upto (edition_of s) ≡ t → Check.answer upto s places ≡ refused 32
    go (Some e) k = absurd (n e (known_least upto e (edition_of s) k) (known_said upto e (edition_of s) k))
    go None k = sym (answer_unknown upto s places h k)

pub exact : Exact
exact upto s places n = (
  sound upto s places n,
  λ p.
      ap (λ (x : List ℕ). Check.answer upto x places) p.whole
      ∙ complete upto p.edition (request_of p.edition s) places n p.is_known p.accepts,
)

-- ---- demand 3

pub same_answer : SameAnswer
same_answer r s g places room = answer_same r s (core_of g) (g.whole ∙ sym g.whole') (name_same r s g) places room

pub same_angles : SameAngles
same_angles r s g h = angles_same r s (core_of g) h

one_sheet : (r s : List ℕ) → Agree newest r s → head_right r ≡ true → sheet newest r ≡ sheet newest s
unfolding sheet
one_sheet r s g h = rw (items_same r s (core_of g) h, agree_blank r s g)

-- requests of an edition whose sheets are equal agree
pub sheets_agree : (e : Edition) (r s : List ℕ) → length r ≡ request_size e → length s ≡ request_size e → sheet e r ≡ sheet e s → Agree e r s
sheets_agree e r s a b q = blank_agree e r s a b (sym (request_in e r a) ∙ ap (request_of e) q ∙ request_in e s b)

pub same_sheet : SameSheet
same_sheet r s places room n places' room' n' p q =
    let a = answer_passed r places room n p in
    let b = answer_passed s places' room' n' q in
    (sheets_agree newest r s a.whole b.whole, λ g. one_sheet r s g a.head)

-- ---- the same of two calls

-- the first bytes of an output after a call that accepts are the sheet
sheet_first : (r x x₀ : List ℕ) (places room n : ℕ) (a : Answer) → a ≡ answer r places room → x ≡ output_after a r x₀ → a ≡ accepted n
    → take (sheet_size newest n) x ≡ sheet newest r
sheet_first r x x₀ places room n a p q e =
    ap (take (sheet_size newest n)) (q ∙ ap (λ (v : Answer). output_after v r x₀) e)
    ∙ take_at (sheet newest r) (drop (sheet_size newest n) x₀) (sheet_size newest n) (counted r places room n (sym p ∙ e)).1

pub together : (r s x y x₀ y₀ : List ℕ) (places places' : ℕ) (a b : Answer) → length x ≡ length x₀ → length y ≡ length y₀
    → a ≡ answer r places (length x₀) → b ≡ answer s places' (length y₀) → x ≡ output_after a r x₀ → y ≡ output_after b s y₀
    → Together r s places places' a b x y
together r s x y x₀ y₀ places places' a b k l p q e f =
    record {
      answers = λ j h g.
          p ∙ same_answer r s g places (length x₀) ∙ ap (answer s places) (sym k ∙ h ∙ l) ∙ ap (λ (i : ℕ). answer s i (length y₀)) j ∙ sym q;
      sheets = λ n m h i.
          let t : (sheet newest r ≡ sheet newest s) ↔ Agree newest r s = same_sheet r s places (length x₀) n places' (length y₀) m (sym p ∙ h) (sym q ∙ i) in
          rw (sheet_first r x x₀ places (length x₀) n a p e h, sheet_first s y y₀ places' (length y₀) m b q f i) t;
    }
