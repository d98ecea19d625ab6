-- What is known of a request that Sampling accepts.
use Rattle.std.specs.Prelude.{ℕ, ◌≤◌, ◌≡◌, refl, List, true, length, leb}
use Rattle.std.proofs.Common.{arith, ap, ◌∙◌, leb-true}
use Rattle.std.proofs.Math.Path.{sym}
use Rattle.std.proofs.lemmas.Bool.{false≢true}
use Rattle.sheet.specs.Refusals.{Answer, accepted, refused, need}
use Rattle.sheet.specs.Validate.{validate}
use Rattle.sheet.specs.Sampling.{items, cut_count, by_work, answer, before_output}
use Rattle.sheet.specs.Edition.{newest}
use Rattle.sheet.specs.Sheet.{sheet_size}
use Rattle.sheet.specs.declared.edition.Edition.{Edition}
use Rattle.sheet.specs.Check.{is_accepted, meets_none}
use Rattle.sheet.specs.Promises.Tested.{Passed}
use Rattle.sheet.specs.Laws.Tested.{need_holds, need_accepted, validate_passed, passed_validate}

-- what refusals 1 to 8, 41 and 10 say of a request behind which something is accepted
module _ (e : Edition) (r : List ℕ) (places n : ℕ) (v : Answer) (h : by_work e r places v ≡ accepted n) where
  pub work_passed : Passed e r
  unfolding by_work
  work_passed = validate_passed e r n _ h

  later : need (leb (cut_count r) places) 10 v ≡ accepted n
  unfolding by_work
  later = sym (passed_validate e r _ work_passed) ∙ h

  pub work_fits : leb (cut_count r) places ≡ true
  work_fits = need_holds (leb (cut_count r) places) 10 n v later

  pub work_then : v ≡ accepted n
  work_then = need_accepted (leb (cut_count r) places) 10 n v later

pub work_on : (e : Edition) (r : List ℕ) (places : ℕ) (v : Answer) → Passed e r → leb (cut_count r) places ≡ true → by_work e r places v ≡ v
unfolding by_work need
work_on e r places v p f = passed_validate e r _ p ∙ rw f

module _ (e : Edition) (r : List ℕ) (places n : ℕ) (h : before_output e r places ≡ accepted n) where
  pub before_passed : Passed e r
  before_passed = work_passed e r places n _ h

  pub before_count : n ≡ length (items r)
  before_count =
      let q : accepted (length (items r)) ≡ accepted n = work_then e r places n _ h in
      cc

module _ (r : List ℕ) (places room n : ℕ) (e : answer r places room ≡ accepted n) where
  fit : need (leb (sheet_size newest (length (items r))) room) 11 (accepted (length (items r))) ≡ accepted n
  unfolding answer
  fit = work_then newest r places n _ e

  pub answer_passed : Passed newest r
  unfolding answer
  answer_passed = work_passed newest r places n _ e

  pub answer_count : n ≡ length (items r)
  answer_count =
      let h : accepted (length (items r)) ≡ accepted n = need_accepted (leb (sheet_size newest (length (items r))) room) 11 n _ fit in
      cc

  -- the sheet has room
  pub answer_room : sheet_size newest n ≤ room
  answer_room =
      omega
      (arith, answer_count, leb-true (sheet_size newest (length (items r))) room (need_holds (leb (sheet_size newest (length (items r))) room) 11 n _ fit))

-- a request that meets none of 1 to 8 and 41
pub meets_passed : (e : Edition) (r : List ℕ) → meets_none e r ≡ true → Passed e r
unfolding meets_none
meets_passed e r h = go (validate e r (accepted 0)) refl h
  where
    go : (a : Answer) → validate e r (accepted 0) ≡ a → is_accepted a ≡ true → Passed e r
    go (accepted k) q t = validate_passed e r k _ q
    go (refused k) q t = absurd (false≢true t)

pub passed_meets : (e : Edition) (r : List ℕ) → Passed e r → meets_none e r ≡ true
unfolding meets_none
passed_meets e r p = ap is_accepted (passed_validate e r _ p)
