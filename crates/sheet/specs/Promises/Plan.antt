-- What inner functions of Sampling and Check promise one another of a request's plan. Definitions only; `Laws.Plan` joins them to `Sampling` and `Check`.
use Rattle.std.specs.Prelude.{ℕ, ◌+◌, ◌≤◌, ◌≡◌, cond, List, length, leb, Float, Result, Ok, Err, Option, Some, None, IfSome}
use Rattle.std.specs.Option.{option_map}
use Rattle.sampling.specs.Promises.Stream.{start}
use Rattle.sampling.specs.Promises.Plan.{plan, work_after, Ready, to_come}
use Rattle.sampling.specs.declared.lists.Plan.{Plan}
use Rattle.sheet.specs.Bytes.{words_bytes, same_bytes}
use Rattle.sheet.specs.Fields.{job_of}
use Rattle.sheet.specs.Refusals.{Answer, accepted, need}
use Rattle.sheet.specs.Edition.{newest, known}
use Rattle.sheet.specs.Sampling.{angles, items, cut_count}
use Rattle.sheet.specs.Request.{core_size}
use Rattle.sheet.specs.Sheet.{trailer_size, sheet_size}
use Rattle.sheet.specs.Check.{request_of, edition_of, formed, clean, meets_none}
use Rattle.sheet.specs.Promises.Tested.{tested}
use Rattle.sheet.specs.declared.edition.Edition.{Edition}
use Rattle.sheet.specs.declared.refusals.Refusal.{Refusal}
use Rattle.sampling.specs.declared.pose.Quaternion.{Quaternion}

-- the plan for a request that passed its tests, whose cuts stand in w
pub record PlannedFor (r : List ℕ) (p : Plan) (w : List Float) : Type 0 where
  pub room : cut_count r ≤ length w
  pub yields : to_come p w start ≡ angles r

-- what comes of a request that passed its tests, a plan or none: it is the job's, its angles can be asked, and where there are places they are the request's
pub record CameOf (r : List ℕ) (s : Option Plan) (w : List Float) : Type 0 where
  pub made : s ≡ plan (job_of r) (length w)
  pub ready : IfSome s (λ p. Ready p w)
  pub yields : cut_count r ≤ length w → option_map (λ p. to_come p w start) s ≡ Some (angles r)

-- what work holds before it is cleared: what the plan leaves of a request that passed its tests, else what it held
abbrev pub work_tested : Result Quaternion Refusal → List ℕ → List Float → List Float
work_tested (Ok q) r w = work_after (job_of r) w
work_tested (Err k) r w = w

abbrev pub work_left : Edition → List ℕ → List Float → List Float
work_left e r w = work_tested (tested e r) r w

-- the same of the request in a sheet of an edition, if it is formed, and of any sheet
unfoldable pub work_by : Edition → List ℕ → List Float → List Float
work_by e s w = cond (formed e s) (work_left e (request_of e s) w) w

unfoldable pub work_said : Option Edition → List ℕ → List Float → List Float
work_said (Some e) s w = work_by e s w
work_said None s w = w

unfoldable pub work_checked : List ℕ → List Float → List Float
work_checked s w = cond (leb (core_size + trailer_size) (length s)) (work_said (known newest (edition_of s)) s w) w

-- Sampling of a request that passed its tests: 10 and 11
unfoldable pub planned_answer : List ℕ → ℕ → ℕ → Answer
planned_answer r places room =
    need (leb (cut_count r) places) 10 (need (leb (sheet_size newest (length (items r))) room) 11 (accepted (length (items r))))

-- Check of a formed sheet with the request r, the items' bytes a and the number n: 33 to 36, and 34 to 36 of one whose request meets none of 1 to 8 and 41
unfoldable pub compared : List ℕ → List ℕ → ℕ → ℕ → Answer
compared r a n places = need (clean r) 34 (need (leb (cut_count r) places) 35 (need (same_bytes a (words_bytes (items r))) 36 (accepted n)))

unfoldable pub checked : Edition → List ℕ → List ℕ → ℕ → ℕ → Answer
checked e r a n places = need (meets_none e r) 33 (compared r a n places)
