-- What C gets of a result is the number of the operation's answer, and small counts fit.
use Rattle.std.proofs.Common.{ℕ, ◌<◌, ◌^◌, ◌≡◌, refl, arith, Result, Ok, Err, IfOk}
use Rattle.polynomial.specs.Operation as Roots
use Rattle.polynomial.specs.declared.refusals.Refusal as roots
use Rattle.sheet.specs.Refusals.{number, fault_number}
use Rattle.sheet.specs.Refusals as Refusals
use Rattle.std.proofs.Common.{List, length, sym}
use Rattle.sheet.specs.Edition.{newest}
use Rattle.sheet.specs.Laws.Demands.{checked_length}
use Rattle.sheet.specs.Laws.Accepted.{answer_room}
use Rattle.sheet.specs.Sampling as Sampling
use Rattle.sheet.specs.Check as Check
use Rattle.sheet.specs.declared.refusals.Refusal.{Refusal}
use Rattle.sheet.specs.declared.refusals.Fault.{Fault}
use Rattle.page.specs.Operation as Page
use Rattle.page.specs.declared.refusals.Refusal as page
use Rattle.lemongully.specs.Numbers.{signed}

pub signed_sampled : (a : Result ℕ Refusal) → signed number a ≡ Refusals.signed (Sampling.answer_of a)
signed_sampled (Ok n) = refl
signed_sampled (Err k) = refl

pub signed_checked : (a : Result ℕ Fault) → signed fault_number a ≡ Refusals.signed (Check.answer_of a)
signed_checked (Ok n) = refl
signed_checked (Err f) = refl

pub signed_page : (a : Result ℕ page.Refusal) → signed Page.number a ≡ Refusals.signed (Page.answer_of a)
signed_page (Ok n) = refl
signed_page (Err k) = refl

pub signed_roots : (a : Result ℕ roots.Refusal) → signed Roots.refusal_number a ≡ Roots.number a
signed_roots (Ok n) = refl
signed_roots (Err k) = refl

-- ---- a count that is small
pub small_sampled : (r : List ℕ) (places room : ℕ) (a : Result ℕ Refusal) → Sampling.answer_of a ≡ Sampling.answer r places room → room < 2 ^ 63
    → IfOk a (λ n. n < 2 ^ 63)
small_sampled r places room (Ok n) e h = let k = answer_room r places room n (sym e) in omega arith
small_sampled r places room (Err k) e h = tt

pub small_checked : (s : List ℕ) (places : ℕ) (a : Result ℕ Fault) → Check.answer_of a ≡ Check.answer newest s places → length s < 2 ^ 63
    → IfOk a (λ n. n < 2 ^ 63)
small_checked s places (Ok n) e h = let k = checked_length newest s places n (sym e) in omega arith
small_checked s places (Err f) e h = tt
