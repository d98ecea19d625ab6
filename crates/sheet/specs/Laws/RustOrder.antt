-- Every answer of Sampling and Check, and every sheet, is what it was with the pairs of curves in the Rust's order (02, change 3).
use Rattle.std.specs.Prelude.{ℕ, ◌≡◌, refl, List, map, Option, Some, None}
use Rattle.std.proofs.Common.{ap}
use Rattle.std.specs.Float.{binary64}
use Rattle.std.specs.Float.Ieee.{to_bits}
use Rattle.sampling.proofs.Laws.RustOrder.{angles_same, cut_count_same}
use Rattle.sheet.specs.Fields.{job_of}
use Rattle.sheet.specs.Edition.{known}
use Rattle.sheet.specs.Refusals.{Answer, accepted, refused}
use Rattle.sheet.specs.Sampling.{angles, items, sheet, cut_count, by_work, answer, output_after}
use Rattle.sheet.specs.Check.{request_of, edition_of, by_edition, by_said}
use Rattle.sheet.specs.Demands.{PairsAsBefore}
use Rattle.sheet.specs.declared.edition.Edition.{Edition}
use Rattle.sheet.specs.Check as Check
use Rattle.sheet.specs.RustOrder as Rust

-- ---- Sampling

items_same : (r : List ℕ) → Rust.items r ≡ items r
unfolding Rust.items items angles
items_same r = ap (map (to_bits binary64)) (angles_same (job_of r))

pub sheet_same : (e : Edition) (r : List ℕ) → Rust.sheet e r ≡ sheet e r
unfolding Rust.sheet sheet
sheet_same e r = rw (items_same r)

answer_same : (r : List ℕ) (places room : ℕ) → Rust.answer r places room ≡ answer r places room
unfolding Rust.answer answer by_work cut_count
answer_same r places room = rw (cut_count_same (job_of r), items_same r)

output_same : (a : Answer) (r output : List ℕ) → Rust.output_after a r output ≡ output_after a r output
output_same (accepted n) r output = rw (sheet_same _ r)
output_same (refused k) r output = refl

-- ---- Check

edition_same : (e : Edition) (s : List ℕ) (places : ℕ) → Rust.check_edition e s places ≡ by_edition e s places
unfolding Rust.check_edition by_edition cut_count
edition_same e s places =
    let r = request_of e s in
    rw (cut_count_same (job_of r), items_same r)

said_same : (k : Option Edition) (s : List ℕ) (places : ℕ) → Rust.check_said k s places ≡ by_said k s places
unfolding Rust.check_said by_said
said_same (Some e) s places = edition_same e s places
said_same None s places = refl

check_same : (upto : Edition) (s : List ℕ) (places : ℕ) → Rust.check upto s places ≡ Check.answer upto s places
unfolding Rust.check Check.answer
check_same upto s places = rw (said_same (known upto (edition_of s)) s places)

pub pairs_as_before : PairsAsBefore
pairs_as_before = record { sampling = answer_same; output = output_same; check = check_same }
