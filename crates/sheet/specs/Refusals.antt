-- Answers, and the papers' number of each refusal. Definitions only.
use Rattle.std.specs.Prelude.{ℕ, Bool, true, false, ℤ, pos, neg_ℤ}
use Rattle.sheet.specs.declared.refusals.Refusal.{Refusal}
use Rattle.sheet.specs.declared.refusals.Fault.{Fault}
use Rattle.sheet.specs.declared.refusals.Refusal.TheVariants as refusal
use Rattle.sheet.specs.declared.refusals.Fault.TheVariants as fault

-- accepted with a count, of angles or of bytes, or refused with a number
pub data Answer : Type 0 where
  accepted : ℕ → Answer
  refused : ℕ → Answer

-- what comes next, if a condition holds, and else the refusal k
unfoldable pub need : Bool → ℕ → Answer → Answer
need true k v = v
need false k v = refused k

-- Sampling
abbrev pub number : Refusal → ℕ
number refusal.Length = 1
number refusal.Head = 2
number refusal.Name = 41
number refusal.Sign = 3
number refusal.NotFinite = 4
number refusal.Zero = 5
number refusal.Arm = 6
number refusal.Reference = 7
number refusal.Offset = 8
number refusal.Work = 10
number refusal.Output = 11

-- Check
abbrev pub fault_number : Fault → ℕ
fault_number fault.Length = 31
fault_number fault.Trailer = 32
fault_number fault.Request = 33
fault_number fault.Unread = 34
fault_number fault.Work = 35
fault_number fault.Angles = 36

-- for C: the count, or minus the refusal's number
abbrev pub signed : Answer → ℤ
signed (accepted n) = pos n
signed (refused k) = neg_ℤ (pos k)
