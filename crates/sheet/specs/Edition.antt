-- The editions of the sheet (02, change 2): their numbers, the one that Sampling writes, and those that a check knows. What depends on the edition takes it as
-- an argument: `request-size` of Request, `trailer` and `frame-size` of Sheet, `validate`, `sheet`, and Check's definitions. Definitions only.
use Rattle.std.specs.Prelude.{ℕ, cond, eqb, leb, Option, Some, None}
use Rattle.sheet.specs.declared.edition.Edition.{Edition}
use Rattle.sheet.specs.declared.edition.Edition.TheVariants.{One, Two}

abbrev pub number : Edition → ℕ
number One = 1
number Two = 2

-- new sheets
abbrev pub newest : Edition
newest = Two

-- the edition that a number stands for, and the same of the editions up to one
unfoldable pub numbered : ℕ → Option Edition
numbered k = cond (eqb k (number One)) (Some One) (cond (eqb k (number Two)) (Some Two) None)

unfoldable pub known : Edition → ℕ → Option Edition
known upto k = cond (leb k (number upto)) (numbered k) None
