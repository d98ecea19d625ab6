-- Names and editions (02, change 2), computed.
use Rattle.std.specs.Prelude.{ℕ, ◌≡◌, refl, List, [], ◌∷◌, ◌++◌, true, false, replicate, Some, None}
use Rattle.sheet.specs.Edition.{newest, numbered, known}
use Rattle.sheet.specs.Request.{request_size}
use Rattle.sheet.specs.Sheet.{sheet_size}
use Rattle.sheet.specs.Validate.{all_zero, is_name}
use Rattle.sheet.specs.declared.edition.Edition.TheVariants.{One, Two}

-- a name of so many times one byte, and zeros
abbrev named : ℕ → ℕ → ℕ → List ℕ
named k b z = replicate k b ++ replicate z 0

empty_name : is_name (named 0 65 32) ≡ true
unfolding is_name all_zero
empty_name = refl

-- a full name has no zero
full_name : is_name (named 32 65 0) ≡ true
unfolding is_name all_zero
full_name = refl

-- 32 and 126 are the ends of the characters, and trailing blanks are bytes like others
both_ends : is_name (126 ∷ 32 ∷ named 0 65 30) ≡ true
unfolding is_name all_zero
both_ends = refl

below : is_name (named 3 31 29) ≡ false
unfolding is_name all_zero
below = refl

above : is_name (65 ∷ 127 ∷ named 0 65 30) ≡ false
unfolding is_name all_zero
above = refl

-- a character after a zero, at once or at the last place
after_zero : is_name (65 ∷ 0 ∷ named 1 65 29) ≡ false
unfolding is_name all_zero
after_zero = refl

at_the_end : is_name (named 1 65 30 ++ (65 ∷ [])) ≡ false
unfolding is_name all_zero
at_the_end = refl

-- an edition is known by its number, to a check that is not older
later : known One 2 ≡ None
unfolding known numbered
later = refl

older : known Two 1 ≡ Some One
unfolding known numbered
older = refl

own : known Two 2 ≡ Some Two
unfolding known numbered
own = refl

neither : known Two 258 ≡ None
unfolding known numbered
neither = refl

-- a request and a sheet of one angle in both editions
sizes : (request_size One ≡ 264) × (sheet_size One 1 ≡ 288) × (request_size newest ≡ 296) × (sheet_size newest 1 ≡ 320)
sizes = (refl, refl, refl, refl)
