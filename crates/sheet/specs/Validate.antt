-- The tests that a request must pass: refusals 1 to 8 (01, Sampling) and 41 (02, change 2). An unread field passes every test, and NaN is within no range.
-- Definitions only.
use Rattle.std.specs.Prelude.{Ok, Err, ℕ, zero, suc, List, [], ◌∷◌, Bool, true, false, cond}
use Rattle.std.specs.Prelude.{◌&&◌, ◌||◌, length, get_or, drop, eqb, leb, pos, Float, Option, Some, None}
use Rattle.std.specs.Float.{fin}
use Rattle.std.specs.Float.Ieee.{le, neg}
use Rattle.std.specs.Float.Ieee.Scale.{finite}
use Rattle.polynomial.specs.Angle.{two_pi}
use Rattle.sampling.specs.Pose.{Normalized, try_normalize}
use Rattle.sampling.specs.declared.pose.Degenerate.TheVariants.{NotFinite, Zero}
use Rattle.sheet.specs.declared.edition.Edition.{Edition}
use Rattle.sampling.specs.declared.reads.Shape.{Shape}
use Rattle.sheet.specs.declared.request.Field.{Field}
use Rattle.sheet.specs.declared.request.Field.TheVariants.{Sign, Arm, Reference, Offset, From, To}
use Rattle.sheet.specs.Refusals.{Answer, need}
use Rattle.sheet.specs.Request.{request_size, shape_of, reads, place, last, reserved_at, name_at}
use Rattle.sheet.specs.Fields.{field, rotation_of}

-- p at n numbers from j on
unfoldable pub all_from : ℕ → ℕ → (ℕ → Bool) → Bool
all_from zero j p = true
all_from (suc n) j p = p j && all_from n (suc j) p

-- ---- 2: kind, flags and reserved bytes

unfoldable pub right : Option Shape → Bool
right None = false
right (Some s) = true

abbrev pub zero_at : List ℕ → ℕ → Bool
zero_at r i = eqb (get_or r i 0) 0

unfoldable pub head_right : List ℕ → Bool
head_right r = right (shape_of r) && (zero_at r 3 && all_from 6 reserved_at (zero_at r))

-- ---- 41: the name, which a request of edition 1 lacks, is characters 32 to 126, then zeros to the end

abbrev pub is_character : ℕ → Bool
is_character b = leb 32 b && leb b 126

unfoldable pub all_zero : List ℕ → Bool
all_zero [] = true
all_zero (b ∷ bs) = eqb b 0 && all_zero bs

unfoldable pub is_name : List ℕ → Bool
is_name [] = true
is_name (b ∷ bs) = cond (is_character b) (is_name bs) (all_zero (b ∷ bs))

unfoldable pub name_right : List ℕ → Bool
name_right r = is_name (drop name_at r)

-- ---- 3: a read sign is 1 or 255

unfoldable pub sign_right : Option Shape → List ℕ → ℕ → Bool
sign_right s r j = cond (reads s Sign j) (eqb (get_or r (place Sign j) 0) 1 || eqb (get_or r (place Sign j) 0) 255) true

unfoldable pub signs_right : List ℕ → Bool
signs_right r = all_from 6 1 (sign_right (shape_of r) r)

-- ---- 4 and 5: the rotation's parts and length are finite; the length is not zero

unfoldable pub rotation_finite : Normalized → Bool
rotation_finite (Ok q) = true
rotation_finite (Err NotFinite) = false
rotation_finite (Err Zero) = true

unfoldable pub rotation_nonzero : Normalized → Bool
rotation_nonzero (Ok q) = true
rotation_nonzero (Err NotFinite) = true
rotation_nonzero (Err Zero) = false

-- ---- 6, 7 and 8: arm angles within ±8, references finite, offsets within ±2P; limits may hold any bits

unfoldable pub within : Float → Float → Bool
within bound x = le (neg bound) x && le x bound

abbrev pub eight : Float
eight = fin false 1 (pos 3)

unfoldable pub passes : Field → Float → Bool
passes Sign x = true
passes Arm x = within eight x
passes Reference x = finite x
passes Offset x = within two_pi x
passes From x = true
passes To x = true

unfoldable pub field_right : Option Shape → Field → List ℕ → ℕ → Bool
field_right s f r j = cond (reads s f j) (passes f (field r f j)) true

abbrev pub fields_right : Field → List ℕ → Bool
fields_right f r = all_from (last f) 1 (field_right (shape_of r) f r)

unfoldable pub arm_within : List ℕ → Bool
arm_within r = fields_right Arm r

unfoldable pub references_finite : List ℕ → Bool
references_finite r = fields_right Reference r

unfoldable pub offsets_within : List ℕ → Bool
offsets_within r = fields_right Offset r

-- ---- 1 to 8 in this order, of a request of an edition, 41 after 2, and then v

unfoldable pub validate : Edition → List ℕ → Answer → Answer
validate e r v =
    need (eqb (length r) (request_size e)) 1
    (need (head_right r) 2
    (need (name_right r) 41
    (need (signs_right r) 3
    (need (rotation_finite (try_normalize (rotation_of r))) 4
    (need (rotation_nonzero (try_normalize (rotation_of r))) 5
    (need (arm_within r) 6
    (need (references_finite r) 7
    (need (offsets_within r) 8
    v))))))))
