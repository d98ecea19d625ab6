-- The request (01, "Request and sheet"): where its fields stand, which of them are read, and the request with every unread field zero. Definitions only.
use Rattle.std.specs.Prelude.{ℕ, suc, ◌+◌, ◌-◌, ◌*◌, ◌/◌, ◌≤◌, ◌≡◌, List, [], ◌∷◌, Bool}
use Rattle.std.specs.Prelude.{true, false, cond, ◌&&◌, length, get_or, T, eqb, ltb, Option, Some, None}
use Rattle.sampling.specs.Reads.{joint_read, reference_read, arm_read}
use Rattle.sampling.specs.declared.job.Kind.{Kind}
use Rattle.sampling.specs.declared.job.Kind.TheVariants.{J1free, J2free, J1j2free}
use Rattle.sheet.specs.Bytes.{part}
use Rattle.sheet.specs.declared.edition.Edition.{Edition}
use Rattle.sheet.specs.declared.edition.Edition.TheVariants.{One, Two}
use Rattle.sampling.specs.declared.reads.Shape.{Shape}
use Rattle.sheet.specs.declared.request.Field.{Field}
use Rattle.sheet.specs.declared.request.Field.TheVariants.{Sign, Arm, Reference, Offset, From, To}

-- ---- sizes and positions, in bytes

-- kind, flags, signs, rotation, arm, references, offsets, limits: what every request has
abbrev pub core_size : ℕ
core_size = 264

-- from edition 2 on the card's name stands behind it (02, change 2)
abbrev pub name_at : ℕ
name_at = core_size

abbrev pub name_size : ℕ
name_size = 32

abbrev pub request_size : Edition → ℕ
request_size One = core_size
request_size Two = core_size + name_size

-- bytes 10 to 15 are reserved
abbrev pub reserved_at : ℕ
reserved_at = 10

-- x, y, z, w
abbrev pub rotation_at : ℕ
rotation_at = 16

-- the first field of a class: of joint 1, or the arm's q1
abbrev pub start : Field → ℕ
start Sign = 4
start Arm = 48
start Reference = 72
start Offset = 120
start From = 168
start To = 216

-- how many there are
abbrev pub last : Field → ℕ
last Sign = 6
last Arm = 3
last Reference = 6
last Offset = 6
last From = 6
last To = 6

-- how many bytes each has
abbrev pub width : Field → ℕ
width Sign = 1
width Arm = 8
width Reference = 8
width Offset = 8
width From = 8
width To = 8

-- the field of joint j, or the arm's angle j
abbrev pub place : Field → ℕ → ℕ
place f j = start f + width f * (j - 1)

-- ---- kind, limits present and sixth joint fixed; `None` where one of the three is wrong

abbrev pub right_shape : Kind → Bool → Bool → Option Shape
right_shape kind limits fixed = Some (record { kind = kind; limits = limits; fixed = fixed })

unfoldable pub shape_by : ℕ → Bool → Bool → Option Shape
shape_by kind limits fixed =
    cond (eqb kind 1) (right_shape J1free limits fixed)
    (cond (eqb kind 2) (right_shape J2free limits fixed)
    (cond (eqb kind 3) (right_shape J1j2free limits fixed)
    None))

unfoldable pub shape_fixed : ℕ → Bool → ℕ → Option Shape
shape_fixed kind limits fixed = cond (eqb fixed 0) (shape_by kind limits false) (cond (eqb fixed 1) (shape_by kind limits true) None)

unfoldable pub shape_from : ℕ → ℕ → ℕ → Option Shape
shape_from kind limits fixed = cond (eqb limits 0) (shape_fixed kind false fixed) (cond (eqb limits 1) (shape_fixed kind true fixed) None)

unfoldable pub shape_of : List ℕ → Option Shape
shape_of r = shape_from (get_or r 0 0) (get_or r 1 0) (get_or r 2 0)

-- ---- which fields are read: by kind and flags what sampling's `Reads` says, and limits, if present, for the joints whose signs are; under a wrong kind or
-- flag none

unfoldable pub reads : Option Shape → Field → ℕ → Bool
reads None f j = false
reads (Some s) Sign j = joint_read s.kind s.limits s.fixed j
reads (Some s) Arm j = arm_read s.kind j
reads (Some s) Reference j = reference_read s.kind s.limits s.fixed j
reads (Some s) Offset j = joint_read s.kind s.limits s.fixed j
reads (Some s) From j = s.limits && joint_read s.kind s.limits s.fixed j
reads (Some s) To j = s.limits && joint_read s.kind s.limits s.fixed j

-- a byte of the request: bytes 0 to 3 and 10 to 15, the rotation and the name are read always, any other as its field is
unfoldable pub byte_read : Option Shape → ℕ → Bool
byte_read s i =
    cond (ltb i (start Sign)) true
    (cond (ltb i reserved_at) (reads s Sign (i - start Sign + 1))
    (cond (ltb i (start Arm)) true
    (cond (ltb i (start Reference)) (reads s Arm ((i - start Arm) / 8 + 1))
    (cond (ltb i (start Offset)) (reads s Reference ((i - start Reference) / 8 + 1))
    (cond (ltb i (start From)) (reads s Offset ((i - start Offset) / 8 + 1))
    (cond (ltb i (start To)) (reads s From ((i - start From) / 8 + 1))
    (cond (ltb i name_at) (reads s To ((i - start To) / 8 + 1))
    true)))))))

-- ---- two requests agree in all that is read

-- byte by byte, as requests of an edition
pub record Agree (e : Edition) (r s : List ℕ) : Type 0 where
  pub whole : length r ≡ request_size e
  pub whole' : length s ≡ request_size e
  pub same : (i : ℕ) → T (byte_read (shape_of r) i) → get_or r i 0 ≡ get_or s i 0

-- field by field; `agree-fields` of Laws/Agree says that this is the same
pub record AgreeFields (e : Edition) (r s : List ℕ) : Type 0 where
  pub whole : length r ≡ request_size e
  pub whole' : length s ≡ request_size e
  pub head : part 0 4 r ≡ part 0 4 s
  pub reserved : part reserved_at 6 r ≡ part reserved_at 6 s
  pub rotation : part rotation_at 32 r ≡ part rotation_at 32 s
  pub field : (f : Field) (j : ℕ) → 1 ≤ j → j ≤ last f → T (reads (shape_of r) f j) → part (place f j) (width f) r ≡ part (place f j) (width f) s
  pub name : part name_at name_size r ≡ part name_at name_size s

-- ---- the request with every unread field zero

unfoldable pub blank_from : Option Shape → ℕ → List ℕ → List ℕ
blank_from s i [] = []
blank_from s i (b ∷ bs) = cond (byte_read s i) b 0 ∷ blank_from s (suc i) bs

abbrev pub blank : List ℕ → List ℕ
blank r = blank_from (shape_of r) 0 r
