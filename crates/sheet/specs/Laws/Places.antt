-- Where the fields stand: they lie inside the request, and each byte of a field is read where the field is.
use Rattle.std.specs.Prelude.{ℕ, ◌+◌, ◌-◌, ◌/◌, ◌≤◌, ◌<◌, ◌≡◌, true, Option}
use Rattle.std.proofs.Common.{arith, lt-ltb, le-ltb}
use Rattle.sheet.specs.declared.edition.Edition.{Edition}
use Rattle.sheet.specs.declared.edition.Edition.TheVariants.{One, Two}
use Rattle.sampling.specs.declared.reads.Shape.{Shape}
use Rattle.sheet.specs.declared.request.Field.{Field}
use Rattle.sheet.specs.declared.request.Field.TheVariants.{Sign, Arm, Reference, Offset, From, To}
use Rattle.sheet.specs.Request.{core_size, name_at, name_size, request_size, reads, place, last, width, byte_read}

-- what every request has, and the most that one has
pub core_least : (e : Edition) → core_size ≤ request_size e
core_least One = omega arith
core_least Two = omega arith

pub named_most : (e : Edition) → request_size e ≤ name_at + name_size
named_most One = omega arith
named_most Two = omega arith

pub place_fits : (f : Field) (j : ℕ) → 1 ≤ j → j ≤ 6 → place f j + 8 ≤ core_size
place_fits Sign j a b = omega arith
place_fits Arm j a b = omega arith
place_fits Reference j a b = omega arith
place_fits Offset j a b = omega arith
place_fits From j a b = omega arith
place_fits To j a b = omega arith

pub place_most : (f : Field) (j : ℕ) → 1 ≤ j → j ≤ last f → place f j + width f ≤ core_size
place_most Sign j a b = omega arith
place_most Arm j a b = omega arith
place_most Reference j a b = omega arith
place_most Offset j a b = omega arith
place_most From j a b = omega arith
place_most To j a b = omega arith

-- each byte of a field is read where the field is
pub byte_is : (s : Option Shape) (f : Field) (j i : ℕ) → 1 ≤ j → j ≤ last f → place f j ≤ i → i < place f j + width f → byte_read s i ≡ reads s f j
unfolding byte_read
byte_is s Sign j i a b c d =
    let e : i - 4 + 1 ≡ j = omega arith in
    rw (le-ltb i 4 (omega arith), lt-ltb i 10 (omega arith), e)
byte_is s Arm j i a b c d =
    let e : (i - 48) / 8 + 1 ≡ j = omega arith in
    rw (le-ltb i 4 (omega arith), le-ltb i 10 (omega arith), le-ltb i 48 (omega arith), lt-ltb i 72 (omega arith), e)
byte_is s Reference j i a b c d =
    let e : (i - 72) / 8 + 1 ≡ j = omega arith in
    rw (le-ltb i 4 (omega arith), le-ltb i 10 (omega arith), le-ltb i 48 (omega arith), le-ltb i 72 (omega arith), lt-ltb i 120 (omega arith), e)
byte_is s Offset j i a b c d =
    let e : (i - 120) / 8 + 1 ≡ j = omega arith in
    rw (
      le-ltb i 4 (omega arith),
      le-ltb i 10 (omega arith),
      le-ltb i 48 (omega arith),
      le-ltb i 72 (omega arith),
      le-ltb i 120 (omega arith),
      lt-ltb i 168
          (omega arith),
      e,
    )
byte_is s From j i a b c d =
    let e : (i - 168) / 8 + 1 ≡ j = omega arith in
    rw (
      le-ltb i 4 (omega arith),
      le-ltb i 10 (omega arith),
      le-ltb i 48 (omega arith),
      le-ltb i 72 (omega arith),
      le-ltb i 120 (omega arith),
      le-ltb i 168
          (omega arith),
      lt-ltb i 216 (omega arith),
      e,
    )
byte_is s To j i a b c d =
    let e : (i - 216) / 8 + 1 ≡ j = omega arith in
    rw (
      le-ltb i 4 (omega arith),
      le-ltb i 10 (omega arith),
      le-ltb i 48 (omega arith),
      le-ltb i 72 (omega arith),
      le-ltb i 120 (omega arith),
      le-ltb i 168
          (omega arith),
      le-ltb i 216 (omega arith),
      lt-ltb i name_at (omega arith),
      e,
    )

-- bytes 0 to 3
pub byte_first : (s : Option Shape) (i : ℕ) → i < 4 → byte_read s i ≡ true
unfolding byte_read
byte_first s i a = rw (lt-ltb i 4 (omega arith))

-- bytes 10 to 15 and the rotation
pub byte_always : (s : Option Shape) (i : ℕ) → 10 ≤ i → i < 48 → byte_read s i ≡ true
unfolding byte_read
byte_always s i a b = rw (le-ltb i 4 (omega arith), le-ltb i 10 (omega arith), lt-ltb i 48 (omega arith))

-- the name
pub byte_name : (s : Option Shape) (i : ℕ) → name_at ≤ i → byte_read s i ≡ true
unfolding byte_read
byte_name s i a =
    rw (
      le-ltb i 4 (omega arith),
      le-ltb i 10 (omega arith),
      le-ltb i 48 (omega arith),
      le-ltb i 72 (omega arith),
      le-ltb i 120 (omega arith),
      le-ltb i 168
          (omega arith),
      le-ltb i 216 (omega arith),
      le-ltb i name_at (omega arith),
    )
