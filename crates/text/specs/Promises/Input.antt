-- What `input::read` promises of the bytes that it counts.
use Rattle.std.specs.Prelude.{ℕ, ◌<◌, List, length, take}
use Rattle.std.specs.Io.KnownBytes.{Consumes, IsAtEnd}
use Rattle.std.specs.declared.option.Option.{Option}

-- The first n bytes of the buffer are the next that the reader had, where these are known, and all of them where n is less than the buffer holds.
abbrev pub Gives : ℕ → Option (List ℕ) → Option (List ℕ) → List ℕ → Type 0
Gives n old new buf = Consumes old new (take n buf) × (n < length buf → IsAtEnd new)
