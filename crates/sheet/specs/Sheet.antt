-- The sizes and the trailer of a sheet (01, "Request and sheet"). Definitions only.
use Rattle.std.specs.Prelude.{ℕ, ◌+◌, ◌*◌, ◌^◌, List, ◌++◌}
use Rattle.sheet.specs.Bytes.{bytes}
use Rattle.sheet.specs.Edition.{number}
use Rattle.sheet.specs.Request.{request_size}
use Rattle.sheet.specs.declared.edition.Edition.{Edition}

abbrev pub trailer_size : ℕ
trailer_size = 16

-- a sheet without its items
abbrev pub frame_size : Edition → ℕ
frame_size e = request_size e + trailer_size

-- the request's position 8n is a u32, so n is below this
abbrev pub items_bound : ℕ
items_bound = 2 ^ 29

-- the bytes of a sheet with n items
abbrev pub sheet_size : Edition → ℕ → ℕ
sheet_size e n = 8 * n + frame_size e

-- n, the request's position 8n, the edition, six zero bytes
unfoldable pub trailer : Edition → ℕ → List ℕ
trailer e n = bytes 4 n ++ bytes 4 (8 * n) ++ bytes 2 (number e) ++ bytes 6 0
