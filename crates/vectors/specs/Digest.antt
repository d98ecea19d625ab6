-- FNV-1a of 64 bits: from the offset basis, for each byte, "exclusive or" with it, then the product with the prime 2 ^ 40 + 435. Definitions only.
use Rattle.std.specs.Prelude.{ℕ, ◌*◌, ◌%◌, ◌^◌, List, [], ◌∷◌, bit_xor}

abbrev pub times_prime : ℕ → ℕ
times_prime h = (h * 1099511628211) % 2 ^ 64

unfoldable pub digest_from : ℕ → List ℕ → ℕ
digest_from h [] = h
digest_from h (b ∷ bs) = digest_from (times_prime (bit_xor h b)) bs

abbrev pub digest : List ℕ → ℕ
digest bytes = digest_from 14695981039346656037 bytes
