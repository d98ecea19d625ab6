-- Laws that the proofs of functions cite: `Rounding` (a float in billionths), `Shown` (what is written of it), `Stores` (lines and pages, stored), `Answers`
-- (what is answered at each return).
pub mod Rounding
pub mod Shown
pub mod Stores
pub mod Answers
