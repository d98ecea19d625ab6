-- Computed examples: `Worked` (fused product and square root by bits), `Constants` (the bits of 01's constants).
mod Worked
mod Constants
