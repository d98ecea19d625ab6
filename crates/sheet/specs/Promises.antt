-- What inner functions promise one another: `Floats` (the bytes of floats), `Tested` (what the tests of a request come to), `Plan` (what becomes of a
-- request that passed them).
pub mod Floats
pub mod Tested
pub mod Plan
