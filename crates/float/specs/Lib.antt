-- The float floor of document 01: its modules 1 and 2. What a reader must believe are the definitions beside this file, each with its sentence of 01:
-- `Number` (magnitude to clamp, and the greatest whole number not above), `MulAdd` (fused product), `Sqrt`, `ProductError`, `Trig` (module 2).
-- `Promises`: what inner functions promise one another.
-- `Examples`: computed examples.
-- `Laws`: theorems that upper crates cite.
pub mod Number
pub mod MulAdd
pub mod Sqrt
pub mod ProductError
pub mod Trig
pub mod Laws
pub mod Promises
mod Examples
