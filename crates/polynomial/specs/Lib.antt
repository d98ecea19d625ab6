-- Polynomials and the root finder: document 01's module 3. What a reader must believe are the
-- definitions beside this file, each with its sentence of 01 or its function of the Rust:
-- `Compensated`, `Cuts` (sorted lists without duplicates), `Polynomial` (sums, products, evaluation),
-- `Roots` (the root finder), `Kinds` (how a root arose), `Operation` (Roots with its refusals), `Angle`, `Curve`.
-- `InnerCalls` states what is proved of inner calls.
-- `Promises`: what inner functions promise one another.
-- `Laws`: theorems that upper crates cite.
pub mod Compensated
pub mod Cuts
pub mod Polynomial
pub mod Roots
pub mod Kinds
pub mod Operation
pub mod Angle
pub mod Curve
pub mod InnerCalls
pub mod Laws
pub mod Promises
