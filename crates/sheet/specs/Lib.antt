-- Requests and sheets: document 01's module 7. What a reader must believe are the definitions beside this file, each with its sentence of 01:
-- `Bytes`, `Edition` (the editions of the sheet), `Request` (positions, which fields are read, blanking), `Fields` (the job that the fields say, and its
-- matrix), `Refusals` (answers, and the number of each refusal), `Validate` (1 to 8 in order, and 41), `Sheet` (its sizes and trailer), `Sampling` (10, 11,
-- the sheet and the output afterwards), `Check` (31 to 36), `Demands` (statements about them: the three demands, what editions
-- promise, that the order of pairs changed no answer, and that refusal 9 never came).
-- `RustOrder` and `WithNine`: Sampling and Check before 02's changes 3 and 5, to compare with; nothing is promised by them.
-- `Promises`: what inner functions promise one another.
-- `Laws`: theorems, `Demands` among them, that upper crates cite.

pub mod Bytes
pub mod Edition
pub mod Request
pub mod Fields
pub mod Refusals
pub mod Validate
pub mod Sheet
pub mod Sampling
pub mod Check
pub mod RustOrder
pub mod WithNine
pub mod Demands
pub mod Laws
pub mod Promises
