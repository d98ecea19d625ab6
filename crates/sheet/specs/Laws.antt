-- Laws of the definitions, for upper files to cite.
-- `Bytes` (numbers of bytes and bytes of numbers, runs of stores, comparison), `Blank` (the blanked request byte by byte), `Places` (where fields stand),
-- `Names` (a name is so many characters and then zeros),
-- `Agree` (what agrees in two requests that agree in all that is read; they do exactly where their blanked requests are equal),
-- `Validate` (refusals 1 to 8 and 41 depend on what is read alone), `Tested` (what the tests come to, and what is known of a request that passes them), `Sheet`
-- (the trailer),
-- `Plan` (what becomes of a request that passed), `Bounds` (its angles lie within ±32), `Sampling` (how a sheet is stored, and its length), `Check` (its
-- refusals one by one), `Accepted` (what is known of an accepted request), `Written` (the parts of a sheet), `Faithful` (the bytes of a sheet stand for its
-- angles),
-- `Alike` (two requests that agree in what is read have the same angles and the same answers), `Demands` (the demands, proved), `Editions`
-- (what the editions promise, proved), `Listed` (an accepted sheet lists the items of the request inside), `RustOrder` (every answer is what it was with the
-- pairs of curves in the Rust's order). What no upper file cites, that every inner call is fair, is proved in `proofs/InnerCalls`.

pub mod Bytes
pub mod Blank
pub mod Places
pub mod Names
pub mod Agree
pub mod Validate
pub mod Tested
pub mod Plan
pub mod Bounds
pub mod Sampling
pub mod Alike
pub mod Check
pub mod Accepted
pub mod Written
pub mod Faithful
pub mod Demands
pub mod Editions
pub mod Listed
pub mod RustOrder
pub mod Sheet
