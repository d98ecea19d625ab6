-- Pages of angles (02, change 4). What a reader must believe are the definitions beside this file: `Decimal` (an angle with nine decimals), `Page` (lines and
-- pages), `Operation` (the page of a checked sheet, its refusals, and the page slice afterwards).
-- `Promises`: what inner functions promise one another. `Laws`: theorems.
pub mod Decimal
pub mod Page
pub mod Operation
pub mod Promises
pub mod Laws
