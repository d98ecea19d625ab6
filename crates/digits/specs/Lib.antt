-- What the contracts of `digits` cite: `Hex`, hexadecimal digits; `Decimal`, whole numbers in decimal, text in columns.
-- `Laws` is what upper crates cite; `Promises`, what the code writes from the right.
pub mod Hex
pub mod Decimal
pub mod Laws
pub mod Promises
