-- Laws of the definitions, for upper files to cite.
-- `Decimal` (the 16 columns of a float; which floats show their digits), `Lines` (how long lines and pages are), `Characters` (each line is 64 characters and a
-- line feed), `Pages` (the pages, one after the other, list each angle once, in order), `Sheets` (of a checked sheet: what its pages show).
pub mod Decimal
pub mod Lines
pub mod Characters
pub mod Pages
pub mod Sheets
