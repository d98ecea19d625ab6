-- What the contracts of `text` cite: `Numbered`, lines with a number; `Lines`, lines of words.
-- `Laws` says that a line of a part of the text is a line of the text.
-- `Promises` is what `input::read` says of the bytes that it counts.
pub mod Numbered
pub mod Lines
pub mod Laws
pub mod Promises
