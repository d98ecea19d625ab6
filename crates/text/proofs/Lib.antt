-- The decimal of a number is what `write!` prints of it; what `all` says of words.
pub mod Printed
pub mod Words
