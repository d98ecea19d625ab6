mod Split
mod Dekker
mod Equal
mod Normal
mod NotMinusZero
mod Bitwise
mod Range
