-- Laws on plain numbers and on rounding that more than one function's proof uses.
mod Pattern
mod Read
mod Rounded
