mod Harmonics
mod Squares
