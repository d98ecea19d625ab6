-- What the proof of `same_angles` uses.

mod Floats
mod Refused
