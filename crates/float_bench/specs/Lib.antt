-- What the contracts cite: the steps of the loops, and their repetition.
pub mod Steps
