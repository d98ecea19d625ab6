-- What opens a literal, for the lines over functions that name it.
pub use lib.Ieee.{of_bits}
