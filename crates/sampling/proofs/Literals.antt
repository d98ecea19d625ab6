-- What opens a literal, a quotient or a sign, for the lines over functions that name it.
pub use lib.Ieee.{of_bits, div, neg, round}
