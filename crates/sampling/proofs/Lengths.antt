-- How long the lists of coefficients are, and how many places their roots take, for the lines over functions that name it.
use Rattle.polynomial.specs.Laws.Nine.{length_add, length_multiply, length_determinant}
pub use lib.Pow.{pow_mono}

pub ruleset lengths = (length_add, length_multiply, length_determinant)
