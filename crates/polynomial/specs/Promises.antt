-- What inner functions promise one another: `Lists` (words about lists), `Front` (a list in a lent slice), `Insert` and `Held`
-- (cuts in a lent slice), `Inside` (bisection), `Plain` (signs by plain arithmetic), `Norm` (the roots of a squared norm).
pub mod Lists
pub mod Front
pub mod Insert
pub mod Held
pub mod Inside
pub mod Plain
pub mod Norm
