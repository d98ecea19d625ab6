-- What inner functions promise one another: `Order` (order, bounds, an interval that can be bisected), `Jam` and `Parts`
-- (numbers of several words, operands in parts), `Halves` (Dekker's halves), `Beside` (results side by side).
pub mod Order
pub mod Jam
pub mod Parts
pub mod Halves
pub mod Beside
