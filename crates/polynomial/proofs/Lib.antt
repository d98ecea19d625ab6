-- What the proofs of several functions share: `Placed` (a list in a lent slice), `Down` (a loop that goes down a list).
mod Placed
mod Down
mod Literals
