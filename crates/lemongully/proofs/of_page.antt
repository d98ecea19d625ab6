-- `Room`: an accepted answer is at most the bytes that were lent.

mod Room
