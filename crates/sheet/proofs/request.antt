-- What the proofs of `put_blank` and `unread_zero` use.

mod Steps
