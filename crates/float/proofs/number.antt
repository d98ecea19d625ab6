-- What the proof of `floor` uses.
mod WholePart
