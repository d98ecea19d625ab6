-- What the proof of `Laid::sample_at` goes by.
mod Parts
