mod Guessed
mod Middles
mod Rooted
