mod Parts
mod Answers
