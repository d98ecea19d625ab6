-- What is proved of the definitions and what no contract and no other file cites: every inner call of the root finder is fair.

mod InnerCalls
mod Literals
