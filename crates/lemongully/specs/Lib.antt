-- `Numbers`: what C gets of an answer. `Examples` of all layers, computed: nothing that a contract says.
pub mod Numbers
mod Examples
