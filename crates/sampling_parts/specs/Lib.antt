-- Module 4 one number at a time: `Parts`, which a reader must believe.
pub mod Parts
