pub mod Arithmetic
pub mod Parts
