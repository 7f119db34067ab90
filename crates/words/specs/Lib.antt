pub mod Words
pub mod Arithmetic
