pub mod Vectors
pub mod Dots
