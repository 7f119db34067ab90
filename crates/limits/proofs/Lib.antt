-- Laws that other proofs cite, each file named after what it is about.
pub mod Limits
pub mod Sizes
pub mod Bounds
