-- Laws that other proofs cite, each file named after what it is about.
pub mod Vectors
pub mod DotTurns
pub mod Within
pub mod Fours
