-- Laws that other proofs cite, each file named after what it is about.
pub mod Same
pub mod Written
pub mod Directions
pub mod Statistics
pub mod LabelTotals
pub mod Rounds
pub mod Expected
pub mod Lengths
pub mod Runs
