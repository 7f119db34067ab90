-- Laws that other proofs cite.
pub mod Tau
pub mod Halves
