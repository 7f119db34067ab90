-- Laws that other proofs cite.
pub mod Estimate
