-- Laws that other proofs cite.
pub mod Xor
