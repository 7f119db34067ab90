-- Laws that other proofs cite, each file named after what it is about.
pub mod Known
pub mod Put
