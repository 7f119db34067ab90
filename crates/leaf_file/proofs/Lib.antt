-- Laws that other proofs cite, each file named after what it is about.
pub mod Bytes
pub mod Fits
pub mod Growing
pub mod Listings
pub mod Long
