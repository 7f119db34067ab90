pub mod Sized
pub mod Mixture
pub mod Fits
pub mod Areas
