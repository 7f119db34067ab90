pub mod Cases
pub mod Labels
pub mod Passes
pub mod Tallies
pub mod Fused
