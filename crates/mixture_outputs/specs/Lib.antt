pub mod Outputs
pub mod Refusals
pub mod Labels
pub mod Lent
