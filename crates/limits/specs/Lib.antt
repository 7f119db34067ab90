pub mod Limits
pub mod Refusals
pub mod Sizes
