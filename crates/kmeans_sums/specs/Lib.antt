pub mod Sums
pub mod Gains
pub mod Cohesion
