pub mod Turns
pub mod Doubled
pub mod Lengths
