pub mod Products
pub mod Bests
pub mod Outcomes
pub mod Lone
pub mod Doubled
