pub mod Outcomes
pub mod Doubled
