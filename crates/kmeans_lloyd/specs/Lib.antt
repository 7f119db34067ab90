pub mod Lloyd
pub mod Runs
pub mod Results
pub mod Doubled
