pub mod Runs
pub mod Sized
pub mod Kept
pub mod Doubled
