pub mod Starts
pub mod Rounds
pub mod Tallies
pub mod Runs
pub mod Doubled
pub mod Arrays
