pub mod Restarts
pub mod Runs
