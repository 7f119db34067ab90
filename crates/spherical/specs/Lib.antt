pub mod Refusals
pub mod Outcome
pub mod Answers
pub mod Doubled
pub mod Work
