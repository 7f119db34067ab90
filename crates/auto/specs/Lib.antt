pub mod Refusals
pub mod Outcome
pub mod Answers
pub mod Best
pub mod Lone
pub mod Tallied
pub mod Doubled
