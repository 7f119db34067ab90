-- Laws that other proofs cite, each file named after what it is about.
pub mod Floor
pub mod Turns
pub mod Rest
pub mod SeriesRange
pub mod Exponential
pub mod Low
pub mod Small
pub mod Several
