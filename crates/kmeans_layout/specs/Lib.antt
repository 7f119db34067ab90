pub mod State
pub mod Sized
pub mod Areas
pub mod Kept
