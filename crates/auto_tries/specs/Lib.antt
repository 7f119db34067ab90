pub mod Lone
pub mod Tries
