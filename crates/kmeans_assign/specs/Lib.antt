pub mod Pass
pub mod Parts
pub mod Lent
pub mod Turns
