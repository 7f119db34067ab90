pub mod Nearest
pub mod Blocks
