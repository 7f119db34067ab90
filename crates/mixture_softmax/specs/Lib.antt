pub mod Softmax
pub mod Leaves
pub mod Blocks
