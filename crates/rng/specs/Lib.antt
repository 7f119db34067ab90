pub mod SplitMix
pub mod Drawn
