pub mod Normalizer
pub mod Concentration
pub mod Start
