pub mod Served
pub mod Updates
pub mod Reseeds
