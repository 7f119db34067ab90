pub mod Distances
pub mod Seeding
