pub mod Kappas
pub mod Groups
