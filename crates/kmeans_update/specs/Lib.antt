pub mod Update
pub mod Groups
