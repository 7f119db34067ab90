pub mod Seeds
pub mod Within
