pub mod Shifts
pub mod Products
