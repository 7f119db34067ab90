pub mod Tails
pub mod Numbers
pub mod Below
