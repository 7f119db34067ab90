pub mod Places
pub mod Pick
pub mod First
