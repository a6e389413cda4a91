pub mod Digits
pub mod Lay
