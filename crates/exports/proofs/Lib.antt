pub mod Views
pub mod Adds
pub mod Refused
pub mod Below
pub mod Checks
pub mod Judging
