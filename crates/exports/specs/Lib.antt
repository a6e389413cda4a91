pub mod Limits
pub mod Steps
pub mod Check
pub mod Beyond
