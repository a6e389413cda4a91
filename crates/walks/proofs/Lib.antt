pub mod Steps
pub mod Reach
