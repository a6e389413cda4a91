pub mod Replays
pub mod Judging
pub mod Written
pub mod Below
