pub mod Text
pub mod Stages
pub mod Spelling
pub mod Lines
