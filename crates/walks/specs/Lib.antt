pub mod Walks
pub mod Walkers
