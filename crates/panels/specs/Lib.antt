pub mod Reads
pub mod Held
pub mod Bytes
