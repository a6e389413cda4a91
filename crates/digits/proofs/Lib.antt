pub mod Hex
pub mod Bytes
pub mod Laying
