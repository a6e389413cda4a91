pub mod Held
pub mod Moved
pub mod Arcs
pub mod Exact
pub mod Data
