pub mod Ascending
pub mod Shifted
pub mod Edited
pub mod AnyContent
