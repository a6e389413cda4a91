pub mod Square
pub mod AnyContent
