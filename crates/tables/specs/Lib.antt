pub mod Kinds
pub mod Refusals
pub mod Panel
pub mod Spans
pub mod View
pub mod Graph
