pub mod Pairs
pub mod Answers
pub mod Edits
pub mod Judged
pub mod Cells
pub mod Created
