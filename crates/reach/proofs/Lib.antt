pub mod Helds
pub mod Passes
pub mod Arcing
pub mod Ways
pub mod Anewing
pub mod Datas
