pub mod Book
pub mod Lawful
pub mod Accounts
pub mod Edited
pub mod Created
pub mod Runs
